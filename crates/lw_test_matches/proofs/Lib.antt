mod Marks
mod Leaves
