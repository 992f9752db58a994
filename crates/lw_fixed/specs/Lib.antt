pub mod Decimals
pub mod Printed
