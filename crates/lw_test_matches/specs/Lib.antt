pub mod Drawing
pub mod Fitting
pub mod Steep
pub mod SteepLaws
