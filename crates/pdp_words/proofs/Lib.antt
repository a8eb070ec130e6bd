pub mod Outside
pub mod Below
pub mod Outputs
