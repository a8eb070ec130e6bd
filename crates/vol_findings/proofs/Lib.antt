pub mod Noted
pub mod Soundness
pub mod OutcomeLaws
