pub mod DifferenceLaws
pub mod DigitLaws
pub mod ItemTexts
pub mod Whole
