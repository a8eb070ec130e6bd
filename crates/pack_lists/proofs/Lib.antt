pub mod Lemmas
pub mod ReadAsWritten
pub mod ReadBack
