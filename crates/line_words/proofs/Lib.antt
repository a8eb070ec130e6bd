pub mod DigitLemmas
pub mod PieceLemmas
