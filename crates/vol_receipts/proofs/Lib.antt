pub mod Agreement
pub mod Around
pub mod FoundReceipts
pub mod Records
pub mod Verdicts
