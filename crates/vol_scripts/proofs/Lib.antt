pub mod ReadingLemmas
pub mod TextLemmas
pub mod EndingLemmas
pub mod FlawLemmas
pub mod ReportWhole
