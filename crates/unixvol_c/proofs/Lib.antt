pub mod AsBox
pub mod JournalBytes
pub mod Judged
pub mod KeptStreams
pub mod Replied
