pub use Rattle.command_words.specs.Invocations
pub use Rattle.command_words.specs.Verbs
pub mod CommandLine
pub mod Explain
pub mod Laws
pub mod Words
