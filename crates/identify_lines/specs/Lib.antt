pub mod GuessJson
pub mod Lines
pub mod ShellWords
pub mod ShownPath
