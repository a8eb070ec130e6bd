pub mod Accepted
pub mod AcceptedCalls
mod AnsweredQueries
pub mod Journals
mod MappedErrors
pub mod FirstTests
pub mod FreeNumbers
pub mod KeptInodes
pub mod LeftRests
pub mod NeedReadings
pub mod NodeReadings
pub mod PerformedCalls
mod QueriedNodes
pub mod Refusals
pub mod StandingImages
pub mod TreeWalks
pub mod TwoPaths
