mod AddedNames
mod ApartSteps
pub mod ArchiveFronts
mod DirectoryTimes
mod DotWalks
mod DraftRuns
mod DraftedMembers
mod ExportedMembers
mod GrownTrees
pub mod ImportFaults
mod KeptNodes
pub mod MadeMembers
mod MemberCalls
pub mod MemberRuns
mod NodeNumbers
pub mod PlanRuns
pub mod RecordRuns
mod RecordsBack
mod SameTrees
pub mod SortRuns
mod SplitPaths
pub mod Steps
mod WrittenMembers
