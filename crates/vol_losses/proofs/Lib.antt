pub mod BadLaws
pub mod BadMarks
pub mod CutLaws
pub mod Agreement
pub mod LostPaths
pub mod RangeLists
pub mod SureFlags
pub mod SureNames
