pub mod StepLaws
pub mod QueryLaws
pub mod ListLaws
pub mod PlayerLaws
pub mod EndLaws
pub mod OpenLaws
pub mod ReadLaws
