pub mod DiffLaws
pub mod FieldLaws
pub mod GroupLaws
pub mod RoleLaws
pub mod RowLaws
pub mod RunLaws
pub mod SpotLaws
