pub mod Catalogued
pub mod OtherVolumes
pub mod PackFiles
pub mod Verdicts
