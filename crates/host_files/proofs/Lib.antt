pub mod Archives
pub mod Fronts
pub mod Packs
pub mod Trees
pub mod Zeros
