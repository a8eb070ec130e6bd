pub mod Bodies
pub mod States
pub mod Rules
pub mod Marks
pub mod Files
pub mod Laws
