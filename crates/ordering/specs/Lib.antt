pub mod Calls
pub mod Bundle
pub mod Kept
pub mod Reached
pub mod Compared
pub mod Inner
