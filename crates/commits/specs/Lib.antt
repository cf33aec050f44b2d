pub mod Commit
pub mod Claims
pub mod Taken
pub mod Standing
