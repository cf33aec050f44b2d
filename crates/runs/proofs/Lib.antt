pub mod Asked
pub mod Short
pub mod Own
pub mod Claims
