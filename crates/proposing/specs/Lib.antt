pub mod Own
pub mod Making
pub mod Signing
pub mod Claims
pub mod Inner
