pub mod Layout
pub mod Buffer
pub mod Passes
pub mod Early
pub mod Claims
pub mod Inner
