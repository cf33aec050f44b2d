pub mod Kept
pub mod Laws
pub mod Asking
pub mod Offering
pub mod Passing
