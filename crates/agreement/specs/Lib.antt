pub mod Model
pub mod Claim
pub mod Witness
pub mod Worked
