pub mod Steps
pub mod Claim
pub mod Hosts
pub mod Witness
