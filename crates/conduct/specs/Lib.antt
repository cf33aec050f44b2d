pub mod Made
pub mod Claim
pub mod Hosts
pub mod Witness
