pub mod Reply
pub mod Output
pub mod Blocks
pub mod Claims
pub mod Streams
