pub mod Replies
pub mod Feeding
pub mod Ending
pub mod Claims
pub mod Streams
