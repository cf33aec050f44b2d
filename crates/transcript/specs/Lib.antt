pub mod Grammar
pub mod Commands
pub mod Text
pub mod Claims
