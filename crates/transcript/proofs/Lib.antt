pub mod Numerals
pub mod Words
pub mod Digits
pub mod Claims
