pub mod Converted
pub mod Copied
pub mod Records
