pub mod Made
pub mod Paces
