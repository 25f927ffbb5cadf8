pub mod Model
pub mod Stolen
pub mod Releases
pub mod Prefix
pub mod InTime
pub mod Start
pub mod Plain
pub mod Examples
