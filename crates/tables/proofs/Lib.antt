pub mod Bytes
pub mod Converted
pub mod Door
pub mod Filling
pub mod Paired
pub mod Wrote
