pub mod Lists
pub mod OneRow
pub mod Scan
pub mod Checked
