pub mod Holding
pub mod OneRow
