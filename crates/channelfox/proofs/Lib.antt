pub mod Mapped
pub mod Answered
