pub mod Forms
pub mod Answered
pub mod Lossless
