pub mod InPlace
pub mod FromSlice
