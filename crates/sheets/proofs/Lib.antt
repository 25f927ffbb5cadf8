pub mod Printed
pub mod Fields
pub mod Walked
