pub mod Behind
pub mod Crossing
