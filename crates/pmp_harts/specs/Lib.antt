-- What a hart of the example keeps.
pub mod Pages
pub mod Tlb
