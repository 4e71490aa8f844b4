-- How the readers go through a text, step by step.
pub mod Cuts
pub mod Progress
pub mod Reading
pub mod Records
pub mod Views
