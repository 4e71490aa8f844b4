pub mod Building
pub mod Explaining
pub mod HartComparing
pub mod HartImporting
pub mod Harting
pub mod LineLengths
pub mod Reading
pub mod Running
pub mod Steps
mod Telling
