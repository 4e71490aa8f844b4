pub mod Giving
pub mod Answering
pub mod Judging
pub mod EasyWays
pub mod Rules
pub mod NoRows
pub mod Exits
