-- What a reader must trust: what each export returns.
pub mod Rooms
pub mod Request
pub mod Demand
pub mod Answers
pub mod Plans
