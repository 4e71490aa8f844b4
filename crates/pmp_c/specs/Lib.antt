-- What a reader must trust: what the numbers at the boundary mean.
pub mod RangeRights
pub mod RunAnswer
pub mod Questions
pub mod Unit
pub mod Settling
pub mod Status
