-- What a reader must trust.
pub mod Runs
pub mod Answers
pub mod RangeRights
pub mod RightsRuns
pub mod OpenBytes
pub mod ByteLocks
pub mod ComparedRuns
pub mod Request
pub mod Answer
-- Used by private contracts: owners by ranges, painting, and a map's tables.
pub mod Owners
pub mod Painting
pub mod Search
pub mod Columns
pub mod Rows
pub mod Causes
pub mod Tables
-- Laws of these definitions, all proved, with the terms that only they need.
pub mod RunsLaw
pub mod OpenBytesLaw
pub mod AnswerLaw
