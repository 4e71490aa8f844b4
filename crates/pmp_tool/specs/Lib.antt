-- What a reader has to believe: what words ask for, what is answered, and how a failure is told.
pub mod Arguments
pub mod CommandLines
pub mod Commands
pub mod Expected
pub mod Explanations
pub mod Failures
pub mod FaultLines
pub mod HartComparisons
pub mod HartImports
pub mod HartScripts
pub mod Harts
pub mod HartWords
pub mod Inputs
pub mod Notes
pub mod NumberedInputs
pub mod Outcomes
pub mod Questions
pub mod RowFormats
pub mod Runs
pub mod Streams
pub mod Texts
pub mod Words
-- A law of these definitions, which is proved.
pub mod LineLengths
-- The rest, which only private contracts cite.
pub mod Building
pub mod Finding
pub mod HartSteps
