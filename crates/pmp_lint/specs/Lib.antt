-- What a reader must trust: what is found, by which definition, its row, and which line of the script it names.
pub mod Lints
pub mod Accepting
pub mod Findings
pub mod Events
pub mod EndState
pub mod WriteAndExecute
pub mod LateWrites
pub mod OpenBetween
pub mod Report
pub mod TableRows
pub mod Why
pub mod WhyRows
-- A law of these definitions, proved.
pub mod EndStateLaw
-- The rest, used only by private contracts.
pub mod Telling
pub mod Subjects
