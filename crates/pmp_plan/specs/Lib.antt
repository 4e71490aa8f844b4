-- What a reader must trust: what a plan means, how a text is read as one, and what is written for one.
pub mod Plans
pub mod PlanRules
pub mod Routes
pub mod PlanFaults
pub mod Fields
pub mod PlanTexts
pub mod PlanScripts
pub mod PlanArrays
pub mod PlanAnswers
pub mod PlansOf
pub mod PlanRooms
pub mod Verdicts
-- The rest, used only by private contracts.
pub mod KeptRows
pub mod Walks
pub mod Steps
pub mod StoredRules
pub mod NoRows
