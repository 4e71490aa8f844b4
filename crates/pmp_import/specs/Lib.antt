-- What a reader must trust: what each line means, and which script a log gives.
pub mod Said
pub mod Qemu
pub mod Debuggers
pub mod Spike
pub mod Formats
pub mod Imported
pub mod Imports
pub mod Surveys
pub mod LogTexts
-- Laws of these definitions, proved.
pub mod Laws
-- The rest: the steps of a reading, used only by private contracts.
pub mod Steps
