-- What a reader must trust: these, and the definitions of pmp_core.
pub mod Batches
pub mod Object
pub mod Tokens
pub mod Known
pub mod Looks
pub mod Openings
pub mod Room
pub mod Journals
pub mod NoticeRings
-- Laws of these definitions, all proved.
pub mod Laws
-- How the crate implements them.
pub mod History
pub mod Versions
pub mod Rule
pub mod Digests
pub mod WriterStates
pub mod Publishing
