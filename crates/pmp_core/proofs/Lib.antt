pub mod Napot
pub mod Places
pub mod Configuring
pub mod Passes
pub mod Matches
pub mod Decisions
pub mod Legal
pub mod Flags
pub mod Grains
pub mod Locks
pub mod Sticky
pub mod Parts
pub mod MachineCode
pub mod Held
pub mod Protection
pub mod Sizes
pub mod Others
pub mod Moves
pub mod Spans
pub mod StoredBytes
pub mod HartNumbers
pub mod Saved
pub mod Blocks
pub mod Restored
mod Writes
pub mod EachReason
pub mod WordBytes
pub mod WordTests
pub mod AbsentBytes
pub mod WordReasons
pub mod AddressReasons
pub mod MseccfgReasons
pub mod ReasonsLaw
pub mod Reachable
pub mod MovedWrites
mod FlaggedReasons
mod Xlen
