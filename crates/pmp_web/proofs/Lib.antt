pub mod FirstEvents
