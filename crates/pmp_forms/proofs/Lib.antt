pub mod ColumnLists
pub mod Joining
