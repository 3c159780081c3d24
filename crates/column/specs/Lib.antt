-- The definitions of the crate `column`: columns as lists of entries, and as lists of records.
pub mod Entries
pub mod Records
