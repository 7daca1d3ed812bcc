pub mod Entries
pub mod EnteringRecords
