mod EntryGives
pub mod LoopRecords
