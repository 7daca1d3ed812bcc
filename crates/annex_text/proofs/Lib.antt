pub mod MarksAndRecords
pub mod WrittenLines
