mod Fields
mod RecordsRead
mod Laid
pub mod Files
