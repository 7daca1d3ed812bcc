pub mod Lines
pub mod RecordLaws
pub mod NetTexts
pub mod Sizes
pub mod Printed
pub mod Prefix
