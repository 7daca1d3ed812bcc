pub mod FirstNumbers
