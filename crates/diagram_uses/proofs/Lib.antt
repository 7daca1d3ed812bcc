pub mod UsesBlocked
