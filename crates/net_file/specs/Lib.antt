pub mod Due
pub mod Contents
