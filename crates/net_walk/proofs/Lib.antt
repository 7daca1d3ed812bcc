pub mod Turns
pub mod Effects
pub mod Rising
pub mod FineArcs
pub mod Found
