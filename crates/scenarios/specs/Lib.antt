pub mod Scenarios
