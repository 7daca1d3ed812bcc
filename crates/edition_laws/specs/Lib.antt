pub mod Runs
pub mod RoundTrips
pub mod Offers
pub mod EditionExamples
