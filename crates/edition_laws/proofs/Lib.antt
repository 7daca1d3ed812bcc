pub mod RoundTrips
pub mod Calls
pub mod Offers
