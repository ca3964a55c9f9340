pub mod Tally
pub mod Spelled
pub mod Cases
pub mod Laws
pub mod Ranges
pub mod Words
pub mod Readable
