pub mod Holder
pub mod Spelled
pub mod Cases
pub mod Laws
pub mod Readable
