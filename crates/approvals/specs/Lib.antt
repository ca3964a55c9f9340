pub mod Approvals
pub mod Spelled
pub mod Cases
pub mod Laws
pub mod Patterns
pub mod Readable
