pub mod Items
pub mod Reading
pub mod Texts
pub mod Faults
