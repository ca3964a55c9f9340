pub mod Values
pub mod Cuts
pub mod Grammars
pub mod Spelled
