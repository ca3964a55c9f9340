pub mod Cut
pub mod Scan
pub mod Readers
pub mod Grammar
pub mod Shape
pub mod Ahead
pub mod Cursor
pub mod Meaning
