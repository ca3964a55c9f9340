pub mod Kind
pub mod Plan
pub mod Refusals
