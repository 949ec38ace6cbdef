pub mod Plan
pub mod State
