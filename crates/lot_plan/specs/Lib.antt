pub mod LotPlan
pub mod Drawn
pub mod Reading
