pub mod Wholes
pub mod Formulas
pub mod Finite
pub mod Vectors
