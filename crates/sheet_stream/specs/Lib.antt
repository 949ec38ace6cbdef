pub mod Fragments
pub mod Calls
pub mod WholeSheet
