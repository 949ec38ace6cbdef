pub mod Rank
pub mod Counts
pub mod Pile
pub mod Columns
pub mod Rows
pub mod Marks
pub mod Call
pub mod Promises
