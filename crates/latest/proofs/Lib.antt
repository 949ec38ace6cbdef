mod Merging
pub mod Bytes
pub mod Any
pub mod Orders
pub mod Laws
mod Runs
mod Columns
mod Judging
mod Small
mod Gathering
mod Printing
mod Replies
pub mod Room
pub mod Promises
mod Handing
