pub mod Law
pub mod Sums
pub mod Delivered
pub mod Examples
pub mod Orders
