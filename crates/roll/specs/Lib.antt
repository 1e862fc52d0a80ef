pub mod Lent
pub mod Rolls
