pub mod Totals
pub mod Best
pub mod Table
pub mod Trying
pub mod Examples
