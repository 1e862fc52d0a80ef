pub mod Planned
pub mod Runs
