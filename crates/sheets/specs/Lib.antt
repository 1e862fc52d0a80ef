pub mod Answers
pub mod Gauges
pub mod Logs
pub mod Scans
pub mod Seen
pub mod Standing
pub mod Windows
