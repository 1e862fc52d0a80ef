pub mod Latest
pub mod Nexts
pub mod Picking
