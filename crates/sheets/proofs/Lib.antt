pub mod Crossing
pub mod Gauges
pub mod Looking
pub mod Standing
pub mod Telling
