pub mod Answers
pub mod Courses
pub mod Events
pub mod OneOf
pub mod Replay
pub mod OneOfLaws
pub mod Jobs
