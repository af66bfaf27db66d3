pub mod Courses
pub mod EndedCourse
pub mod Turned
pub mod OnMark
pub mod StartedOps
pub mod EndedOps
