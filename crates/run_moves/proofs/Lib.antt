pub mod Courses
pub mod Going
pub mod Noted
pub mod Stopped
pub mod Told
pub mod Turning
