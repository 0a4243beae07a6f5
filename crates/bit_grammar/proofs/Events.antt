-- The events of a stream.
pub mod Machines
pub mod Follows
pub mod Outlooks
pub mod Steps
pub mod Nesting
pub mod Telling
pub mod Happenings
