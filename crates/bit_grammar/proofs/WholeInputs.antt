-- One tree or one fault for each input, and its limits.
pub mod Inputs
pub mod Closing
pub mod Rooms
pub mod Limits
pub mod Apart
