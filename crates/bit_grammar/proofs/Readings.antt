-- What rules read, spell and refuse.
pub mod Deciding
pub mod Wholes
pub mod Items
pub mod Rounds
pub mod Sequences
pub mod Parts
pub mod Readers
