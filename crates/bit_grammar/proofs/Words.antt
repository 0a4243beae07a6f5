-- The rules, and the format in its own words.
pub mod Fields
pub mod Definitions
pub mod Operands
pub mod Records
pub mod Spellings
pub mod Contexts
pub mod Heads
pub mod Entries
pub mod Marked
pub mod BlockWords
pub mod WordBlocks
pub mod TopWords
pub mod InputWords
pub mod OneInput
