-- Bits, bytes and the numbers that they spell.
pub mod Numbers
pub mod Tables
pub mod Bytes
