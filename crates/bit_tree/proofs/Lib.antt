pub mod Copies
pub mod Depths
pub mod Documents
pub mod Magics
pub mod MarkedFlats
pub mod Placing
pub mod Gathered
