-- Normal forms, and trees under a setting.
pub mod Texts
pub mod SpelledParts
pub mod Normals
pub mod Sizes
pub mod Periods
pub mod Fits
pub mod Under
pub mod Settings
pub mod Forms
