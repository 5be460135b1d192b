pub mod Decimals
pub mod Digits
pub mod Networks
pub mod Blanks
pub mod FirstBlanks
pub mod SplitNumbers
pub mod Ascii
