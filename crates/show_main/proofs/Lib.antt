pub mod ShownLemmas
pub mod DigitLemmas
pub mod LineParts
