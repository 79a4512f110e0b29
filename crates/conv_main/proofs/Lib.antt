pub mod CommandWords
pub mod Cut
pub mod Grown
pub mod LineParts
pub mod Runs
pub mod Taken
