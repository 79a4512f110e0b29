pub mod Agreeing
pub mod Counts
pub mod Held
pub mod RankSets
pub mod Ranks
