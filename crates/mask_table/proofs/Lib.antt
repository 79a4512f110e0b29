pub mod Agreeing
pub mod RankSets
