pub mod EndsLemmas
pub mod ProgressLemmas
