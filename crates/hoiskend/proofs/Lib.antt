pub mod CallsRun
pub mod Memory
pub mod Results
