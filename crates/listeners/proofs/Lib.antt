pub mod KeptProved
pub mod QueueLemmas
pub mod SocketLawsProved
pub mod SocketLists
