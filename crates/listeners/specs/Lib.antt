pub mod Kept
pub mod Open
pub mod Queue
pub mod QueueLaws
pub mod SocketLaws
pub mod Sockets
pub mod Told
