pub mod Callers
pub mod Cells
mod Apart
mod Bytes
mod FlagBits
mod Memory
mod Nested
mod RoomLemmas
mod RoomRows
mod Rows
mod Sharing
mod Turning
