mod FieldsRead
mod HeadersRead
mod LinkSockaddr
mod Patched
mod Placed
mod Offsets
pub mod PutAddresses
pub mod SizesRead
mod SlotsWritten
mod AddressSizes
