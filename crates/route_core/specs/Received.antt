-- The messages that an answer holds are the bytes that a socket read, cut into whole messages.
pub use Rattle.listeners.specs.Queue.{cut, AreMessages}
