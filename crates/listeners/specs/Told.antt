-- What is told of a socket.
use Rattle.std.specs.Prelude.{ℕ, List, Option, option_map, slice_get}
use Rattle.listeners.specs.Sockets.{Socket, queued}
use Rattle.listeners.specs.declared.told.SocketTold.{SocketTold}

abbrev pub told_of : Socket → SocketTold
told_of s = record {
  id = s.id;
  pid = s.pid;
  protocol = s.protocol;
  loopback = s.loopback;
  waiting = queued s;
  lost = s.lost;
}

-- the socket at this place, in the order in which they were opened
abbrev pub socket_told : ℕ → List Socket → Option SocketTold
socket_told place sockets = option_map told_of (slice_get sockets place)
