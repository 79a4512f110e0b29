-- The open sockets, in words.
use Rattle.std.specs.Prelude.{ℕ, List, [], ◌++◌, codes, decimal, flat_map, Option, Some, None}
use Rattle.std.specs.List.{range_with_len}
use Rattle.event_file.specs.Printed.{protocol_word, switch_word}
use Rattle.listeners.specs.Told.{socket_told}
use Rattle.listeners.specs.declared.told.SocketTold.{SocketTold}
use Rattle.route_core.specs.World.{World}

-- its id, process and protocol, and whether it hears the replies to its own writes
abbrev pub who_words : SocketTold → List ℕ
who_words s =
    s.id ++ codes ": pid " ++ decimal s.pid ++ codes ", protocol " ++ protocol_word s.protocol
    ++ codes ", loopback " ++ switch_word s.loopback ++ codes ", bytes waiting "

-- how many bytes wait for it, and how many messages it lost
abbrev pub what_words : SocketTold → List ℕ
what_words s = decimal s.waiting ++ codes ", messages lost " ++ decimal s.lost ++ codes "\n"

-- a socket, on a line
abbrev pub socket_line : SocketTold → List ℕ
socket_line s = who_words s ++ what_words s

abbrev pub line_where : Option SocketTold → List ℕ
line_where None = []
line_where (Some s) = socket_line s

abbrev pub line_at : World → ℕ → List ℕ
line_at w place = line_where (socket_told place w.sockets)

abbrev pub no_socket_line : Option SocketTold → List ℕ
no_socket_line None = codes "no socket is open\n"
no_socket_line (Some s) = []

-- the first sockets, so many of them
abbrev pub lines_up_to : ℕ → World → List ℕ
lines_up_to many w = flat_map (line_at w) (range_with_len 0 many)

-- the sockets in the order in which they were opened, up to the 64 that may be
unfoldable pub all_lines : World → List ℕ
all_lines w = lines_up_to 64 w

-- and where none is open, that
abbrev pub sockets_words : World → List ℕ
sockets_words w = no_socket_line (socket_told 0 w.sockets) ++ all_lines w
