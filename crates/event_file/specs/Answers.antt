-- What a transcript shows of a line: the text of its answer, each of whose lines a newline ends.
use Rattle.std.specs.Prelude.{◌≡◌, ℕ, ◌==◌, if◌then◌else◌, List, [], ◌∷◌, ◌++◌, flat_map, codes, decimal, Option, Some, None, Result, Ok, Err}
use Rattle.std.specs.List.{join_with_byte}
use Rattle.hex.specs.Hex.{encode_lower}
use Rattle.sock_addrs.specs.declared.gate.Gate.{Gate}
use Rattle.sock_addrs.specs.declared.gate.Gate.TheVariants.{Inet, Link}
use Rattle.sock_addrs.specs.Errno.{errno_number}
use Rattle.sock_addrs.specs.declared.errno.Errno.{Errno}
use Rattle.event_file.specs.declared.bad.Bad.{Bad}
use Rattle.event_file.specs.Printed.{hex_word, inet_word}
use Rattle.route_core.specs.declared.answer.Answer.{Answer}
use Rattle.route_core.specs.declared.answer.Answer.TheVariants.{Done, Refused, Routed, Dropped, Size, Messages}
use Rattle.route_core.specs.declared.answer.Choice.{Choice}

-- a message's bytes in lower-case hexadecimal
abbrev pub message_line : List ℕ → List ℕ
message_line message = codes "msg " ++ encode_lower message ++ codes "\n"

-- a refusal's number in decimal
abbrev pub refusal_line : ℕ → List ℕ
refusal_line number = codes "err " ++ decimal number ++ codes "\n"

-- whether the messages are all, or why some are left out
abbrev pub last_line : Option Errno → List ℕ
last_line None = codes "ok\n"
last_line (Some errno) = refusal_line (errno_number errno)

-- a route's rank in decimal, and `-` for that of one host
abbrev pub rank_word : ℕ → List ℕ
rank_word rank = if rank == 33 then codes "-" else decimal rank

-- a gateway: its address, or `link:` and its bytes
abbrev pub gate_word : Gate → List ℕ
gate_word (Inet address) = inet_word address
gate_word (Link sockaddr) = codes "link:" ++ encode_lower sockaddr

-- the words of a route that a packet takes: its key, its rank, its gateway, the number of its interface and its flags
abbrev pub choice_words : Choice → List (List ℕ)
choice_words c =
    inet_word c.key ∷ rank_word c.rank ∷ gate_word c.gateway ∷ decimal c.index ∷ hex_word c.flags ∷ []

-- what becomes of a packet, and the route that it takes
abbrev pub choice_line : List ℕ → Choice → List ℕ
choice_line fate choice = join_with_byte 32 (fate ∷ choice_words choice) ++ codes "\n"

-- how many bytes to ask for a dump, or how many messages were lost
abbrev pub size_line : ℕ → List ℕ
size_line size = codes "size " ++ decimal size ++ codes "\n"

abbrev pub answer_text : Answer → List ℕ
answer_text Done = codes "ok\n"
answer_text (Refused errno) = refusal_line (errno_number errno)
answer_text (Routed choice) = choice_line (codes "via") choice
answer_text (Dropped choice) = choice_line (codes "drop") choice
answer_text (Size size) = size_line size
answer_text (Messages messages left_out) = flat_map message_line messages ++ last_line left_out

-- of a line that is a command, and of one that is none
abbrev pub response_text : Result Answer Bad → List ℕ
response_text (Ok answer) = answer_text answer
response_text (Err bad) = codes "bad\n"

-- ---- in two parts

-- the messages that a response shows
abbrev pub messages_in : Result Answer Bad → List (List ℕ)
messages_in (Ok (Messages messages left_out)) = messages
messages_in (Ok Done) = []
messages_in (Ok (Refused errno)) = []
messages_in (Ok (Routed choice)) = []
messages_in (Ok (Dropped choice)) = []
messages_in (Ok (Size size)) = []
messages_in (Err bad) = []

-- the line behind them
abbrev pub closing_line : Result Answer Bad → List ℕ
closing_line (Ok (Messages messages left_out)) = last_line left_out
closing_line (Ok Done) = codes "ok\n"
closing_line (Ok (Refused errno)) = refusal_line (errno_number errno)
closing_line (Ok (Routed choice)) = choice_line (codes "via") choice
closing_line (Ok (Dropped choice)) = choice_line (codes "drop") choice
closing_line (Ok (Size size)) = size_line size
closing_line (Err bad) = codes "bad\n"

-- ---- a law

-- every response's text ends in a newline
abbrev pub ResponsesEndInANewline : Type 0
ResponsesEndInANewline =
    (response : Result Answer Bad) → (front : List ℕ) × (response_text response ≡ front ++ codes "\n")
