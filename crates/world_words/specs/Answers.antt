-- What a command was answered, in words.
use Rattle.std.specs.Prelude.{ℕ, ◌==◌, if◌then◌else◌, List, [], ◌∷◌, ◌++◌, codes, decimal, flat_map, Option, Some, None}
use Rattle.std.specs.Option.{option_map_or}
use Rattle.sock_addrs.specs.declared.errno.Errno.{Errno}
use Rattle.event_file.specs.Answers.{gate_word}
use Rattle.event_file.specs.Printed.{inet_word}
use Rattle.if_addrs.specs.Told.{interface_told}
use Rattle.lab_text.specs.Words.{destination_word}
use Rattle.message_text.specs.Names.{has_bit}
use Rattle.message_text.specs.Texts.{text_of}
use Rattle.route_core.specs.Commands.{Command}
use Rattle.route_core.specs.World.{World}
use Rattle.route_core.specs.declared.answer.Answer.{Answer}
use Rattle.route_core.specs.declared.answer.Answer.TheVariants.{Done, Dropped, Messages, Refused, Routed, Size}
use Rattle.route_core.specs.declared.answer.Choice.{Choice}
use Rattle.route_msgs.specs.declared.flags.TheConstants.{RTF_GATEWAY}
use Rattle.route_core.specs.declared.command.Command.TheVariants.{Lost, Packet, Read}
use Rattle.world_words.specs.Flags.{flags_word}
use Rattle.world_words.specs.Reasons.{refusal_words}

-- the name of the interface with this number
abbrev pub interface_word : ℕ → World → List ℕ
interface_word index w = option_map_or (λ i. i.name) (interface_told index w.interfaces) (codes "-")

-- ---- packets

-- the destination of a packet
abbrev pub packet_word : Command → List ℕ
packet_word (Packet destination) = inet_word destination
packet_word c = codes "the packet"

-- where a route leads: to its gateway, or straight to each destination where it has no gateway
abbrev pub toward_words : Choice → List ℕ
toward_words r = if has_bit r.flags RTF_GATEWAY then codes " to " ++ gate_word r.gateway else codes " straight there"

-- the route that it takes, at the end of a line
abbrev pub route_words : Choice → List ℕ
route_words r =
    codes "the route " ++ destination_word r.key r.rank ++ codes " (flags " ++ flags_word r.flags ++ codes ")\n"

abbrev pub routed_words : Command → Choice → World → List ℕ
routed_words c r w =
    packet_word c ++ codes " goes" ++ toward_words r ++ codes " out of " ++ interface_word r.index w
    ++ codes ", by " ++ route_words r

abbrev pub dropped_words : Command → Choice → List ℕ
dropped_words c r = packet_word c ++ codes " is dropped without a word by " ++ route_words r

-- ---- sizes

abbrev pub lost_words : ℕ → List ℕ
lost_words n =
    if n == 0 then codes "no message was lost\n"
    else if n == 1 then codes "1 message was lost\n"
    else decimal n ++ codes " messages were lost\n"

abbrev pub asked_words : ℕ → List ℕ
asked_words n = decimal n ++ codes " bytes to ask for\n"

abbrev pub size_words : Command → ℕ → List ℕ
size_words (Lost id) n = lost_words n
size_words c n = asked_words n

-- ---- messages

-- that there is none
abbrev pub silence_words : Command → List ℕ
silence_words (Read id) = codes "nothing was heard\n"
silence_words c = codes "no route is told\n"

-- each in words
abbrev pub heard_words : Command → List (List ℕ) → List ℕ
heard_words c [] = silence_words c
heard_words c (m ∷ ms) = flat_map text_of (m ∷ ms)

-- that they are all, or why some are left out
abbrev pub ending_words : Command → Option Errno → List ℕ
ending_words c None = codes "ok\n"
ending_words c (Some e) = refusal_words c e

-- ---- answers

-- what a command was answered; the world is the one after it
abbrev pub answer_words : Command → Answer → World → List ℕ
answer_words c Done w = codes "ok\n"
answer_words c (Refused e) w = refusal_words c e
answer_words c (Routed r) w = routed_words c r w
answer_words c (Dropped r) w = dropped_words c r
answer_words c (Size n) w = size_words c n
answer_words c (Messages messages left_out) w = heard_words c messages ++ ending_words c left_out
