-- Lines of a script, one for each form and some that no form has, as the definitions read them.
use Rattle.std.proofs.Common.{◌≡◌, [], ◌∷◌, codes, refl, Some, None, true, false}
use Rattle.std.specs.Fmt.{digits}
use Rattle.hex.proofs.OnLiterals.{hex_on_literals}
use Rattle.event_file.specs.Grammar.{command_of}
use Rattle.event_file.specs.RouteLine.{route_words_of}
use Rattle.event_file.specs.RouteWords.{inits_said}
use Rattle.event_file.specs.Words.{parted_by}
use Rattle.event_file.specs.declared.route_words.RouteWords.{RouteWords}
use Rattle.event_file.specs.declared.route_words.Verb.TheVariants.{Add, Delete, Change, Lock}
use Rattle.sock_addrs.specs.declared.gate.Gate.TheVariants as gate
use Rattle.route_msgs.specs.Examples.{question}
use Rattle.route_msgs.specs.Layout.{with_field}
use Rattle.if_addrs.specs.declared.kind.Kind.TheVariants.{Broadcast, Loopback as LoopbackKind, PointToPoint}
use Rattle.route_core.specs.declared.command.Command.TheVariants.{Attach, AddAddress, RemoveAddress, Open, Close, Loopback, Write, Read, Lost, Packet, Redirect, Losing, DumpSize, Dump}

pub an_attach : command_of (codes "if ed0 broadcast 6 080020010203") ≡ Some (Attach (codes "ed0") Broadcast 6 (8 ∷ 0 ∷ 32 ∷ 1 ∷ 2 ∷ 3 ∷ []))
unfolding digits hex_on_literals
an_attach = refl

pub an_address : command_of (codes "addr ed0 10.0.0.1/8") ≡ Some (AddAddress (codes "ed0") 167772161 8 false None)
unfolding digits hex_on_literals
an_address = refl

pub an_address_that_clones : command_of (codes "addr ed0 255.255.255.255/32 cloning") ≡ Some (AddAddress (codes "ed0") 4294967295 32 true None)
unfolding digits hex_on_literals
an_address_that_clones = refl

pub an_open : command_of (codes "open a 100 any") ≡ Some (Open (codes "a") 100 0)
unfolding digits hex_on_literals
an_open = refl

pub a_write : command_of (codes "write a 5cFf00") ≡ Some (Write (codes "a") (92 ∷ 255 ∷ 0 ∷ []))
unfolding digits hex_on_literals
a_write = refl

pub a_write_of_nothing : command_of (codes "write z -") ≡ Some (Write (codes "z") [])
unfolding digits hex_on_literals
a_write_of_nothing = refl

pub a_read : command_of (codes "read a") ≡ Some (Read (codes "a"))
unfolding digits hex_on_literals
a_read = refl

pub a_count_of_losses : command_of (codes "lost a") ≡ Some (Lost (codes "a"))
unfolding digits hex_on_literals
a_count_of_losses = refl

pub losses_of_nobody : command_of (codes "lost") ≡ None
unfolding digits hex_on_literals
losses_of_nobody = refl

pub leading_zero : command_of (codes "open a 007 any") ≡ None
unfolding digits hex_on_literals
leading_zero = refl

pub two_spaces : command_of (codes "read  a") ≡ None
unfolding digits hex_on_literals
two_spaces = refl

pub odd_hex : command_of (codes "write a 05c") ≡ None
unfolding digits hex_on_literals
odd_hex = refl

pub prefix_past_32 : command_of (codes "addr ed0 10.0.0.1/33") ≡ None
unfolding digits hex_on_literals
prefix_past_32 = refl

pub a_loopback_interface : command_of (codes "if lo0 loopback 24 -") ≡ Some (Attach (codes "lo0") LoopbackKind 24 [])
unfolding digits hex_on_literals
a_loopback_interface = refl

pub a_point_to_point_interface : command_of (codes "if sl0 ptp 28 -") ≡ Some (Attach (codes "sl0") PointToPoint 28 [])
unfolding digits hex_on_literals
a_point_to_point_interface = refl

pub an_address_with_a_far_one : command_of (codes "addr sl0 11.0.0.1/8 to 11.0.0.2") ≡ Some (AddAddress (codes "sl0") 184549377 8 false (Some 184549378))
unfolding digits hex_on_literals
an_address_with_a_far_one = refl

pub one_that_clones : command_of (codes "addr sl0 11.0.0.1/8 to 11.0.0.2 cloning") ≡ Some (AddAddress (codes "sl0") 184549377 8 true (Some 184549378))
unfolding digits hex_on_literals
one_that_clones = refl

pub an_open_for_a_protocol : command_of (codes "open b 0 255") ≡ Some (Open (codes "b") 0 255)
unfolding digits hex_on_literals
an_open_for_a_protocol = refl

pub a_close : command_of (codes "close a") ≡ Some (Close (codes "a"))
unfolding digits hex_on_literals
a_close = refl

pub a_loopback_on : command_of (codes "loopback a on") ≡ Some (Loopback (codes "a") true)
unfolding digits hex_on_literals
a_loopback_on = refl

pub a_loopback_off : command_of (codes "loopback a off") ≡ Some (Loopback (codes "a") false)
unfolding digits hex_on_literals
a_loopback_off = refl

pub options_in_another_order : command_of (codes "addr sl0 11.0.0.1/8 cloning to 11.0.0.2") ≡ None
unfolding digits hex_on_literals
options_in_another_order = refl

pub no_far_address : command_of (codes "addr sl0 11.0.0.1/8 to") ≡ None
unfolding digits hex_on_literals
no_far_address = refl

pub two_far_addresses : command_of (codes "addr sl0 11.0.0.1/8 to 11.0.0.2 to 11.0.0.3") ≡ None
unfolding digits hex_on_literals
two_far_addresses = refl

pub an_unknown_kind : command_of (codes "if sl0 point 28 -") ≡ None
unfolding digits hex_on_literals
an_unknown_kind = refl

pub protocol_0 : command_of (codes "open a 1 0") ≡ None
unfolding digits hex_on_literals
protocol_0 = refl

pub protocol_past_255 : command_of (codes "open a 1 256") ≡ None
unfolding digits hex_on_literals
protocol_past_255 = refl

pub an_unknown_switch : command_of (codes "loopback a yes") ≡ None
unfolding digits hex_on_literals
an_unknown_switch = refl

pub a_removal : command_of (codes "unaddr ed0 10.0.0.1") ≡ Some (RemoveAddress (codes "ed0") 0x0a00_0001)
unfolding digits hex_on_literals
a_removal = refl

pub a_removal_of_a_network : command_of (codes "unaddr ed0 10.0.0.1/8") ≡ None
unfolding digits hex_on_literals
a_removal_of_a_network = refl

pub a_packet : command_of (codes "packet 10.9.9.9") ≡ Some (Packet 0x0a09_0909)
unfolding digits hex_on_literals
a_packet = refl

pub a_packet_to_two : command_of (codes "packet 10.9.9.9 10.9.9.8") ≡ None
unfolding digits hex_on_literals
a_packet_to_two = refl

pub a_redirect : command_of (codes "redirect 10.9.9.9 10.0.0.2 10.0.0.1") ≡ Some (Redirect (record { destination = 0x0a09_0909; gateway = 0x0a00_0002; author = 0x0a00_0001 }))
unfolding digits hex_on_literals
a_redirect = refl

pub a_redirect_without_an_author : command_of (codes "redirect 10.9.9.9 10.0.0.2") ≡ None
unfolding digits hex_on_literals
a_redirect_without_an_author = refl

pub a_losing_route : command_of (codes "losing 10.9.9.9") ≡ Some (Losing 0x0a09_0909)
unfolding digits hex_on_literals
a_losing_route = refl

pub a_losing_network : command_of (codes "losing 10.9.9.0/24") ≡ None
unfolding digits hex_on_literals
a_losing_network = refl

pub how_large_a_dump_is : command_of (codes "dump ask") ≡ Some (DumpSize None)
unfolding digits hex_on_literals
how_large_a_dump_is = refl

pub a_dump : command_of (codes "dump 4294967295") ≡ Some (Dump None 4294967295)
unfolding digits hex_on_literals
a_dump = refl

pub a_dump_past_32_bits : command_of (codes "dump 4294967296") ≡ None
unfolding digits hex_on_literals
a_dump_past_32_bits = refl

pub a_dump_of_nothing : command_of (codes "dump") ≡ None
unfolding digits hex_on_literals
a_dump_of_nothing = refl

pub how_large_a_dump_by_flags_is : command_of (codes "flags 101 ask") ≡ Some (DumpSize (Some 0x101))
unfolding digits hex_on_literals
how_large_a_dump_by_flags_is = refl

pub a_dump_by_flags : command_of (codes "flags DeadbeeF 0") ≡ Some (Dump (Some 0xdead_beef) 0)
unfolding digits hex_on_literals
a_dump_by_flags = refl

pub nine_digits_of_flags : command_of (codes "flags 000000001 ask") ≡ None
unfolding digits hex_on_literals
nine_digits_of_flags = refl

pub flags_without_ask : command_of (codes "flags 1") ≡ None
unfolding digits hex_on_literals
flags_without_ask = refl

-- ---- the words of `route`

pub a_get : command_of (codes "route a 1 get 10.9.9.9") ≡ Some (Write (codes "a") question)
unfolding digits hex_on_literals with_field
a_get = refl

-- words that name no more than a verb, a number and 10.0.0.0
abbrev bare : RouteWords
bare = record {
  seq = 2;
  verb = Add;
  destination = 0x0a00_0000;
  netmask = None;
  gateway = None;
  genmask = None;
  ifp = None;
  ifa = None;
  flags = 0;
  inits = 0;
  locks = 0;
  metrics = record { mtu = None; hopcount = None; expire = None; recvpipe = None; sendpipe = None; ssthresh = None; rtt = None; rttvar = None };
}

pub an_add : route_words_of (parted_by 32 (codes "2 add 10.0.0.0/8 via 10.0.0.1 flags 803")) ≡ Some (record bare { netmask = Some 8; gateway = Some (gate.Inet 0x0a00_0001); flags = 0x803 })
unfolding digits hex_on_literals
an_add = refl

pub an_add_by_a_link : route_words_of (parted_by 32 (codes "2 add 10.0.0.0 via link:0812000206000000")) ≡ Some (record bare { gateway = Some (gate.Link (8 ∷ 18 ∷ 0 ∷ 2 ∷ 6 ∷ 0 ∷ 0 ∷ 0 ∷ [])) })
unfolding digits hex_on_literals
an_add_by_a_link = refl

pub a_delete : route_words_of (parted_by 32 (codes "2 delete default")) ≡ Some (record bare { verb = Delete; destination = 0; netmask = Some 0 })
unfolding digits hex_on_literals
a_delete = refl

pub a_change : route_words_of (parted_by 32 (codes "2 change 10.0.0.0 genmask 24 ifp 10.0.0.1 ifa 10.0.0.2")) ≡ Some (record bare { verb = Change; genmask = Some 24; ifp = Some (gate.Inet 0x0a00_0001); ifa = Some (gate.Inet 0x0a00_0002) })
unfolding digits hex_on_literals
a_change = refl

pub a_lock : route_words_of (parted_by 32 (codes "2 lock 10.0.0.0 inits f locks 5")) ≡ Some (record bare { verb = Lock; inits = 0xf; locks = 5 })
unfolding digits hex_on_literals
a_lock = refl

pub all_metrics : route_words_of (parted_by 32 (codes "2 add 10.0.0.0 mtu 1 hopcount 2 expire 3 recvpipe 4 sendpipe 5 ssthresh 6 rtt 7 rttvar 8")) ≡ Some (record bare {
  metrics = record { mtu = Some 1; hopcount = Some 2; expire = Some 3; recvpipe = Some 4; sendpipe = Some 5; ssthresh = Some 6; rtt = Some 7; rttvar = Some 8 };
})
unfolding digits hex_on_literals
all_metrics = refl

-- the bits that are written, and those of the metrics that are
pub bits_of_metrics : inits_said (record bare { inits = 0x102; metrics = record bare.metrics { mtu = Some 1500; hopcount = Some 0; rttvar = Some 9 } }) ≡ 0x183
bits_of_metrics = refl

pub an_option_twice : command_of (codes "route a 2 add 10.0.0.0 via 10.0.0.1 via 10.0.0.2") ≡ None
unfolding digits hex_on_literals
an_option_twice = refl

pub options_of_route_in_another_order : command_of (codes "route a 2 add 10.0.0.0 flags 3 via 10.0.0.1") ≡ None
unfolding digits hex_on_literals
options_of_route_in_another_order = refl

pub an_unknown_verb : command_of (codes "route a 2 show 10.0.0.0") ≡ None
unfolding digits hex_on_literals
an_unknown_verb = refl

pub an_option_without_a_word : command_of (codes "route a 2 add 10.0.0.0 via") ≡ None
unfolding digits hex_on_literals
an_option_without_a_word = refl

pub an_unknown_option : command_of (codes "route a 2 add 10.0.0.0 to 10.0.0.1") ≡ None
unfolding digits hex_on_literals
an_unknown_option = refl

pub a_mask_past_32 : command_of (codes "route a 2 add 10.0.0.0/33") ≡ None
unfolding digits hex_on_literals
a_mask_past_32 = refl

pub a_link_of_another_length : command_of (codes "route a 2 add 10.0.0.0 via link:0912000206000000") ≡ None
unfolding digits hex_on_literals
a_link_of_another_length = refl

pub no_link : command_of (codes "route a 2 add 10.0.0.0 via link:-") ≡ None
unfolding digits hex_on_literals
no_link = refl

pub no_destination : command_of (codes "route a 2 get") ≡ None
unfolding digits hex_on_literals
no_destination = refl
