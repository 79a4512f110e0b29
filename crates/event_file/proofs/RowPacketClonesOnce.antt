-- The transcript of examples/packet-clones-once.routes, computed by the definitions. Made by tools/derived.
use Rattle.std.proofs.Common.{◌≡◌, ℕ, List, ◌++◌, codes, refl}
use Rattle.std.specs.Fmt.{digits}
use Rattle.hex.proofs.OnLiterals.{hex_on_literals}
use Rattle.route_core.specs.Step.{effect}
use Rattle.route_msgs.specs.Layout.{number_at, with_field}
use Rattle.route_msgs.specs.Slots.{offset_of}
use Rattle.event_file.specs.Transcript.{transcript_of}

abbrev script : List ℕ
script =
    codes "# The first packet to a host clones the route of its network, the second takes the clone; no message tells of it.\n"
    ++ codes "if le0 broadcast 6 080020010203\n"
    ++ codes "open a 100 any\n"
    ++ codes "addr le0 10.0.0.1/8 cloning\n"
    ++ codes "packet 10.9.9.9\n"
    ++ codes "packet 10.9.9.9\n"
    ++ codes "read a\n"

abbrev transcript : List ℕ
transcript =
    codes "ok\n"
    ++ codes "ok\n"
    ++ codes "ok\n"
    ++ codes "via 10.9.9.9 - 10.0.0.1 1 00000005\n"
    ++ codes "via 10.9.9.9 - 10.0.0.1 1 00000005\n"
    ++ codes "msg 0050030c000000b400000100000100000000000005000000ff00000014120001060306006c6530080020010203000000100200000a0000010000000000000000100200000affffff0000000000000000\n"
    ++ codes "msg 00740301000100000000010100000007000000000000000000000000000000000000000000000000000000000000000000000000000000000000000000000000000000000000000000000000100200000a0000000000000000000000100200000a000001000000000000000005000000ff000000\n"
    ++ codes "ok\n"

pub packet_clones_once : transcript_of script ≡ transcript
unfolding digits hex_on_literals effect number_at with_field offset_of
packet_clones_once = refl
