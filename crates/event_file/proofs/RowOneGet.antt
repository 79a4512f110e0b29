-- The transcript of examples/one-get.routes, computed by the definitions. Made by tools/derived.
use Rattle.std.proofs.Common.{◌≡◌, ℕ, List, ◌++◌, codes, refl}
use Rattle.std.specs.Fmt.{digits}
use Rattle.hex.proofs.OnLiterals.{hex_on_literals}
use Rattle.route_core.specs.Step.{effect}
use Rattle.route_msgs.specs.Layout.{number_at, with_field}
use Rattle.route_msgs.specs.Slots.{offset_of}
use Rattle.event_file.specs.Transcript.{transcript_of}

abbrev script : List ℕ
script =
    codes "# One interface, one address and one routing socket. A GET of 10.9.9.9 is answered by the route of the address's network;\n"
    ++ codes "# the socket then reads that its address and its route were added, and the reply.\n"
    ++ codes "if le0 broadcast 6 080020010203\n"
    ++ codes "open a 100 any\n"
    ++ codes "addr le0 10.0.0.1/8 cloning\n"
    ++ codes "write a 005c0304000000000000000000000001000000000000000100000000000000000000000000000000000000000000000000000000000000000000000000000000000000000000000000000000100200000a0909090000000000000000\n"
    ++ codes "read a\n"

abbrev transcript : List ℕ
transcript =
    codes "ok\n"
    ++ codes "ok\n"
    ++ codes "ok\n"
    ++ codes "ok\n"
    ++ codes "msg 0050030c000000b400000100000100000000000005000000ff00000014120001060306006c6530080020010203000000100200000a0000010000000000000000100200000affffff0000000000000000\n"
    ++ codes "msg 00740301000100000000010100000007000000000000000000000000000000000000000000000000000000000000000000000000000000000000000000000000000000000000000000000000100200000a0000000000000000000000100200000a000001000000000000000005000000ff000000\n"
    ++ codes "msg 00740304000000000000014100000007000000640000000100000000000000000000000000000000000000000000000000000000000000000000000000000000000000000000000000000000100200000a0000000000000000000000100200000a000001000000000000000005000000ff000000\n"
    ++ codes "ok\n"

pub one_get : transcript_of script ≡ transcript
unfolding digits hex_on_literals effect number_at with_field offset_of
one_get = refl
