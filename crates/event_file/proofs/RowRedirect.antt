-- The transcript of examples/redirect.routes, computed by the definitions. Made by tools/derived.
use Rattle.std.proofs.Common.{◌≡◌, ℕ, List, ◌++◌, codes, refl}
use Rattle.std.specs.Fmt.{digits}
use Rattle.hex.proofs.OnLiterals.{hex_on_literals}
use Rattle.route_core.specs.Step.{effect}
use Rattle.route_msgs.specs.Layout.{number_at, with_field}
use Rattle.route_msgs.specs.Slots.{offset_of}
use Rattle.event_file.specs.Transcript.{transcript_of}

abbrev script : List ℕ
script =
    codes "# A redirect makes the route of a host; a second one, from its new gateway, changes that.\n"
    ++ codes "if le0 broadcast 6 080020010203\n"
    ++ codes "open a 100 any\n"
    ++ codes "addr le0 10.0.0.1/8 cloning\n"
    ++ codes "route a 2 add default via 10.0.0.2 flags 803\n"
    ++ codes "read a\n"
    ++ codes "redirect 20.0.0.1 10.0.0.3 10.0.0.2\n"
    ++ codes "read a\n"
    ++ codes "packet 20.0.0.1\n"
    ++ codes "dump ask\n"
    ++ codes "redirect 20.0.0.1 10.0.0.4 10.0.0.3\n"
    ++ codes "read a\n"
    ++ codes "packet 20.0.0.1\n"

abbrev transcript : List ℕ
transcript =
    codes "ok\n"
    ++ codes "ok\n"
    ++ codes "ok\n"
    ++ codes "ok\n"
    ++ codes "msg 0050030c000000b400000100000100000000000005000000ff00000014120001060306006c6530080020010203000000100200000a0000010000000000000000100200000affffff0000000000000000\n"
    ++ codes "msg 00740301000100000000010100000007000000000000000000000000000000000000000000000000000000000000000000000000000000000000000000000000000000000000000000000000100200000a0000000000000000000000100200000a000001000000000000000005000000ff000000\n"
    ++ codes "msg 0070030100000000000008430000000700000064000000020000000000000000000000000000000000000000000000000000000000000000000000000000000000000000000000000000000010020000000000000000000000000000100200000a000002000000000000000000000000\n"
    ++ codes "ok\n"
    ++ codes "ok\n"
    ++ codes "msg 007c030600000000000000560000004300000000000000000000000000000000000000000000000000000000000000000000000000000000000000000000000000000000000000000000000010020000140000010000000000000000100200000a0000030000000000000000100200000a0000020000000000000000\n"
    ++ codes "ok\n"
    ++ codes "via 20.0.0.1 - 10.0.0.3 1 00000017\n"
    ++ codes "size 607\n"
    ++ codes "ok\n"
    ++ codes "msg 007c030600000000000000660000004300000000000000000000000000000000000000000000000000000000000000000000000000000000000000000000000000000000000000000000000010020000140000010000000000000000100200000a0000040000000000000000100200000a0000030000000000000000\n"
    ++ codes "ok\n"
    ++ codes "via 20.0.0.1 - 10.0.0.4 1 00000037\n"

pub redirect : transcript_of script ≡ transcript
unfolding digits hex_on_literals effect number_at with_field offset_of
redirect = refl
