-- The transcript of examples/loopback-address-removed.routes, computed by the definitions. Made by tools/derived.
use Rattle.std.proofs.Common.{◌≡◌, ℕ, List, ◌++◌, codes, refl}
use Rattle.std.specs.Fmt.{digits}
use Rattle.hex.proofs.OnLiterals.{hex_on_literals}
use Rattle.route_core.specs.Step.{effect}
use Rattle.route_msgs.specs.Layout.{number_at, with_field}
use Rattle.route_msgs.specs.Slots.{offset_of}
use Rattle.event_file.specs.Transcript.{transcript_of}

abbrev script : List ℕ
script =
    codes "# The address of a loopback interface goes with the route of its host.\n"
    ++ codes "if lo0 loopback 24 -\n"
    ++ codes "open a 7 any\n"
    ++ codes "addr lo0 127.0.0.1/8 cloning\n"
    ++ codes "packet 127.0.0.1\n"
    ++ codes "unaddr lo0 127.0.0.1\n"
    ++ codes "read a\n"

abbrev transcript : List ℕ
transcript =
    codes "ok\n"
    ++ codes "ok\n"
    ++ codes "ok\n"
    ++ codes "via 127.0.0.1 - 127.0.0.1 1 00000105\n"
    ++ codes "ok\n"
    ++ codes "msg 0050030c000000b400000100000100000000000005000000ff00000014120001180300006c6f30000000000000000000100200007f0000010000000000000000100200007f0000010000000000000000\n"
    ++ codes "msg 006c0301000100000000010500000003000000000000000000000000000000000000000000000000000000000000000000000000000000000000000000000000000000000000000000000000100200007f0000010000000000000000100200007f0000010000000000000000\n"
    ++ codes "msg 005c0307000000000000004000000001000000000000000000000011000000000000000000000000000000000000000000000000000000000000000000000000000000000000000000000000100200007f0000010000000000000000\n"
    ++ codes "msg 006c0302000100000000010400000003000000000000000000000000000000000000000000000000000000000000000000000000000000000000000000000000000000000000000000000000100200007f0000010000000000000000100200007f0000010000000000000000\n"
    ++ codes "msg 0050030d000000b400000101000100000000000005000000ff00000014120001180300006c6f30000000000000000000100200007f0000010000000000000000100200007f0000010000000000000000\n"
    ++ codes "ok\n"

pub loopback_address_removed : transcript_of script ≡ transcript
unfolding digits hex_on_literals effect number_at with_field offset_of
loopback_address_removed = refl
