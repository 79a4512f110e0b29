-- The transcript of examples/reject-and-blackhole.routes, computed by the definitions. Made by tools/derived.
use Rattle.std.proofs.Common.{◌≡◌, ℕ, List, ◌++◌, codes, refl}
use Rattle.std.specs.Fmt.{digits}
use Rattle.hex.proofs.OnLiterals.{hex_on_literals}
use Rattle.route_core.specs.Step.{effect}
use Rattle.route_msgs.specs.Layout.{number_at, with_field}
use Rattle.route_msgs.specs.Slots.{offset_of}
use Rattle.event_file.specs.Transcript.{transcript_of}

abbrev script : List ℕ
script =
    codes "# Routes that reject: a network's (51), a host's (65), and a blackhole, which drops without an error.\n"
    ++ codes "if le0 broadcast 6 080020010203\n"
    ++ codes "open a 100 any\n"
    ++ codes "addr le0 10.0.0.1/8 cloning\n"
    ++ codes "route a 1 add 30.0.0.0/8 via 10.0.0.2 flags 9\n"
    ++ codes "route a 2 add 31.0.0.1 via 10.0.0.2 flags d\n"
    ++ codes "route a 3 add 32.0.0.0/8 via 10.0.0.2 flags 1001\n"
    ++ codes "packet 30.0.0.1\n"
    ++ codes "packet 31.0.0.1\n"
    ++ codes "packet 32.0.0.1\n"

abbrev transcript : List ℕ
transcript =
    codes "ok\n"
    ++ codes "ok\n"
    ++ codes "ok\n"
    ++ codes "ok\n"
    ++ codes "ok\n"
    ++ codes "ok\n"
    ++ codes "err 51\n"
    ++ codes "err 65\n"
    ++ codes "drop 32.0.0.0 8 10.0.0.2 1 00001001\n"

pub reject_and_blackhole : transcript_of script ≡ transcript
unfolding digits hex_on_literals effect number_at with_field offset_of
reject_and_blackhole = refl
