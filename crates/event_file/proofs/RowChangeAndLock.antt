-- The transcript of examples/change-and-lock.routes, computed by the definitions. Made by tools/derived.
use Rattle.std.proofs.Common.{◌≡◌, ℕ, List, ◌++◌, codes, refl}
use Rattle.std.specs.Fmt.{digits}
use Rattle.hex.proofs.OnLiterals.{hex_on_literals}
use Rattle.route_core.specs.Step.{effect}
use Rattle.route_msgs.specs.Layout.{number_at, with_field}
use Rattle.route_msgs.specs.Slots.{offset_of}
use Rattle.event_file.specs.Transcript.{transcript_of}

abbrev script : List ℕ
script =
    codes "# CHANGE and LOCK: of a mask that isn't there (59), of a key that isn't (3), of one that is; a locked metric changes all\n"
    ++ codes "# the same.\n"
    ++ codes "if le0 broadcast 6 080020010203\n"
    ++ codes "open a 100 any\n"
    ++ codes "addr le0 10.0.0.1/8 cloning\n"
    ++ codes "read a\n"
    ++ codes "route a 1 change 10.0.0.0/9 mtu 1500\n"
    ++ codes "read a\n"
    ++ codes "route a 2 change 10.0.0.5 mtu 1500\n"
    ++ codes "route a 3 lock 10.0.0.0/8 inits 1 locks 1\n"
    ++ codes "route a 4 change 10.0.0.0/8 locks 1 mtu 1500\n"
    ++ codes "dump 116\n"

abbrev transcript : List ℕ
transcript =
    codes "ok\n"
    ++ codes "ok\n"
    ++ codes "ok\n"
    ++ codes "msg 0050030c000000b400000100000100000000000005000000ff00000014120001060306006c6530080020010203000000100200000a0000010000000000000000100200000affffff0000000000000000\n"
    ++ codes "msg 00740301000100000000010100000007000000000000000000000000000000000000000000000000000000000000000000000000000000000000000000000000000000000000000000000000100200000a0000000000000000000000100200000a000001000000000000000005000000ff000000\n"
    ++ codes "ok\n"
    ++ codes "err 59\n"
    ++ codes "msg 0064030300000000000000000000000500000064000000010000003b000000000000000100000000000005dc0000000000000000000000000000000000000000000000000000000000000000100200000a000000000000000000000006000000ff800000\n"
    ++ codes "ok\n"
    ++ codes "err 3\n"
    ++ codes "ok\n"
    ++ codes "ok\n"
    ++ codes "msg 00740304000100000000010100000007000000000000000000000000000000000000000000000001000005dc0000000000000000000000000000000000000000000000000000000000000000100200000a0000000000000000000000100200000a000001000000000000000005000000ff000000\n"
    ++ codes "ok\n"

pub change_and_lock : transcript_of script ≡ transcript
unfolding digits hex_on_literals effect number_at with_field offset_of
change_and_lock = refl
