use Rattle.std.proofs.Common.{◌≡◌, ◌≤◌, ◌++◌, length}
use Rattle.hex.specs.Hex.{encode_lower}
use Rattle.message_text.specs.Room.{so_far}
use Rattle.message_text.specs.declared.pages.TheConstants.{ROOM}
use Rattle.message_text.proofs.pages.put_long_hex.Given as goal

abbrev pub invariant-loop-rest : goal.invariant-loop-rest
invariant-loop-rest l = record {
  text : so_far l.out.items l.room l.end ++ encode_lower l.rest
      ≡ so_far l.initial.out.items l.initial.room l.initial.end ++ encode_lower l.bytes;
  place : l.end ≤ ROOM;
  memory : l.memory ≡ l.initial.memory;
}

abbrev pub decreases-loop-rest : goal.decreases-loop-rest
decreases-loop-rest l = length l.rest
