use Rattle.std.proofs.Common.{◌≡◌, length}
use Rattle.event_file.specs.Words.{parted_by}
use Rattle.plain_lines.specs.Flags.{flags_of, flags_with}
use Rattle.plain_lines.proofs.names.flags_named.Given as goal

abbrev pub invariant-loop-name : goal.invariant-loop-name
invariant-loop-name l = flags_with l.flags (parted_by 44 l.rest) ≡ flags_of l.word

abbrev pub decreases-loop-name : goal.decreases-loop-name
decreases-loop-name l = length l.rest
