use Rattle.std.proofs.Common.{◌≡◌, ◌-◌}
use Rattle.event_file.specs.Words.{parted_by}
use Rattle.line_faults.specs.Words.{word_of}
use Rattle.line_faults.proofs.words.word_at.Given as goal

abbrev pub invariant-passed : goal.invariant-passed
invariant-passed l = word_of (parted_by 32 l.line) l.place ≡ word_of l.words (l.place - l._i)
