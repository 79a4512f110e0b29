use Rattle.std.proofs.Common.{◌≡◌, length}
use Rattle.line_faults.specs.Verbs.{verb_among}
use Rattle.line_faults.proofs.verbs.verb_among.Given as goal

abbrev pub invariant-verbs : goal.invariant-verbs
invariant-verbs l = verb_among l.verbs l.word ≡ verb_among l.left l.word

abbrev pub decreases-verbs : goal.decreases-verbs
decreases-verbs l = length l.left
