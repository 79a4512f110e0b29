use Rattle.std.proofs.Common.{◌≡◌, ◌++◌, length}
use Rattle.line_faults.specs.Texts.{usages_of}
use Rattle.line_faults.proofs.verbs.put_usages_of.Given as goal

abbrev pub invariant-verbs : goal.invariant-verbs
invariant-verbs l = record {
  put : l.initial.text ++ usages_of l.verbs ≡ l.text ++ usages_of l.left;
  memory : l.memory ≡ l.initial.memory;
}

abbrev pub decreases-verbs : goal.decreases-verbs
decreases-verbs l = length l.left
