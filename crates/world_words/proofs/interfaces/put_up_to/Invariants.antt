use Rattle.std.proofs.Common.{◌≡◌, ◌++◌}
use Rattle.world_words.specs.Interfaces.{lines_up_to}
use Rattle.world_words.proofs.interfaces.put_up_to.Given as goal

abbrev pub invariant-interfaces : goal.invariant-interfaces
invariant-interfaces l = (l.text ≡ l.initial.text ++ lines_up_to l.place l.world) × (l.memory ≡ l.initial.memory)
