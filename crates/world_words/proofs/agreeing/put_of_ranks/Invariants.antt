use Rattle.std.proofs.Common.{◌≡◌, ◌++◌, flat_map}
use Rattle.world_words.specs.Agreeing.{agreeing_line, of_ranks}
use Rattle.world_words.proofs.agreeing.put_of_ranks.Given as goal

abbrev pub invariant-ranks : goal.invariant-ranks
invariant-ranks l = (l.text ≡ l.initial.text ++ flat_map (agreeing_line l.world) (of_ranks l.address l.routes l.i)) × (l.memory ≡ l.initial.memory)
