use Rattle.std.proofs.Common.{◌≡◌, ◌++◌, take, flat_map}
use Rattle.world_words.specs.Agreeing.{agreeing_line, of_rank}
use Rattle.world_words.proofs.agreeing.put_of_rank.Given as goal

abbrev pub invariant-routes : goal.invariant-routes
invariant-routes l = (l.text ≡ l.initial.text ++ flat_map (agreeing_line l.world) (of_rank l.address (take l.route-index l.routes) l.rank)) × (l.memory ≡ l.initial.memory)
