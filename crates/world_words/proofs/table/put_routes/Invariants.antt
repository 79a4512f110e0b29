use Rattle.std.proofs.Common.{◌≡◌, ◌++◌, take, flat_map}
use Rattle.world_words.specs.Table.{route_line}
use Rattle.world_words.proofs.table.put_routes.Given as goal

abbrev pub invariant-routes : goal.invariant-routes
invariant-routes l = (l.text ≡ l.initial.text ++ flat_map (route_line l.world) (take l.route-index l.routes)) × (l.memory ≡ l.initial.memory)
