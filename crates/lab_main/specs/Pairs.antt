-- A route by its pair.
use Rattle.route_core.specs.declared.told.RouteTold.{RouteTold}
use Rattle.tree_pictures.specs.declared.pair.Pair.{Pair}

abbrev pub pair_of : RouteTold → Pair
pair_of r = record { key = r.choice.key; rank = r.choice.rank }
