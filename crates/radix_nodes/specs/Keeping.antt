-- Rooms that stay in the map.
use Rattle.std.specs.Ordering.{nat_cmp}
use Rattle.std.specs.FinMap.{FinMap}
use Rattle.radix_nodes.specs.Rooms.{Seen, Has}
use Rattle.radix_nodes.specs.declared.id.Id.{Id}

-- each room of the old map is in the new one
abbrev pub Keeps : {V : Type 0} → FinMap nat_cmp (Seen V) → FinMap nat_cmp (Seen V) → Type 0
Keeps old new = (id : Id) → Has old id → Has new id
