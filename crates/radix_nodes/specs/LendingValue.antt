-- What the rooms are once a `&mut` to the value of one has ended.
use Rattle.std.specs.Borrow.{Fml, RattleType, MutBor, Lends}
use Rattle.radix_nodes.specs.Rooms.{Rooms, put_value}
use Rattle.radix_nodes.specs.declared.id.Id.{Id}
use Rattle.radix_nodes.specs.contracts.nodes.Nodes.{the_row}

-- the same rooms with another value of one
abbrev pub with_value : {V : Type 0} → Rooms V → Id → V → Rooms V
with_value r id value = record r { lodged = put_value r.lodged id value }

abbrev pub lends_value : (V : RattleType) → Id → MutBor (Rooms V.Denot) → MutBor V.Denot → Fml
lends_value V id rooms r = Lends (the_row V) V rooms r (with_value rooms.now id)
