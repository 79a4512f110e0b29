use Rattle.std.proofs.Common.{sym, subst}
use Rattle.radix_nodes.specs.declared.id.Id.{Id}
use Rattle.room_index.specs.Homes.{pair}
use Rattle.room_index.specs.Names.{Names}
use Rattle.room_index.proofs.told.Index.enter.Goals as goal

pub enter-requires-clause-absent : goal.enter-requires-clause-absent
enter-requires-clause-absent c = subst (λ h. (other : Id) → Names h (pair c.args.key c.args.rank) other → ⊥) (sym c.self.view_is) c.requires.absent
