use Rattle.std.proofs.Common.{subst}
use Rattle.std.specs.Prelude.{MatchOption}
use Rattle.radix_nodes.specs.declared.id.Id.{Id}
use Rattle.room_index.specs.Homes.{pair}
use Rattle.room_index.specs.Names.{Names}
use Rattle.room_index.proofs.told.Index.find.Goals as goal

pub returns-clause-found : goal.returns-clause-found
returns-clause-found c = subst (λ h. MatchOption c.find.result ((room : Id) → Names h (pair c.args.key c.args.rank) room → ⊥) (λ room. Names h (pair c.args.key c.args.rank) room))
    c.self.view_is c.find.ensures.found
