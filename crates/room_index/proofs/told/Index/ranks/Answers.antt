use Rattle.std.proofs.Common.{sym, subst}
use Rattle.mask_table.specs.Agreeing.{masked}
use Rattle.room_index.specs.Homes.{pair}
use Rattle.room_index.specs.Names.{Names}
use Rattle.room_index.proofs.told.Index.ranks.Goals as goal

pub returns-clause-ranks : goal.returns-clause-ranks
returns-clause-ranks c rank room fits names =
    c.ranks.ensures.ranks rank room fits (subst (λ h. Names h (pair (masked rank c.args.address) rank) room) (sym c.self.view_is) names)
