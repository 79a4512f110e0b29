use Rattle.std.proofs.Common.{subst}
use Rattle.room_index.specs.Names.{Loses}
use Rattle.room_index.proofs.Naming.{strikes_all, strikes_one}
use Rattle.room_index.specs.Homes.{pair}
use Rattle.room_index.proofs.told.Index.strike.Goals as goal

pub returns-then-not-rest-clause-struck : goal.returns-then-not-rest-clause-struck
returns-then-not-rest-clause-struck c = strikes_all c.args.self.now c.begin_anew.new.self (pair c.args.key c.args.rank) c.args.rest
    c.begin_anew.ensures.none c.begin_anew.ensures.whole c.if-not-rest.true

pub returns-else-not-rest-clause-struck : goal.returns-else-not-rest-clause-struck
returns-else-not-rest-clause-struck c = strikes_one c.args.self.now c.strike.new.self (pair c.args.key c.args.rank) c.args.rest
    (subst (λ h. Loses h c.strike.new.self (pair c.args.key c.args.rank)) c.self.view_is c.strike.ensures.struck) c.if-not-rest.false
