use Rattle.room_index.proofs.Filing.{same_then}
use Rattle.room_index.proofs.places.Places.vacant.Goals as goal

pub returns-in-None-clause-same : goal.returns-in-None-clause-same
returns-in-None-clause-same g c = same_then c.args.self.now c.cleared_in.new.self c.cleared_in-in-None.new.self c.cleared_in.ensures.same c.cleared_in-in-None.ensures.same
