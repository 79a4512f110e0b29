use Rattle.room_index.proofs.Filing.{same_as, same_then}
use Rattle.room_index.proofs.places.Places.place_for.Goals as goal

pub returns-clause-same : goal.returns-clause-same
returns-clause-same g c found = same_then c.args.self.now c.vacant.new.self c.write_ahead.new.self c.vacant.ensures.same
    (same_as c.vacant.new.self c.write_ahead.new.self c.write_ahead.ensures.stand.stand)
