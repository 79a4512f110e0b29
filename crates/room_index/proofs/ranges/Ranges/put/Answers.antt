use Rattle.room_index.proofs.Ranging.{more_same, more_then}
use Rattle.room_index.proofs.ranges.Ranges.put.Goals as goal

pub returns-clause-more : goal.returns-clause-more
returns-clause-more g c = more_then c.args.self.now c.put_last.new.self c.tell.new.self
    (more_same c.args.self.now c.put_last.new.self c.put_last.ensures.bits c.put_last.ensures.ranks c.put_last.ensures.short) c.tell.ensures.more
