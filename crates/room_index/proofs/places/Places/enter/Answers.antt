use Rattle.std.proofs.Common.{Some, subst, sym}
use Rattle.room_index.proofs.Filing.{filed_put, put_adds, size_kept}
use Rattle.room_index.specs.Places.{AreFiled, Changes, IsHome}
use Rattle.room_index.proofs.places.Places.enter.Goals.{After-put}
use Rattle.room_index.proofs.places.Places.enter.Goals as goal

-- what is put is the pair's room
puts : (g : _) (c : After-put g) → Changes c.args.self.now c.put.new.self c.args.place (Some (record { pair = c.args.pair; room = c.args.room }))
puts g c = subst (λ e. Changes c.args.self.now c.put.new.self c.args.place (Some e)) c.of.ensures c.put.ensures.put

pub returns-clause-table : goal.returns-clause-table
returns-clause-table g c =
    let old = c.args.self.now in
    let new = c.put.new.self in
    record {
      used = c.put.ensures.used;
      size = size_kept old new c.requires.table.size c.put.ensures.put.same;
      filed = subst (λ b. AreFiled new (IsHome b)) (sym c.put.ensures.put.same.bits)
          (filed_put old new (IsHome old.bits) c.requires.table.filed c.args.place (record { pair = c.args.pair; room = c.args.room }) (puts g (goal.at.returns-clause-table g c).After-put) c.requires.place.free c.requires.place.home c.requires.absent);
    }

pub returns-clause-entered : goal.returns-clause-entered
returns-clause-entered g c = put_adds c.args.self.now c.put.new.self (IsHome c.args.self.now.bits) c.requires.table.filed c.args.place (record { pair = c.args.pair; room = c.args.room }) (puts g (goal.at.returns-clause-entered g c).After-put)
    c.requires.place.free c.requires.place.home c.requires.absent
