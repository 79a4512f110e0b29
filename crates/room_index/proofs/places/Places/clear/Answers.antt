use Rattle.std.proofs.Common.{subst, sym, ap, ◌∙◌, inl, inr}
use Rattle.room_index.proofs.Filing.{filed_moved, moved_same, size_kept}
use Rattle.room_index.specs.Places.{IsHome}
use Rattle.room_index.proofs.places.Places.clear.Goals.{After-move_to}
use Rattle.room_index.proofs.places.Places.clear.Goals as goal

-- the free place is one of the entry's other home
home : (g : _) (c : After-move_to g) → IsHome c.args.self.now.bits c.in-Some-free_in.free c.in-Some.entry.now.pair
home g c = subst (IsHome c.args.self.now.bits c.in-Some-free_in.free) c.pair-pair.ensures.pair (elim c.beside-other.ensures [
  | inl first ↦ inl (c.in-Some-free_in.ensures.free.0 ∙ first ∙ ap (λ h. h.first) c.of.ensures)
  | inr second ↦ inr (c.in-Some-free_in.ensures.free.0 ∙ second ∙ ap (λ h. h.second) c.of.ensures)
])

pub returns-clause-table : goal.returns-clause-table
returns-clause-table g c =
    let p = c.args.self.now in
    let new = c.move_to.new.self in
    let bits = c.move_to.ensures.moved.same.bits in
    record {
      used = c.move_to.ensures.used;
      size = size_kept p new c.requires.table.size c.move_to.ensures.moved.same;
      filed = filed_moved p new c.args.place c.in-Some-free_in.free c.move_to.ensures.moved c.in-Some.entry.now c.in-Some.ensures.some c.in-Some-free_in.ensures.free.2
          (IsHome p.bits) (IsHome new.bits) c.requires.table.filed
          (subst (λ b. IsHome b c.in-Some-free_in.free c.in-Some.entry.now.pair) (sym bits) (home g c))
          (λ n e other stood was. subst (λ b. IsHome b n e.pair) (sym bits) was);
    }

pub returns-clause-same : goal.returns-clause-same
returns-clause-same g c = moved_same c.args.self.now c.move_to.new.self c.args.place c.in-Some-free_in.free c.move_to.ensures.moved c.in-Some.entry.now
    c.in-Some.ensures.some c.in-Some-free_in.ensures.free.2
