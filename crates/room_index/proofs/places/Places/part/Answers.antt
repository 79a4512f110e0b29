use Rattle.std.proofs.Common.{◌≡◌, ◌+◌, ◌/◌, ◌⊎◌, Some, refl, inl, inr, sym, ap, subst, ◌∙◌, arith}
use Rattle.std.proofs.lemmas.Option.{none-some}
use Rattle.room_index.proofs.Ranging.{more_same, read}
use Rattle.room_index.proofs.Sizing.{parted_past, parted_free, parted_left, parted_same, parted_on}
use Rattle.room_index.specs.Filed.{Filed}
use Rattle.room_index.specs.Homes.{first_home, second_home}
use Rattle.room_index.specs.Places.{stands, IsHome, IsIn}
use Rattle.room_index.specs.Ranges.{Has, IsTold}
use Rattle.room_index.proofs.places.Places.part.Goals.{After-move_to, After-put}
use Rattle.room_index.proofs.places.Places.part.Goals as goal

pub returns-in_default-clause-filed : goal.returns-in_default-clause-filed
returns-in_default-clause-filed g c = parted_past _ c.args.self.now.bits c.args.many c.args.place c.requires.filed
    (λ e at. absurd (none-some e (sym c.in_default.ensures.none ∙ at)))

pub returns-in_default-clause-told : goal.returns-in_default-clause-told
returns-in_default-clause-told g c e at = absurd (none-some e (sym c.in_default.ensures.none ∙ at))

pub returns-in_default-clause-more : goal.returns-in_default-clause-more
returns-in_default-clause-more g c = more_same c.args.ranges.now c.args.ranges.now refl refl refl

pub move_to-requires-clause-to : goal.move_to-requires-clause-to
move_to-requires-clause-to g c = (omega arith, parted_free _ c.args.self.now.bits c.args.many c.args.place c.requires.filed c.requires.many)

-- ---- what the ranges have then
only : (g : _) (c : After-put g) (e : Filed) → Has c.put.new.self e → IsIn c.args.self.now e ⊎ Has c.args.ranges.now e
only g c e has = elim (c.put.ensures.only e has) [
  | inl own ↦ inl (c.args.place, c.in-Some.ensures.some ∙ ap Some (read c.in-Some.entry.now (c.requires.pair c.in-Some.entry.now c.in-Some.ensures.some) c.room.ensures ∙ sym own))
  | inr had ↦ inr had
]

told : (g : _) (c : After-put g) (e : Filed) → stands c.args.self.now c.args.place ≡ Some e → IsTold c.put.new.self e.pair
told g c e at = subst (IsTold c.put.new.self) (c.requires.pair e at) c.put.ensures.told

pub returns-then-not-has-clause-only : goal.returns-then-not-has-clause-only
returns-then-not-has-clause-only g c = only g (goal.at.returns-then-not-has-clause-only g c).After-put

pub returns-else-not-has-clause-only : goal.returns-else-not-has-clause-only
returns-else-not-has-clause-only g c = only g (goal.at.returns-else-not-has-clause-only g c).After-put

pub returns-then-not-has-clause-told : goal.returns-then-not-has-clause-told
returns-then-not-has-clause-told g c = told g (goal.at.returns-then-not-has-clause-told g c).After-put

pub returns-else-not-has-clause-told : goal.returns-else-not-has-clause-told
returns-else-not-has-clause-told g c = told g (goal.at.returns-else-not-has-clause-told g c).After-put

-- ---- where the entry stands then
-- the bucket is no home any more
not_first : (g : _) (c : After-move_to g) → c.args.place / 8 ≡ first_home (c.args.self.now.bits + 1) c.in-Some.entry.now.pair → ⊥
not_first g c is = c.if-not-has.ensures.0 (is ∙ ap (first_home (c.args.self.now.bits + 1)) (sym (c.requires.pair c.in-Some.entry.now c.in-Some.ensures.some)) ∙ ap (λ h. h.first) (sym c.of.ensures))

not_second : (g : _) (c : After-move_to g) → c.args.place / 8 ≡ second_home (c.args.self.now.bits + 1) c.in-Some.entry.now.pair → ⊥
not_second g c is = c.if-not-has.ensures.1 (is ∙ ap (second_home (c.args.self.now.bits + 1)) (sym (c.requires.pair c.in-Some.entry.now c.in-Some.ensures.some)) ∙ ap (λ h. h.second) (sym c.of.ensures))

pub returns-then-not-has-clause-filed : goal.returns-then-not-has-clause-filed
returns-then-not-has-clause-filed g c = parted_on _ c.args.self.now.bits c.args.many c.args.place c.requires.filed c.move_to.new.self c.in-Some.entry.now
    c.in-Some.ensures.some c.requires.many c.requires.within c.move_to.ensures.moved (not_first g c) (not_second g c)

pub returns-then-not-has-clause-same : goal.returns-then-not-has-clause-same
returns-then-not-has-clause-same g c = parted_same _ c.args.self.now.bits c.args.many c.args.place c.requires.filed c.move_to.new.self c.in-Some.entry.now
    c.in-Some.ensures.some c.requires.many c.requires.within c.move_to.ensures.moved (not_first g c) (not_second g c)

pub returns-then-not-has-clause-left : goal.returns-then-not-has-clause-left
returns-then-not-has-clause-left g c = parted_left _ c.args.self.now.bits c.args.many c.args.place c.requires.filed c.move_to.new.self c.in-Some.entry.now
    c.in-Some.ensures.some c.requires.many c.requires.within c.move_to.ensures.moved (not_first g c) (not_second g c)

pub returns-else-not-has-clause-filed : goal.returns-else-not-has-clause-filed
returns-else-not-has-clause-filed g c = parted_past _ c.args.self.now.bits c.args.many c.args.place c.requires.filed (λ e at.
    subst (IsHome (c.args.self.now.bits + 1) c.args.place) (c.requires.pair e at)
    (elim c.if-not-has.ensures [ inl first ↦ inl (first ∙ ap (λ h. h.first) c.of.ensures) | inr second ↦ inr (second ∙ ap (λ h. h.second) c.of.ensures) ]))
