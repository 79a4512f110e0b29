use Rattle.std.proofs.Common.{◌≡◌, Some, length, sym, ap, subst, ◌∙◌, inl, inr, arith}
use Rattle.std.proofs.lemmas.Bool.{cases_eq}
use Rattle.std.proofs.lemmas.Option.{none-some, same_Some}
use Rattle.room_index.proofs.Ranging.{read, told_more}
use Rattle.room_index.proofs.Standing.{stands_within}
use Rattle.room_index.specs.Places.{stands}
use Rattle.room_index.specs.Ranges.{Has, IsByRange, IsTold}
use Rattle.room_index.proofs.ranges.Ranges.renew.Goals.{in-Some, in_default}
use Rattle.room_index.proofs.ranges.Ranges.renew.Goals as goal

pub loop-place-init : goal.loop-place-init
loop-place-init g c = record {
  ranges = c.begin.ensures.ranges;
  within = λ e has. absurd (c.begin.ensures.none e has);
  told = λ n e before at. absurd (omega arith);
  many = c.begin.ensures.many;
  counter = c.begin.ensures.counter;
}

pub loop-place-preserved : goal.loop-place-preserved
loop-place-preserved g c = record {
  ranges = elim c.match-at.branch [
    | in-Some w ↦ subst IsByRange (sym w.self-is) w.put.ensures.ranges
    | in_default w ↦ subst IsByRange (sym w.self-is) c.loop-place.invariant.ranges
  ];
  within = λ e has. elim c.match-at.branch [
    | in-Some w ↦ elim (w.put.ensures.only e (subst (λ r. Has r e) w.self-is has)) [
      | inl own ↦ (c.loop-place.place, w.in-Some.ensures.some ∙ ap Some (read w.in-Some.entry.now w.pair-pair.ensures.pair w.room.ensures ∙ sym own))
      | inr had ↦ c.loop-place.invariant.within e had
    ]
    | in_default w ↦ c.loop-place.invariant.within e (subst (λ r. Has r e) w.self-is has)
  ];
  told = λ n e before at. elim c.match-at.branch [
    | in-Some w ↦ elim (cases_eq n c.loop-place.place) [
      | inl same ↦
          let own : w.in-Some.entry.now ≡ e = same_Some w.in-Some.entry.now e (sym w.in-Some.ensures.some ∙ ap (stands c.args.places.now) (sym same) ∙ at) in
          subst (λ r. IsTold r e.pair) (sym w.self-is) (subst (IsTold w.put.new.self) (w.pair-pair.ensures.pair ∙ ap (λ x. x.pair) own) w.put.ensures.told)
      | inr other ↦ subst (λ r. IsTold r e.pair) (sym w.self-is)
          (told_more c.loop-place.self w.put.new.self e.pair w.put.ensures.more (c.loop-place.invariant.told n e (omega arith) at))
    ]
    | in_default w ↦ elim (cases_eq n c.loop-place.place) [
      | inl same ↦ absurd (none-some e (sym w.in_default.ensures.none ∙ ap (stands c.args.places.now) (sym same) ∙ at))
      | inr other ↦ subst (λ r. IsTold r e.pair) (sym w.self-is) (c.loop-place.invariant.told n e (omega arith) at)
    ]
  ];
  many = elim c.match-at.branch [
    | in-Some w ↦ ap (λ r. length r.ranks.items) w.self-is ∙ w.put.ensures.more.many ∙ c.loop-place.invariant.many
    | in_default w ↦ ap (λ r. length r.ranks.items) w.self-is ∙ c.loop-place.invariant.many
  ];
  counter = elim c.match-at.branch [
    | in-Some w ↦ ap (λ v. v.turn) w.visits-is ∙ w.put.ensures.counter ∙ ap (λ v. v.turn) w.pair-pair.ensures.looks ∙ ap (λ v. v.turn) c.at.ensures.look ∙ c.loop-place.invariant.counter
    | in_default w ↦ ap (λ v. v.turn) w.visits-is ∙ ap (λ v. v.turn) c.at.ensures.look ∙ c.loop-place.invariant.counter
  ];
}

pub returns-clause-told : goal.returns-clause-told
returns-clause-told g c e at = c.loop-place.invariant.told at.0 e
    (omega (arith, c.loop-place-test.false, c.many-place-end.ensures, c.requires.table.size.even, stands_within c.args.places.now.tags.items c.args.places.now.entries.items at.0 {e = e} at.1)) at.1
