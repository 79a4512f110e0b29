use Rattle.std.proofs.Common.{◌≡◌, not, length, sym, ap, subst, ◌∙◌, inl, inr, arith}
use Rattle.std.specs.Prelude.{MatchOption, false}
use Rattle.room_index.proofs.Naming.{held, enters, enters_none, is_named}
use Rattle.room_index.proofs.Ranging.{told_more}
use Rattle.room_index.specs.Homes.{pair}
use Rattle.room_index.specs.Names.{Enters, IsKeptFor, Names}
use Rattle.room_index.specs.Places.{IsIn}
use Rattle.room_index.specs.Ranges.{IsTold}
use Rattle.room_index.proofs.index.RoomIndex.enter.Goals as goal

pub enter-requires-clause-absent : goal.enter-requires-clause-absent
enter-requires-clause-absent g c e at same = c.requires.absent e.room (subst (λ k. Names c.args.self.now k e.room) (same ∙ c.pair_of-pair.ensures)
    (subst (λ h. Names h e.pair e.room) c.self.view_is (is_named c.self.inside.places (not c.self.inside.given_up) e at)))

pub returns-clause-entered : goal.returns-clause-entered
returns-clause-entered g c =
    let now = held c.enter.new.self (not c.self.inside.given_up) in
    subst (λ k. Enters c.args.self.now now k c.args.room) c.pair_of-pair.ensures (subst (λ h. Enters h now c.pair_of-pair.result c.args.room) c.self.view_is
    (enters c.self.inside.places c.enter.new.self (not c.self.inside.given_up) (record { pair = c.pair_of-pair.result; room = c.args.room }) c.enter.ensures.entered))

pub returns-in_default-clause-entered : goal.returns-in_default-clause-entered
returns-in_default-clause-entered g c = enters_none c.args.self.now (pair c.args.key c.args.rank) c.args.room
    (subst (λ v. MatchOption v (c.args.self.now.whole ≡ false) (λ x. IsKeptFor c.args.self.now (pair c.args.key c.args.rank) x)) c.in_default.is c.requires.kept_for)

pub invariant_of-self : goal.invariant_of-self
invariant_of-self g c = record {
  table = c.enter.ensures.table;
  -- where a place was kept it wasn't given up
  none = λ up.
      let now = c.args.self.now in
      let kept = subst (λ v. MatchOption v (now.whole ≡ false) (λ x. IsKeptFor now (pair c.args.key c.args.rank) x)) c.in-Some.is c.requires.kept_for in
      absurd (omega (arith, kept.within, ap (λ h. length h.tags) c.self.view_is, ap length (c.self.invariant.none up)));
  by_range = c.put.ensures.ranges;
  within = λ e has. elim (c.put.ensures.only e has) [
    | inl own ↦ subst (IsIn c.enter.new.self) (sym own) c.enter.ensures.entered.own
    | inr had ↦ c.enter.ensures.entered.kept e (c.self.invariant.within e had)
  ];
  told = λ e at. elim (c.enter.ensures.entered.had e at) [
    | inl own ↦ subst (λ x. IsTold c.put.new.self x.pair) (sym own) c.put.ensures.told
    | inr had ↦ told_more c.self.inside.ranges c.put.new.self e.pair c.put.ensures.more (c.self.invariant.told e had)
  ];
}
