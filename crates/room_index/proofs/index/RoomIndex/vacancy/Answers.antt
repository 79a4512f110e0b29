use Rattle.std.proofs.Common.{not, rules, sym, subst, refl, true≢false, ◌∙◌}
use Rattle.std.specs.Prelude.{IsSome}
use Rattle.room_index.proofs.Filing.{same_then}
use Rattle.room_index.proofs.Naming.{held, keeps, known_in, none_told}
use Rattle.room_index.proofs.Ranging.{same_by_range, told_fewer, told_more}
use Rattle.room_index.specs.Names.{Keeps}
use Rattle.room_index.proofs.index.RoomIndex.vacancy.Goals as goal

pub grow-requires-clause-known : goal.grow-requires-clause-known
grow-requires-clause-known g c = known_in c.self.inside.places (not c.self.inside.given_up) (g.R.Rooms.Knows c.args.rooms.now) c.self.view_is c.requires.known

pub place_for-requires-clause-known : goal.place_for-requires-clause-known
place_for-requires-clause-known g c e at = known_in c.self.inside.places (not c.self.inside.given_up) (g.R.Rooms.Knows c.args.rooms.now) c.self.view_is c.requires.known e (c.grow.ensures.same.had e at)

pub returns-clause-keeps : goal.returns-clause-keeps
returns-clause-keeps g c =
    let found = c.place_for.ensures.same (subst IsSome (sym c.in-Some.is) refl) in
    subst (λ h. Keeps h (held c.place_for.new.self (not c.self.inside.given_up))) c.self.view_is
    (keeps c.self.inside.places c.place_for.new.self (not c.self.inside.given_up) (same_then c.self.inside.places c.grow.new.self c.place_for.new.self c.grow.ensures.same found))

-- where there is no place for it, nothing is left
pub invariant_of-self : goal.invariant_of-self
invariant_of-self g c = record {
  table = c.place_for.ensures.table;
  none = λ up. c.in_default.ensures.none;
  by_range = c.clear.ensures.ranges;
  within = λ e has. absurd (c.clear.ensures.none e has);
  told = none_told c.clear.new.self c.place_for.new.self c.in_default.ensures.none;
}

-- the pair has a place now, and what was told is told of the same entries
pub invariant_of-self-2 : goal.invariant_of-self-2
invariant_of-self-2 g c =
    let found = c.place_for.ensures.same (subst IsSome (sym c.in-Some.is) refl) in
    record {
      table = c.place_for.ensures.table;
      -- it wasn't given up
      none = λ up. absurd (true≢false (sym up ∙ c.if-self.false));
      by_range = same_by_range c.grow.new.ranges c.tell.new.self c.grow.ensures.ranges c.tell.ensures.last;
      within = λ e has. found.kept e (c.grow.ensures.within e (search rules));
      told = λ e at. told_more c.grow.new.ranges c.tell.new.self e.pair c.tell.ensures.more
          (told_fewer c.grow.new.ranges c.grow.new.self c.place_for.new.self c.grow.ensures.told found.had e at);
    }
