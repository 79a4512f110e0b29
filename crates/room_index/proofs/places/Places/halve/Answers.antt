use Rattle.std.proofs.Common.{◌≡◌, ◌+◌, ◌-◌, ◌*◌, ◌/◌, ◌^◌, ◌<◌, ap, subst, sym, ◌∙◌, refl, arith}
use Rattle.room_index.proofs.Filing.{filed_as, filed_by, same_as, same_then}
use Rattle.room_index.proofs.HomeLemmas.{twice}
use Rattle.room_index.proofs.Sizing.{folds_begin, folds_end, no_entry}
use Rattle.room_index.specs.Places.{AreFiled, IsHome}
use Rattle.room_index.specs.Sizes.{Folds}
use Rattle.room_index.proofs.places.Places.halve.Goals.{After-many-half}
use Rattle.room_index.proofs.places.Places.halve.Goals as goal

-- a bit less
less : (g : _) (c : After-many-half g) → c.args.self.now.bits - 1 + 1 ≡ c.args.self.now.bits
less g c = omega (arith, c.requires.many)

-- half of the places
half_is : (g : _) (c : After-many-half g) → c.many-half.result / 2 ≡ 8 * 2 ^ (c.args.self.now.bits - 1)
half_is g c = omega (arith, c.many-half.ensures, c.requires.table.size.size c.requires.some, twice (c.args.self.now.bits - 1), ap (λ b. 2 ^ b) (less g c))

pub loop-place-init : goal.loop-place-init
loop-place-init g c = record {
  bits = less g c;
  tags = omega (arith, c.many-half.ensures, half_is g c, c.requires.table.size.size c.requires.some, twice (c.args.self.now.bits - 1), ap (λ b. 2 ^ b) (less g c));
  entries = c.requires.table.size.even
      ∙ omega (arith, c.many-half.ensures, half_is g c, c.requires.table.size.size c.requires.some, twice (c.args.self.now.bits - 1), ap (λ b. 2 ^ b) (less g c));
  filed = folds_begin _ (c.args.self.now.bits - 1) (c.many-half.result / 2) (half_is g c)
      (filed_as c.args.self.now _ (IsHome (c.args.self.now.bits - 1 + 1)) (subst (λ b. AreFiled c.args.self.now (IsHome b)) (sym (less g c)) c.requires.table.filed)
      (λ n. refl) (λ n e at. refl));
  same = same_as c.args.self.now _ (λ n. refl);
  used = c.requires.table.used;
  counter = refl;
}

pub loop-place-preserved : goal.loop-place-preserved
loop-place-preserved g c =
    let was = c.loop-place.invariant in
    record {
      bits = ap (λ b. b + 1) c.fold.ensures.places.bits ∙ was.bits;
      tags = c.fold.ensures.places.tags ∙ was.tags;
      entries = c.fold.ensures.places.entries ∙ was.entries;
      filed = subst (λ b. AreFiled c.fold.new.self (Folds b (c.many-half.result / 2) (c.loop-place.place + 1))) (sym c.fold.ensures.places.bits)
          (c.fold.ensures.filed c.if-not-fold.false);
      same = same_then c.args.self.now c.loop-place.self c.fold.new.self was.same (c.fold.ensures.same c.if-not-fold.false);
      used = c.fold.ensures.used;
      counter = c.fold.ensures.counter ∙ was.counter;
    }

pub shorten-requires-clause-free : goal.shorten-requires-clause-free
shorten-requires-clause-free g c n past =
    let is = c.loop-place.invariant in
    let lower = folds_end c.loop-place.self c.loop-place.self.bits (c.many-half.result / 2) c.loop-place.place is.filed is.entries c.loop-place-test.false
    (c.loop-place.auto.place-end (omega arith)) in
    no_entry _ (λ e at. omega (arith, (lower.places n e at).0))

pub returns-clause-table : goal.returns-clause-table
returns-clause-table g c done =
    let is = c.loop-place.invariant in
    let p = c.loop-place.self in
    let new = c.shorten.new.self in
    let same_bits = c.shorten.ensures.places.bits in
    let half = c.many-half.result / 2 in
    let lower = folds_end p p.bits half c.loop-place.place is.filed is.entries c.loop-place-test.false (c.loop-place.auto.place-end (omega arith)) in
    let filed = filed_by p (λ n pair. (n < half) × IsHome p.bits n pair) (IsHome p.bits) lower (λ n e at was. was.1) in
    record {
      used = c.shorten.ensures.used;
      size = record {
        even = c.shorten.ensures.places.entries ∙ sym c.shorten.ensures.places.tags;
        size = λ some. c.shorten.ensures.places.tags ∙ half_is g (goal.at.returns-clause-table g c).After-many-half
            ∙ ap (λ b. 8 * 2 ^ b) (omega (arith, is.bits, same_bits));
        few = omega (arith, c.requires.table.size.few, is.bits, same_bits);
      };
      filed = filed_as p new (IsHome new.bits) (subst (λ b. AreFiled p (IsHome b)) (sym same_bits) filed) c.shorten.ensures.places.stand c.shorten.ensures.places.same;
    }

pub returns-clause-same : goal.returns-clause-same
returns-clause-same g c done = same_then c.args.self.now c.loop-place.self c.shorten.new.self c.loop-place.invariant.same
    (same_as c.loop-place.self c.shorten.new.self c.shorten.ensures.places.stand)
