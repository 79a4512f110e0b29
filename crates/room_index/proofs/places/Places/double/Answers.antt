use Rattle.std.proofs.Common.{◌≡◌, ℕ, ◌+◌, ◌*◌, ◌/◌, ◌%◌, ◌^◌, ◌<◌, ◌≤◌, Some, slice_get, ap, subst, sym, ◌∙◌, refl, inl, inr, arith}
use Rattle.std.proofs.lemmas.Bool.{cases_eq}
use Rattle.std.proofs.lemmas.Option.{get_or_from_slice_get}
use Rattle.room_index.proofs.Filing.{filed_as, same_as, same_then}
use Rattle.room_index.proofs.HomeLemmas.{twice}
use Rattle.room_index.proofs.Ranging.{told_more}
use Rattle.room_index.proofs.Sizing.{parts_begin, parts_end}
use Rattle.room_index.proofs.Standing.{stands_within}
use Rattle.room_index.specs.Filed.{Filed}
use Rattle.room_index.specs.Places.{stands, AreFiled, IsHome}
use Rattle.room_index.specs.Sizes.{Parts}
use Rattle.room_index.proofs.places.Places.double.Goals.{then-place-eq0, else-place-eq0, Joined-place-eq0}
use Rattle.room_index.proofs.places.Places.double.Goals as goal

pub loop-place-init : goal.loop-place-init
loop-place-init g c =
    let p = c.args.self.now in
    let filed = filed_as p c.lengthen.new.self (IsHome p.bits) c.requires.table.filed c.lengthen.ensures.places.stand c.lengthen.ensures.places.same in
    record {
      bits = c.lengthen.ensures.places.bits;
      tags = c.lengthen.ensures.places.tags;
      entries = c.lengthen.ensures.places.entries;
      filed = parts_begin c.lengthen.new.self p.bits c.many-many.result filed (λ n e at.
          omega (arith, stands_within p.tags.items p.entries.items n {e = e} (sym (c.lengthen.ensures.places.stand n) ∙ at), c.requires.table.size.even, c.many-many.ensures));
      same = same_as p c.lengthen.new.self c.lengthen.ensures.places.stand;
      pairs = λ n e from to inside low at. absurd (inside refl);
      left = λ n behind low. c.lengthen.ensures.places.stand n;
      used = c.lengthen.ensures.used;
      ranges = c.begin_for.ensures.ranges;
      within = λ e has. c.requires.within e (c.begin_for.ensures.fewer e has);
      told = λ n e before at. absurd (omega arith);
      ranged = c.begin_for.ensures.many;
      counter = c.begin_for.ensures.counter;
    }

-- the pairs of what is still to come of the places that were read together are at hand
at_hand : (g : _) (c : Joined-place-eq0 g) (n : ℕ) (e : Filed) → c.loop-place.place % 256 ≤ n → n < 256 → 256 * (c.loop-place.place / 256) + n < c.many-many.result
    → stands c.loop-place.self (256 * (c.loop-place.place / 256) + n) ≡ Some e → slice_get c.if-place-eq0.pairs n ≡ Some e.pair
at_hand g c n e from to low at = elim c.if-place-eq0.branch [
  | then-place-eq0 w ↦
      let here : c.loop-place.place + n ≡ 256 * (c.loop-place.place / 256) + n = omega (arith, w.if-place-eq0.true) in
      ap (λ ps. slice_get ps n) w.pairs-is ∙ w.pairs_from-pairs.ensures.pairs n e to (ap (stands c.loop-place.self) here ∙ at)
  | else-place-eq0 w ↦ ap (λ ps. slice_get ps n) w.pairs-is ∙ c.loop-place.invariant.pairs n e from to w.if-place-eq0.false low at
]

pub loop-place-preserved : goal.loop-place-preserved
loop-place-preserved g c =
    let was = c.loop-place.invariant in
    record {
      bits = c.part.ensures.places.bits ∙ was.bits;
      tags = c.part.ensures.places.tags ∙ was.tags;
      entries = c.part.ensures.places.entries ∙ was.entries;
      filed = subst (λ b. AreFiled c.part.new.self (Parts b c.many-many.result (c.loop-place.place + 1))) was.bits c.part.ensures.filed;
      same = same_then c.args.self.now c.loop-place.self c.part.new.self was.same c.part.ensures.same;
      pairs = λ n e from to inside low at.
          let next : ℕ = 256 * ((c.loop-place.place + 1) / 256) + n in
          let same : 256 * (c.loop-place.place / 256) + n ≡ next = omega (arith, inside) in
          let left = c.part.ensures.left next (omega (arith, from)) low in
          at_hand g (goal.at.loop-place-preserved g c).Joined-place-eq0 n e (omega (arith, from, inside)) to (omega (arith, same, low)) (ap (stands c.loop-place.self) same ∙ sym left ∙ at);
      left = λ n behind low. c.part.ensures.left n (omega arith) low ∙ was.left n (omega arith) low;
      used = c.part.ensures.used;
      ranges = c.part.ensures.ranges;
      within = λ e has. elim (c.part.ensures.only e has) [
        | inl own ↦ was.same.had e own
        | inr had ↦ was.within e had
      ];
      told = λ n e before at. elim (cases_eq n c.loop-place.place) [
        | inl same ↦ c.part.ensures.told e (was.left c.loop-place.place (omega arith) (omega arith) ∙ ap (stands c.args.self.now) (sym same) ∙ at)
        | inr other ↦ told_more c.loop-place.ranges c.part.new.ranges e.pair c.part.ensures.more (was.told n e (omega arith) at)
      ];
      ranged = λ last ranks. c.part.ensures.more.many ∙ was.ranged last ranks;
      counter = c.part.ensures.counter ∙ elim c.if-place-eq0.branch [
        | then-place-eq0 w ↦ ap (λ v. v.turn) w.visits-is ∙ w.pairs_from-pairs.ensures.counter ∙ was.counter
        | else-place-eq0 w ↦ ap (λ v. v.turn) w.visits-is ∙ was.counter
      ];
    }

pub returns-clause-table : goal.returns-clause-table
returns-clause-table g c =
    let is = c.loop-place.invariant in
    let many = c.many-many.result in
    let ended : c.loop-place.place ≡ many = omega (arith, c.loop-place-test.false, c.loop-place.auto.place-end) in
    let filed = parts_end c.loop-place.self c.args.self.now.bits many (subst (λ n. AreFiled c.loop-place.self (Parts c.args.self.now.bits many n)) ended is.filed) in
    record {
      used = is.used;
      size = record {
        even = is.entries ∙ sym is.tags;
        size = λ some. is.tags ∙ omega (arith, c.requires.table.size.size c.requires.some, c.many-many.ensures, twice c.args.self.now.bits)
            ∙ ap (λ b. 8 * 2 ^ (b + 1)) (sym is.bits);
        few = omega (arith, c.requires.few, is.bits);
      };
      filed = filed_as c.loop-place.self _ (IsHome (c.loop-place.self.bits + 1)) (subst (λ b. AreFiled c.loop-place.self (IsHome (b + 1))) (sym is.bits) filed)
          (λ n. refl) (λ n e at. refl);
    }

-- all that was there has been passed
pub returns-clause-told : goal.returns-clause-told
returns-clause-told g c e at =
    let p = c.args.self.now in
    let stood = c.loop-place.invariant.same.had e at in
    c.loop-place.invariant.told stood.0 e
    (omega (arith, c.loop-place-test.false, c.many-many.ensures, c.requires.table.size.even, stands_within p.tags.items p.entries.items stood.0 {e = e} stood.1)) stood.1

pub returns-clause-within : goal.returns-clause-within
returns-clause-within g c e has = c.loop-place.invariant.same.kept e (c.loop-place.invariant.within e has)

pub pairs_from-pairs-requires-clause-known : goal.pairs_from-pairs-requires-clause-known
pairs_from-pairs-requires-clause-known g c e at = c.requires.known e (c.loop-place.invariant.same.had e at)

pub part-requires-clause-pair : goal.part-requires-clause-pair
part-requires-clause-pair g c e at =
    let place = c.loop-place.place in
    let here : 256 * (place / 256) + place % 256 ≡ place = omega arith in
    get_or_from_slice_get c.if-place-eq0.pairs (place % 256) e.pair 0
    (at_hand g (goal.at.part-requires-clause-pair g c).Joined-place-eq0 (place % 256) e (omega arith) (omega arith) (omega (arith, here, c.loop-place-test.true))
    (ap (stands c.loop-place.self) here ∙ at))
