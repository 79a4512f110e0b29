use Rattle.std.proofs.Common.{◌≡◌, ◌+◌, ◌*◌, ◌==◌, ◌++◌, map, Some, sym, ap, subst, ◌∙◌, arith, inl, inr}
use Rattle.std.specs.Prelude.{option_map}
use Rattle.std.specs.Simd.Lanes.{chunk, mask_l}
use Rattle.std.proofs.lemmas.Bool.{cases_eq, cases_lt}
use Rattle.std.proofs.lemmas.Option.{none-some, same_Some}
use Rattle.room_index.specs.Filed.{Filed}
use Rattle.room_index.specs.Homes.{place_of}
use Rattle.room_index.specs.Places.{stands}
use Rattle.room_index.proofs.Looking.{IsBefore, first_within, none_behind, not_before, number_of, second_within, seen_there, tag_is}
use Rattle.room_index.proofs.places.Places.find.Goals.{in-Some+else-pair+else-hits-number-le1, in_default}
use Rattle.room_index.proofs.places.Places.find.Goals as goal

pub loop-number-init : goal.loop-number-init
loop-number-init g c =
    let counted = ap (λ v. v.count) c.places_before-before.ensures.visits in
    record {
      reads = record { turn = ap (λ v. v.turn) c.places_before-before.ensures.visits; rises = omega (arith, counted); bound = omega (arith, counted) };
      counted = omega (arith, counted);
      none = λ k e. not_before c.args.self.now c.args.pair c.of-homes.result c.of-homes.ensures c.requires.table c.if-is_empty.ensures c.places_before-before.result.0 k e
          (subst (IsBefore c.of-homes.result c.places_before-before.result.0) c.deref.ensures.value c.places_before-before.ensures.before);
    }

pub loop-number-preserved : goal.loop-number-preserved
loop-number-preserved g c =
    let was = c.loop-number.invariant in
    let looks = g.R.Rooms.looks in
    let more : (c.loop-number.number + 1) * looks ≡ c.loop-number.number * looks + looks = grind arith in
    let tagged = ap (λ v. v.count) c.tagged.ensures.look in
    let here : (e : Filed) → stands c.args.self.now c.place-place.result ≡ Some e → e.pair ≡ c.args.pair → option_map (λ e. e.now) c.tagged.result ≡ Some e =
    λ e at same. c.tagged.ensures.entry ∙ seen_there c.args.self.now c.args.pair c.of-homes.result c.of-homes.ensures c.requires.table c.if-is_empty.ensures c.place-place.result e at same in
    record {
      reads = elim c.match-tagged.branch [
        | in-Some+else-pair+else-hits-number-le1 w ↦ record {
          turn = ap (λ v. v.turn) w.visits-is ∙ ap (λ v. v.turn) w.pair.ensures.looks ∙ ap (λ v. v.turn) c.tagged.ensures.look ∙ was.reads.turn;
          rises = omega (arith, ap (λ v. v.count) w.visits-is, ap (λ v. v.count) w.pair.ensures.looks, tagged, was.reads.rises);
          bound = omega (arith, more, ap (λ v. v.count) w.visits-is, ap (λ v. v.count) w.pair.ensures.looks, tagged, was.reads.bound);
        }
        | in_default w ↦ record {
          turn = ap (λ v. v.turn) w.visits-is ∙ ap (λ v. v.turn) c.tagged.ensures.look ∙ was.reads.turn;
          rises = omega (arith, ap (λ v. v.count) w.visits-is, tagged, was.reads.rises);
          bound = omega (arith, more, ap (λ v. v.count) w.visits-is, tagged, was.reads.bound);
        }
      ];
      counted = elim c.match-tagged.branch [
        | in-Some+else-pair+else-hits-number-le1 w ↦ omega (arith, ap (λ v. v.count) w.visits-is, ap (λ v. v.count) w.pair.ensures.looks, tagged, was.counted)
        | in_default w ↦ omega (arith, ap (λ v. v.count) w.visits-is, tagged, was.counted)
      ];
      none = λ k e before at same. elim (cases_eq k c.loop-number.number) [
        | inl own ↦
            let found = here e (ap (stands c.args.self.now) (c.place-place.ensures ∙ ap (place_of c.of-homes.result) (sym own)) ∙ at) same in
            elim c.match-tagged.branch [
              | in-Some+else-pair+else-hits-number-le1 w ↦
                  let is = same_Some w.in-Some.entry.now e (sym (ap (option_map (λ e. e.now)) w.in-Some.is) ∙ found) in
                  omega (arith, w.if-pair.false, w.pair.ensures.pair, ap (λ x. x.pair) is, same)
              | in_default w ↦ none-some e (sym (ap (option_map (λ e. e.now)) w.in_default.is) ∙ found)
            ]
        | inr other ↦ was.none k e (omega (arith, before, other)) at same
      ];
    }

pub returns-then-hits-number-le1-clause-none : goal.returns-then-hits-number-le1-clause-none
returns-then-hits-number-le1-clause-none g c n e at same =
    let p = c.args.self.now in
    let h = c.of-homes.result in
    let number = number_of p c.args.pair h c.of-homes.ensures c.requires.table c.if-is_empty.ensures n e at same in
    let there : stands p (place_of h number.0) ≡ Some e = ap (stands p) number.2 ∙ at in
    elim (cases_lt number.0 c.loop-number.number) [
      | inl low ↦ c.loop-number.invariant.none number.0 e low there same
      | inr high ↦ elim (cases_eq number.0 c.loop-number.number) [
        | inl own ↦
            let found = c.tagged.ensures.entry ∙ seen_there p c.args.pair h c.of-homes.ensures c.requires.table c.if-is_empty.ensures c.place-place.result e
            (ap (stands p) (c.place-place.ensures ∙ ap (place_of h) (sym own)) ∙ there) same in
            let is = same_Some c.in-Some.entry.now e (sym (ap (option_map (λ e. e.now)) c.in-Some.is) ∙ found) in
            omega (arith, c.if-pair.false, c.pair.ensures.pair, ap (λ x. x.pair) is, same)
        | inr other ↦ none_behind h p.tags.items (first_within p c.args.pair h c.of-homes.ensures c.requires.table c.if-is_empty.ensures)
            (second_within p c.args.pair h c.of-homes.ensures c.requires.table c.if-is_empty.ensures) h.tag c.places_before-before.result.1 c.loop-number.number number.0
            (subst (λ ts. c.places_before-before.result.1 ≡ mask_l (map (λ t. t == h.tag) (chunk (8 * h.first) 8 ts ++ chunk (8 * h.second) 8 ts))) c.deref.ensures.value c.places_before-before.ensures.hits)
            (omega (arith, c.if-hits-number-le1.true)) (omega (arith, high, other)) number.1
            (tag_is p c.args.pair h c.of-homes.ensures c.requires.table c.if-is_empty.ensures (place_of h number.0) e there same)
      ]
    ]

pub returns-clause-none : goal.returns-clause-none
returns-clause-none g c n e at pair =
    let number = number_of c.args.self.now c.args.pair c.of-homes.result c.of-homes.ensures c.requires.table c.if-is_empty.ensures n e at pair in
    c.loop-number.invariant.none number.0 e (omega (arith, number.1)) (ap (stands c.args.self.now) number.2 ∙ at) pair
