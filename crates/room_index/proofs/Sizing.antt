-- A table that becomes larger or smaller, place by place.
use Rattle.std.proofs.Common.{◌≡◌, ℕ, ◌+◌, ◌*◌, ◌/◌, ◌^◌, ◌<◌, ◌≤◌, Option, Some, None, length, sym, ap, subst, ◌∙◌, refl, inl, inr, arith}
use Rattle.std.proofs.lemmas.Bool.{cases_eq, cases_lt}
use Rattle.std.proofs.lemmas.Option.{none-some}
use Rattle.room_index.proofs.Filing.{at_other, filed_by, filed_moved, moved_same}
use Rattle.room_index.proofs.HomeLemmas.{parted_home, low_home, home_within}
use Rattle.room_index.proofs.Standing.{stands_within}
use Rattle.room_index.specs.Homes.{first_home, second_home}
use Rattle.room_index.specs.Places.{stands, AreFiled, HaveSame, IsHome, Moves}
use Rattle.room_index.specs.Sizes.{Folds, Parts}
use Rattle.room_index.specs.Filed.{Filed}
use Rattle.room_index.specs.declared.places.Places.{Places}

-- a place in which nothing can stand is free
pub no_entry : (o : Option Filed) → ((e : Filed) → o ≡ Some e → ⊥) → o ≡ None
no_entry None none = refl
no_entry (Some e) none = absurd (none e refl)

module _ {P : Type 0} where
  -- ---- twice as many buckets
  module _ (p : Places P) (bits many place : ℕ) (are : AreFiled p (Parts bits many place)) where
    -- a place is passed by, whose entry, if it has one, is at home there
    pub parted_past : ((e : Filed) → stands p place ≡ Some e → IsHome (bits + 1) place e.pair) → AreFiled p (Parts bits many (place + 1))
    parted_past home = filed_by p (Parts bits many place) (Parts bits many (place + 1)) are (λ n e at was. record {
      parted = λ before. elim (cases_eq n place) [
        | inl same ↦ subst (λ k. IsHome (bits + 1) k e.pair) (sym same) (home e (ap (stands p) (sym same) ∙ at))
        | inr other ↦ was.parted (omega arith)
      ];
      left = λ behind within. was.left (omega arith) within;
      moved = λ high. let w = was.moved high in (omega (arith, w.0), w.1);
    })

    pub parted_free : many ≡ 8 * 2 ^ bits → stands p (place + many) ≡ None
    parted_free size = no_entry (stands p (place + many)) (λ e at. omega (arith, ((are.places (place + many) e at).moved (omega arith)).0))

    module _ (new : Places P) (e : Filed) (at : stands p place ≡ Some e) (size : many ≡ 8 * 2 ^ bits) (within : place < many) (moves : Moves p new place (place + many))
        (not_first : place / 8 ≡ first_home (bits + 1) e.pair → ⊥) (not_second : place / 8 ≡ second_home (bits + 1) e.pair → ⊥) where
      pub parted_same : HaveSame p new
      parted_same = moved_same p new place (place + many) moves e at (parted_free size)

      -- all that is still to come stands where it stood
      pub parted_left : (n : ℕ) → place < n → n < many → stands new n ≡ stands p n
      parted_left n behind low = at_other p new place (place + many) moves e at (parted_free size) n (λ same. omega (arith, same, low)) (λ same. omega (arith, same, behind))

      far_home : IsHome (bits + 1) (place + many) e.pair
      far_home = parted_home bits place e.pair ((are.places place e at).left (omega arith) within) not_first not_second (place + many) (omega arith)

      pub parted_on : AreFiled new (Parts bits many (place + 1))
      parted_on = filed_moved p new place (place + many) moves e at (parted_free size) (Parts bits many place) (Parts bits many (place + 1)) are
          (record { parted = λ before. far_home; left = λ behind low. absurd (omega arith); moved = λ high. (omega arith, far_home) })
          (λ n f other stood was. record {
            parted = λ before. was.parted (omega arith);
            left = λ behind low. was.left (omega arith) low;
            moved = λ high. let w = was.moved high in (omega (arith, w.0), w.1);
          })

  pub parts_begin : (p : Places P) (bits many : ℕ) → AreFiled p (IsHome bits) → ((n : ℕ) (e : Filed) → stands p n ≡ Some e → n < many) → AreFiled p (Parts bits many 0)
  parts_begin p bits many are low = filed_by p (IsHome bits) (Parts bits many 0) are (λ n e at home. record {
    parted = λ before. absurd (omega arith);
    left = λ behind within. home;
    moved = λ high. absurd (omega (arith, low n e at));
  })

  pub parts_end : (p : Places P) (bits many : ℕ) → AreFiled p (Parts bits many many) → AreFiled p (IsHome (bits + 1))
  parts_end p bits many are = filed_by p (Parts bits many many) (IsHome (bits + 1)) are (λ n e at was. elim (cases_lt n many) [
    | inl low ↦ was.parted low
    | inr high ↦ (was.moved high).1
  ])

  -- ---- half as many
  module _ (p : Places P) (bits half place : ℕ) (are : AreFiled p (Folds bits half place)) where
    pub folded_past : stands p place ≡ None → AreFiled p (Folds bits half (place + 1))
    folded_past none = filed_by p (Folds bits half place) (Folds bits half (place + 1)) are (λ n e at was. record {
      lower = was.lower;
      upper = λ high.
          let w = was.upper high in
          let other : n ≡ place → ⊥ = λ same. none-some e (sym none ∙ ap (stands p) (sym same) ∙ at) in
          (omega (arith, w.0), w.1);
    })

    module _ (new : Places P) (near : ℕ) (e : Filed) (at : stands p place ≡ Some e) (free : stands p near ≡ None) (moves : Moves p new place near)
        (size : half ≡ 8 * 2 ^ bits) (within : place < 2 * half) (home : IsHome bits near e.pair) where
      pub folded_same : HaveSame p new
      folded_same = moved_same p new place near moves e at free

      pub folded_down : AreFiled new (Folds bits half (place + 1))
      folded_down = filed_moved p new place near moves e at free (Folds bits half place) (Folds bits half (place + 1)) are
          (record {
            lower = λ low. home;
            upper = λ up. absurd (omega (arith, size, up, home_within bits near e.pair home));
          })
          (λ n f other stood was. record {
            lower = was.lower;
            upper = λ up. let w = was.upper up in (omega (arith, w.0), w.1);
          })

  pub folds_begin : (p : Places P) (bits half : ℕ) → half ≡ 8 * 2 ^ bits → AreFiled p (IsHome (bits + 1)) → AreFiled p (Folds bits half half)
  folds_begin p bits half size are = filed_by p (IsHome (bits + 1)) (Folds bits half half) are (λ n e at home. record {
    lower = λ low. low_home bits n e.pair home (omega arith);
    upper = λ high. (high, home);
  })

  pub folds_end : (p : Places P) (bits half place : ℕ) → AreFiled p (Folds bits half place) → length p.entries.items ≡ 2 * half → 2 * half ≤ place → place ≤ 2 * half
      → AreFiled p (λ n pair. (n < half) × IsHome bits n pair)
  folds_end p bits half place are long from to = filed_by p (Folds bits half place) (λ n pair. (n < half) × IsHome bits n pair) are (λ n e at was. elim (cases_lt n half) [
    | inl lower ↦ (lower, was.lower lower)
    | inr upper ↦ absurd (omega (arith, (was.upper upper).0, stands_within p.tags.items p.entries.items n {e = e} at))
  ])
