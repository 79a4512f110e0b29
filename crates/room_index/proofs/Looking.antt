-- A pair is looked for in the places of both its homes, by their numbers.
use Rattle.std.proofs.Common.{◌≡◌, ℕ, ◌+◌, ◌-◌, ◌*◌, ◌/◌, ◌%◌, ◌^◌, ◌<◌, ◌≤◌, ◌==◌, ◌++◌, not, cond, map, inl, inr, if◌then◌else◌, List, None, Some, false, length, get_or, slice_get, slice_index, true≢false, pow_mono, sym, ap, subst, ◌∙◌, refl, arith}
use Rattle.std.specs.List.{prefix_len}
use Rattle.std.specs.Vec.{vec_len}
use Rattle.std.specs.Simd.Lanes.{chunk, mask_l}
use Rattle.std.proofs.lemmas.Bool.{cases_lt, cond_above, cond_below, eq-eqb, eqb-false}
use Rattle.std.proofs.lemmas.List.{get_or-map, get_or_append_left, get_or-append_right, length-append}
use Rattle.std.proofs.lemmas.List.Sums.{prefix_len_passes, prefix_len-le-length}
use Rattle.std.proofs.Math.Nat.{mod-lt, div-eq_of_lt}
use Rattle.std.proofs.lemmas.Nat.{pow_pos, shr-shr}
use Rattle.std.proofs.lemmas.Simd.{bit_mask_l, length-chunk, get_or-chunk}
use Rattle.room_index.specs.Homes.{homes, place_of, spread, tag_of}
use Rattle.room_index.proofs.Standing.{entry_of}
use Rattle.room_index.specs.Places.{stands, IsHome, IsTable}
use Rattle.room_index.specs.Filed.{Filed}
use Rattle.room_index.specs.declared.homes.Homes.{Homes}
use Rattle.room_index.specs.declared.places.Places.{Places}

module _ (h : Homes) where
  in_first : (k : ℕ) → k < 8 → place_of h k ≡ 8 * h.first + k
  in_first k low = sym (cond_below k 8 (8 * h.first + k) (8 * h.second + (k - 8)) low)

  in_second : (k : ℕ) → 8 ≤ k → place_of h k ≡ 8 * h.second + (k - 8)
  in_second k high = sym (cond_above k 8 (8 * h.first + k) (8 * h.second + (k - 8)) (8 * h.second + (k - 8)) high refl)

  -- the tags of both homes, in their numbers' order
  module _ (tags : List ℕ) (first : 8 * h.first + 8 ≤ length tags) (second : 8 * h.second + 8 ≤ length tags) where
    abbrev pub tags_of : List ℕ
    tags_of = chunk (8 * h.first) 8 tags ++ chunk (8 * h.second) 8 tags

    long : length tags_of ≡ 16
    long = omega (arith, length-append (chunk (8 * h.first) 8 tags) (chunk (8 * h.second) 8 tags), length-chunk (8 * h.first) 8 tags first, length-chunk (8 * h.second) 8 tags second)

    tag_at : (k : ℕ) → k < 16 → get_or tags_of k 0 ≡ slice_index tags (place_of h k)
    tag_at k within = elim (cases_lt k 8) [
      | inl low ↦ get_or_append_left (chunk (8 * h.first) 8 tags) (chunk (8 * h.second) 8 tags) 0 k (subst (λ n. k < n) (sym (length-chunk (8 * h.first) 8 tags first)) low)
          ∙ get_or-chunk (8 * h.first) 8 tags k 0 low ∙ ap (slice_index tags) (sym (in_first k low))
      | inr high ↦ get_or-append_right (chunk (8 * h.first) 8 tags) (chunk (8 * h.second) 8 tags) 8 k 0 (length-chunk (8 * h.first) 8 tags first) high
          ∙ get_or-chunk (8 * h.second) 8 tags (k - 8) 0 (omega (arith, within, high)) ∙ ap (slice_index tags) (sym (in_second k high))
    ]

    untagged : (tag k : ℕ) → k < prefix_len (λ t. not (t == tag)) tags_of → slice_index tags (place_of h k) ≡ tag → ⊥
    untagged tag k early at =
        let within : k < 16 = omega (arith, early, prefix_len-le-length (λ t. not (t == tag)) tags_of, long) in
        true≢false (sym (prefix_len_passes (λ t. not (t == tag)) tags_of k 0 early) ∙ ap (λ t. not (t == tag)) (tag_at k within) ∙ ap not (eq-eqb (slice_index tags (place_of h k)) tag at))

    -- behind a place of which the hits' number has no higher bit there is none
    pub none_behind : (tag hits number k : ℕ) → hits ≡ mask_l (map (λ t. t == tag) tags_of) → hits / 2 ^ number ≤ 1 → number < k → k < 16
        → slice_index tags (place_of h k) ≡ tag → ⊥
    none_behind tag hits number k is last behind within at =
        let set : hits / 2 ^ k % 2 ≡ 1 = ap (λ n. n / 2 ^ k % 2) is ∙ bit_mask_l (map (λ t. t == tag) tags_of) k
        ∙ ap (λ b. cond b 1 0) (get_or-map (λ t. t == tag) tags_of k 0 false (omega (arith, long, within)) ∙ ap (λ t. t == tag) (tag_at k within)
        ∙ eq-eqb (slice_index tags (place_of h k)) tag at) in
        let far : k ≡ number + (k - number) = omega (arith, behind) in
        let less : hits / 2 ^ number / 2 ^ (k - number) ≡ 0 = div-eq_of_lt (omega (arith, last, pow_mono {i = 1} {j = k - number} (omega (arith, behind)))) in
        omega (arith, set, ap (λ n. hits / 2 ^ n) far ∙ sym (shr-shr hits number (k - number)) ∙ less)

-- so many places of both come before the first with their tag
abbrev pub IsBefore : Homes → ℕ → List ℕ → Type 0
IsBefore h before tags = before ≡ prefix_len (λ t. not (t == h.tag)) (chunk (8 * h.first) 8 tags ++ chunk (8 * h.second) 8 tags)

module _ {P : Type 0} where
  -- the homes of a pair in a table that has places
  module _ (p : Places P) (pair : ℕ) (h : Homes) (is : h ≡ homes p.bits pair) (table : IsTable p) (some : false ≡ (vec_len p.tags == 0)) where
    long_as : length p.tags.items ≡ 8 * 2 ^ p.bits
    long_as = table.size.size (omega (arith, eqb-false (vec_len p.tags) 0 (sym some), p.tags.ok))

    pub first_within : 8 * h.first + 8 ≤ length p.tags.items
    first_within = omega (arith, ap (λ x. x.first) is, long_as, mod-lt (spread pair) (pow_pos p.bits))

    pub second_within : 8 * h.second + 8 ≤ length p.tags.items
    second_within = omega (arith, ap (λ x. x.second) is, long_as, mod-lt (spread pair / 2 ^ 24) (pow_pos p.bits))

    pub place_within : (k : ℕ) → k < 16 → place_of h k < length p.tags.items
    place_within k within = elim (cases_lt k 8) [
      | inl low ↦ omega (arith, in_first h k low, first_within, low)
      | inr high ↦ omega (arith, in_second h k high, second_within, within, high)
    ]

    -- where its entry stands, its tag does
    pub tag_is : (n : ℕ) (e : Filed) → stands p n ≡ Some e → e.pair ≡ pair → slice_index p.tags.items n ≡ h.tag
    tag_is n e at same = table.filed.tags n e at ∙ ap tag_of same ∙ sym (ap (λ x. x.tag) is)

    -- and there it is seen under that tag
    pub seen_there : (n : ℕ) (e : Filed) → stands p n ≡ Some e → e.pair ≡ pair
        → (if slice_index p.tags.items n == h.tag then slice_get p.entries.items n else None) ≡ Some e
    seen_there n e at same = ap (λ b. if b then slice_get p.entries.items n else None) (eq-eqb (slice_index p.tags.items n) h.tag (tag_is n e at same))
        ∙ entry_of p.tags.items p.entries.items n at

    pub not_before : (before k : ℕ) (e : Filed) → IsBefore h before p.tags.items → k < before → stands p (place_of h k) ≡ Some e → e.pair ≡ pair → ⊥
    not_before before k e counted early at same = untagged h p.tags.items first_within second_within h.tag k (subst (λ n. k < n) counted early) (tag_is (place_of h k) e at same)

    -- and its place has a number
    pub number_of : (n : ℕ) (e : Filed) → stands p n ≡ Some e → e.pair ≡ pair → (k : ℕ) × (k < 16) × (place_of h k ≡ n)
    number_of n e at same = elim (subst (IsHome p.bits n) same (table.filed.places n e at)) [
      | inl first ↦ (n % 8, omega arith, in_first h (n % 8) (omega arith) ∙ omega (arith, first, ap (λ x. x.first) is))
      | inr second ↦ (8 + n % 8, omega arith, in_second h (8 + n % 8) (omega arith) ∙ omega (arith, second, ap (λ x. x.second) is))
    ]
