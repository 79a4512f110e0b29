-- Ranges of keys: what each knows, and which of them a network has.
use Rattle.std.proofs.Common.{◌≡◌, ℕ, ◌+◌, ◌-◌, ◌*◌, ◌/◌, ◌%◌, ◌^◌, ◌<◌, ◌≤◌, Option, None, List, length, slice_get, slice_index, slice_set, Some, inl, inr, sym, ap, subst, ◌∙◌, arith}
use Rattle.std.proofs.lemmas.Bool.{cases_eq, cases_lt, eqb-true}
use Rattle.std.proofs.lemmas.List.{get_or-set_same, get_or-set_other}
use Rattle.std.proofs.lemmas.List.Elements.{All-get_or}
use Rattle.std.specs.List.{All}
use Rattle.std.specs.Prelude.{IfSome}
use Rattle.radix_nodes.specs.declared.id.Id.{Id}
use Rattle.std.proofs.lemmas.Option.{none-some, slice_get_cases, slice_get-get_or, slice_get_past}
use Rattle.std.proofs.Math.ListN.{length-set}
use Rattle.std.proofs.Math.Nat.{div-le_self, div-mul-le_self, div-add-mod, mod-lt, mul-div_cancel}
use Rattle.std.proofs.lemmas.Nat.{pow_pos, pow-add, shr-shr}
use Rattle.mask_table.proofs.Agreeing.{masked_agrees, agrees_at_smaller_ranks}
use Rattle.mask_table.specs.Agreeing.{front, masked}
use Rattle.mask_table.specs.RankSets.{HasRank}
use Rattle.room_index.specs.Homes.{pair}
use Rattle.room_index.specs.Places.{IsIn}
use Rattle.room_index.specs.Ranges.{entry_of, range_of, AreTold, Has, HasSameLast, IsByRange, IsTold, TellsMore}
use Rattle.room_index.specs.Filed.{Filed}
use Rattle.room_index.specs.declared.places.Places.{Places}
use Rattle.room_index.specs.declared.ranges.Ranges.{Ranges}

-- ---- one slot is written
module _ {T : Type 0} (items : List T) (slot : ℕ) (now : T) where
  pub set_here : slot < length items → slice_get (slice_set items slot now) slot ≡ Some now
  set_here within = slice_get-get_or (slice_set items slot now) slot now (subst (λ n. slot < n) (sym (length-set items slot now)) within)
      ∙ ap Some (get_or-set_same items slot now now within)

  pub set_there : (n : ℕ) → (n ≡ slot → ⊥) → slice_get (slice_set items slot now) n ≡ slice_get items n
  set_there n other = elim (cases_lt n (length items)) [
    | inl within ↦ slice_get-get_or (slice_set items slot now) n now (subst (λ m. n < m) (sym (length-set items slot now)) within)
        ∙ ap Some (get_or-set_other items slot n now now other) ∙ sym (slice_get-get_or items n now within)
    | inr past ↦ slice_get_past (slice_set items slot now) n (subst (λ m. m ≤ n) (sym (length-set items slot now)) past) ∙ sym (slice_get_past items n past)
  ]

-- a slot loses its entry of a pair
module _ (items : List (Option Filed)) (slot of : ℕ) (was now : Option Filed) (within : slot < length items) (at : slice_get items slot ≡ Some was)
    (fewer : (e : Filed) → now ≡ Some e → (was ≡ Some e) × (e.pair ≡ of → ⊥)) where
  pub still_there : (n : ℕ) (e : Filed) → entry_of (slice_get (slice_set items slot now) n) ≡ Some e
      → (entry_of (slice_get items n) ≡ Some e) × (n ≡ slot → e.pair ≡ of → ⊥)
  still_there n e has = elim (cases_eq n slot) [
    | inl same ↦
        let kept = fewer e (sym (ap entry_of (ap (slice_get (slice_set items slot now)) same ∙ set_here items slot now within)) ∙ has) in
        (ap entry_of (ap (slice_get items) same ∙ at) ∙ kept.0, λ here. kept.1)
    | inr other ↦ (sym (ap entry_of (set_there items slot now n other)) ∙ has, λ same. absurd (other same))
  ]

-- the pair and the room of an entry are all of it
pub read : (e : Filed) {pair : ℕ} {room : Id} → pair ≡ e.pair → room ≡ e.room → e ≡ record { pair = pair; room = room }
read e {pair} of at = ap (λ k. record { pair = k; room = e.room }) (sym of) ∙ ap (λ r. record { pair = pair; room = r }) (sym at)

-- a list of nothing has none
pub none_in : (items : List (Option Filed)) → All (λ last. last ≡ None) items → (n : ℕ) (e : Filed) → entry_of (slice_get items n) ≡ Some e → ⊥
none_in items all n e at = elim (slice_get_cases items n).1 [
  | inl there ↦ none-some e (sym (ap entry_of there.2 ∙ sym there.3 ∙ All-get_or (λ last. last ≡ None) items n there.0 there.1 all) ∙ at)
  | inr past ↦ none-some e (sym (ap entry_of (slice_get_past items n past.0)) ∙ at)
]

-- slots of which none has an entry are of any ranges
pub none_by_range : {P : Type 0} (r : Ranges P) → r.bits ≤ 24 → r.bits + r.finer ≤ 32 → All (λ last. last ≡ None) r.last.items → IsByRange r
none_by_range r few finer none = record {
  few = few;
  finer = finer;
  own = λ n e at. absurd (none_in r.last.items none n e at);
}

module _ {P : Type 0} where
  -- the same slots are of the same ranges
  pub same_by_range : (r s : Ranges P) → IsByRange r → HasSameLast r s → IsByRange s
  same_by_range r s is same = record {
    few = subst (λ b. b ≤ 24) (sym same.bits) is.few;
    finer = omega (arith, same.bits, same.finer, is.finer);
    own = λ n e at. ap (λ b. e.pair / 2 ^ (38 - (b + s.finer)) % 2 ^ b / 2) same.bits ∙ ap (λ f. e.pair / 2 ^ (38 - (r.bits + f)) % 2 ^ r.bits / 2) same.finer
        ∙ is.own n e (ap (λ xs. entry_of (slice_get xs n)) (sym same.last) ∙ at);
  }

  -- the room that a slot has is of the ranges
  pub near_has : (r : Ranges P) (slot : ℕ) (last : Option Filed) (o : Option Id) → slice_get r.last.items slot ≡ Some last
      → IfSome o (λ room. (e : Filed) × (last ≡ Some e) × (e.room ≡ room)) → IfSome o (λ room. (e : Filed) × Has r e × (e.room ≡ room))
  near_has r slot last None at near = tt
  near_has r slot last (Some room) at near = (near.0, (slot, ap entry_of at ∙ near.1), near.2)

-- ---- the ranges of a network
-- the range of a pair has the first bits of its key
pub range_is : (bits key rank : ℕ) → bits ≤ 24 → rank < 64 → range_of bits (pair key rank) ≡ front bits key
range_is bits key rank few low =
    let wide : 38 - bits ≡ 6 + (32 - bits) = omega arith in
    let own : pair key rank / 2 ^ 6 ≡ key = omega arith in
    ap (λ e. pair key rank / 2 ^ e) wide ∙ sym (shr-shr (pair key rank) 6 (32 - bits)) ∙ ap (λ n. n / 2 ^ (32 - bits)) own

-- the number of a range is far below the greatest number
pub range_low : (bits of : ℕ) → bits ≤ 24 → range_of bits of ≤ of / 2 ^ 14
range_low bits of few =
    let wide : 38 - bits ≡ 14 + (24 - bits) = omega arith in
    omega (arith, ap (λ e. of / 2 ^ e) wide ∙ sym (shr-shr of 14 (24 - bits)), div-le_self (of / 2 ^ 14) (2 ^ (24 - bits)))

module _ (bits rank address : ℕ) (few : bits ≤ 24) (fits : rank ≤ 33) where
  -- a mask that is as long leaves an address in its range
  whole_range : bits ≤ rank → front bits (masked rank address) ≡ front bits address
  whole_range long = eqb-true (front bits (masked rank address)) (front bits address)
      (agrees_at_smaller_ranks bits rank (masked rank address) address long (masked_agrees rank address))

  -- a shorter one leaves it among those that the network has
  abbrev spread : ℕ
  spread = bits - rank

  short_range : rank < bits → front bits (masked rank address) ≡ front bits address / 2 ^ spread * 2 ^ spread
  short_range short =
      let part : ℕ = front bits address / 2 ^ spread in
      let free : 32 - rank ≡ 32 - bits + spread = omega arith in
      let first : front rank address ≡ part = ap (λ n. address / 2 ^ n) free ∙ sym (shr-shr address (32 - bits) spread) in
      let back : 32 - rank ≡ spread + (32 - bits) = omega arith in
      let wide : 2 ^ (32 - rank) ≡ 2 ^ spread * 2 ^ (32 - bits) = ap (λ n. 2 ^ n) back ∙ pow-add 2 spread (32 - bits) in
      let grouped : part * (2 ^ spread * 2 ^ (32 - bits)) ≡ part * 2 ^ spread * 2 ^ (32 - bits) = grind arith in
      ap (λ n. n / 2 ^ (32 - bits)) (ap (λ n. n * 2 ^ (32 - rank)) first ∙ ap (λ n. part * n) wide ∙ grouped) ∙ mul-div_cancel (part * 2 ^ spread) (pow_pos (32 - bits))

  pub in_reach : (front bits (masked rank address) ≤ front bits address) × (front bits address < front bits (masked rank address) + 2 ^ spread)
  in_reach = elim (cases_lt rank bits) [
    | inl short ↦
        let turned : 2 ^ spread * (front bits address / 2 ^ spread) ≡ front bits address / 2 ^ spread * 2 ^ spread = grind arith in (
          omega (arith, short_range short, div-mul-le_self (front bits address) (2 ^ spread)),
          omega (arith, short_range short, turned, div-add-mod (front bits address) (2 ^ spread), mod-lt (front bits address) (pow_pos spread)),
        )
    | inr long ↦
        let one : 0 < 2 ^ spread = pow_pos spread in
        (omega (arith, whole_range long), omega (arith, whole_range long, one))
  ]

module _ {P : Type 0} where
  -- ---- what is told
  -- of each range that the network of a pair has
  pub told_in : (r : Ranges P) (of first to : ℕ) (few : r.bits ≤ 24) → first ≡ range_of r.bits of → to ≡ first + 2 ^ (r.bits - of % 64)
      → ((n : ℕ) → first ≤ n → n < to → n < length r.ranks.items → HasRank (slice_index r.ranks.items n) (of % 64)) → IsTold r of
  told_in r of first to few from until told fits address within masks =
      let key : of ≡ pair (of / 64) (of % 64) = omega arith in
      let begin : first ≡ front r.bits (masked (of % 64) address) = from ∙ ap (range_of r.bits) key ∙ range_is r.bits (of / 64) (of % 64) few (omega arith)
      ∙ ap (front r.bits) (sym masks) in
      let reach = in_reach r.bits (of % 64) address few fits in
      let here : range_of r.bits (pair address 0) ≡ front r.bits address = range_is r.bits address 0 few (omega arith) in
      elim (cases_lt (range_of r.bits (pair address 0)) (length r.ranks.items)) [
        | inl low ↦ inr (inr (told (range_of r.bits (pair address 0)) (omega (arith, begin, here, reach.0)) (omega (arith, begin, here, reach.1, until)) low))
        | inr past ↦ inl past
      ]

  -- of more, what was told is told
  pub told_more : (old new : Ranges P) (of : ℕ) → TellsMore old new → IsTold old of → IsTold new of
  told_more old new of more told fits address within masks =
      let same : range_of new.bits (pair address 0) ≡ range_of old.bits (pair address 0) = ap (λ b. range_of b (pair address 0)) more.bits in
      elim (told fits address within masks) [
        | inl past ↦ inl (omega (arith, past, same, more.many))
        | inr here ↦ elim here [
          | inl short ↦ inr (inl (more.short (of % 64) short))
          | inr own ↦ inr (inr (subst (λ n. HasRank (slice_index new.ranks.items n) (of % 64)) (sym same) (more.ranks (range_of old.bits (pair address 0)) (of % 64) own)))
        ]
      ]

  pub more_same : (old new : Ranges P) → new.bits ≡ old.bits → new.ranks.items ≡ old.ranks.items → new.short ≡ old.short → TellsMore old new
  more_same old new bits ranks short = record {
    bits = bits;
    many = ap length ranks;
    short = λ rank has. subst (λ s. HasRank s rank) (sym short) has;
    ranks = λ n rank has. subst (λ rs. HasRank (slice_index rs n) rank) (sym ranks) has;
  }

  pub more_then : (one two three : Ranges P) → TellsMore one two → TellsMore two three → TellsMore one three
  more_then one two three first second = record {
    bits = second.bits ∙ first.bits;
    many = second.many ∙ first.many;
    short = λ rank has. second.short rank (first.short rank has);
    ranks = λ n rank has. second.ranks n rank (first.ranks n rank has);
  }

  -- of the same entries, or of fewer
  pub told_fewer : (r : Ranges P) (p q : Places P) → AreTold r p → ((e : Filed) → IsIn q e → IsIn p e) → AreTold r q
  told_fewer r p q told fewer e at = told e (fewer e at)
