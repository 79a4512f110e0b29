-- One address that goes on to a third layout, or back.
use Rattle.std.proofs.Common.{◌≡◌, ℕ, suc, ◌-◌, ◌<◌, ◌≤◌, ◌==◌, Bool, true, false, ◌&&◌, ◌||◌, not, nat_lt, nat_le, max, List, [], ◌∷◌, length, drop, refl, sym, ap, ◌∙◌, arith, if◌then◌else◌}
use Rattle.std.specs.Prelude.{slice_index}
use Rattle.std.specs.List.{list_all}
use Rattle.std.proofs.lemmas.Bool.{le-leb, leb-true, le-ltb, ltb-true}
use Rattle.route_layouts.specs.Addresses.{fits, fitted, has_number, is_link, is_long, is_loose, is_mask, length_as, link_size, settled, sized, swapped, turned}
use Rattle.route_layouts.specs.declared.change.Change.{Change}
use Rattle.route_layouts.proofs.Fitted.{first-fitted, length-fitted, length-sized, length-turned, long_of, second-turned, sized_whole, swapped_twice, turned_is}
use Rattle.route_layouts.proofs.NumbersRead.{both}
use Rattle.route_layouts.proofs.Walked.{none}

abbrev pub IsWhole : List ℕ → Type 0
IsWhole s = length s ≡ max (slice_index s 0) 1

-- ---- the length byte in the other layout

abbrev cuts : Change → List ℕ → Bool
cuts c s = is_long c.most_link s && is_loose c.most_link s

link_length : (c : Change) (k : ℕ) (s : List ℕ) (b : Bool) → is_mask k ≡ false → cuts c s ≡ b → length_as c k s ≡ (if b then link_size s else slice_index s 0)
unfolding length_as
link_length c k s b link cut = rw (link, cut) refl

mask_length : (c : Change) (k : ℕ) (s : List ℕ) → is_mask k ≡ true → length_as c k s ≡ (if nat_le 5 (slice_index s 0) then max (slice_index s 0) c.least_mask else slice_index s 0)
unfolding length_as
mask_length c k s mask = rw mask refl

-- what is cut is a link-layer address, and longer than what it tells
record IsCut (c : Change) (s : List ℕ) : Type 0 where
  link : is_link s ≡ true
  longer : link_size s < length s
  most : link_size s ≤ c.most_link

is_cut : (c : Change) (s : List ℕ) → cuts c s ≡ true → IsCut c s
is_cut c s h =
    let parts : (is_long c.most_link s ≡ true) × (is_loose c.most_link s ≡ true) = both _ _ h in
    let long : (is_link s ≡ true) × (nat_lt c.most_link (length s) ≡ true) = both _ _ parts.0 in
    let loose : (nat_le (link_size s) c.most_link ≡ true) × (list_all (λ byte. byte == 0) (drop (link_size s) s) ≡ true) = both _ _ parts.1 in
    let less : c.most_link < length s = ltb-true c.most_link (length s) long.1 in
    let most : link_size s ≤ c.most_link = leb-true (link_size s) c.most_link loose.0 in
    record { link = long.0; longer = omega arith; most = most }

cut_has_number : (c : Change) (s : List ℕ) → cuts c s ≡ true → has_number s ≡ true
cut_has_number c s h =
    let cut = is_cut c s h in
    let four : nat_le 4 (length s) ≡ true = le-leb 4 (length s) (omega (arith, cut.longer)) in
    rw (cut.link, four) refl

-- ---- turned, then with another length byte, and turned again

cuts_swapped : (c : Change) (a b x y : ℕ) (rest : List ℕ) → cuts c (a ∷ b ∷ y ∷ x ∷ rest) ≡ cuts c (a ∷ b ∷ x ∷ y ∷ rest)
cuts_swapped c a b x y rest =
    let size : ℕ = link_size (a ∷ b ∷ x ∷ y ∷ rest) in
    let more : size ≡ suc (suc (suc (suc (size - 4)))) = omega arith in
    let there : drop size (a ∷ b ∷ y ∷ x ∷ rest) ≡ drop (size - 4) rest = ap (λ (n : ℕ). drop n (a ∷ b ∷ y ∷ x ∷ rest)) more in
    let here : drop size (a ∷ b ∷ x ∷ y ∷ rest) ≡ drop (size - 4) rest = ap (λ (n : ℕ). drop n (a ∷ b ∷ x ∷ y ∷ rest)) more in
    ap (λ (xs : List ℕ). is_long c.most_link (a ∷ b ∷ x ∷ y ∷ rest) && (nat_le size c.most_link && list_all (λ byte. byte == 0) xs)) (there ∙ sym here)

-- the same of an address that is turned
cuts_turned_by : (c : Change) (b : Bool) (s : List ℕ) → has_number s ≡ b → cuts c (turned true s) ≡ cuts c s
cuts_turned_by c false s h = ap (cuts c) (turned_is true false s h)
cuts_turned_by c true [] h = absurd (omega (arith, long_of [] h))
cuts_turned_by c true (a ∷ []) h = absurd (omega (arith, long_of (a ∷ []) h))
cuts_turned_by c true (a ∷ b ∷ []) h = absurd (omega (arith, long_of (a ∷ b ∷ []) h))
cuts_turned_by c true (a ∷ b ∷ x ∷ []) h = absurd (omega (arith, long_of (a ∷ b ∷ x ∷ []) h))
cuts_turned_by c true (a ∷ b ∷ x ∷ y ∷ rest) h =
    ap (cuts c) (turned_is true true (a ∷ b ∷ x ∷ y ∷ rest) h) ∙ cuts_swapped c a b x y rest

cuts_turned : (c : Change) (swaps : Bool) (s : List ℕ) → cuts c (turned swaps s) ≡ cuts c s
cuts_turned c true s = cuts_turned_by c (has_number s) s refl
cuts_turned c false s = refl

sized_swapped : (n a b x y : ℕ) (rest : List ℕ) → sized (suc (suc (suc (suc n)))) (a ∷ b ∷ y ∷ x ∷ rest) ≡ swapped (sized (suc (suc (suc (suc n)))) (a ∷ b ∷ x ∷ y ∷ rest))
sized_swapped n a b x y rest =
    let e : suc (suc (suc (suc n))) - 1 ≡ suc (suc (suc n)) = omega arith in
    rw e refl

number_kept : (n a b x y : ℕ) (rest : List ℕ) → (b == 18) ≡ true → has_number (swapped (sized (suc (suc (suc (suc n)))) (a ∷ b ∷ x ∷ y ∷ rest))) ≡ true
number_kept n a b x y rest h =
    let e : suc (suc (suc (suc n))) - 1 ≡ suc (suc (suc n)) = omega arith in
    let z : List ℕ = swapped (sized (suc (suc (suc (suc n)))) (a ∷ b ∷ x ∷ y ∷ rest)) in
    let link : is_link z ≡ true = rw e h in
    let four : nat_le 4 (length z) ≡ true = le-leb 4 (length z) (rw e (omega arith)) in
    rw (link, four) refl

-- the length byte of an address with four bytes and more is at least 4
least_length : (c : Change) (k : ℕ) (s : List ℕ) (b : Bool) → is_mask k ≡ false → cuts c s ≡ b → IsWhole s → 4 ≤ length s → 4 ≤ length_as c k s
least_length c k s true link cut whole four = omega (arith, link_length c k s true link cut)
least_length c k s false link cut whole four = omega (arith, link_length c k s false link cut, whole)

back_number : (c : Change) (k : ℕ) (s : List ℕ) → is_mask k ≡ false → IsWhole s → has_number s ≡ true → turned true (sized (length_as c k (turned true s)) (turned true s)) ≡ sized (length_as c k s) s
back_number c k [] link whole h = absurd (omega (arith, long_of [] h))
back_number c k (a ∷ []) link whole h = absurd (omega (arith, long_of (a ∷ []) h))
back_number c k (a ∷ b ∷ []) link whole h = absurd (omega (arith, long_of (a ∷ b ∷ []) h))
back_number c k (a ∷ b ∷ x ∷ []) link whole h = absurd (omega (arith, long_of (a ∷ b ∷ x ∷ []) h))
back_number c k (a ∷ b ∷ x ∷ y ∷ rest) link whole h =
    let s : List ℕ = a ∷ b ∷ x ∷ y ∷ rest in
    let t : List ℕ = a ∷ b ∷ y ∷ x ∷ rest in
    let n : ℕ = length_as c k s in
    let turn : turned true s ≡ t = turned_is true true s h in
    let same : length_as c k t ≡ n =
    link_length c k t (cuts c s) link (cuts_swapped c a b x y rest) ∙ sym (link_length c k s (cuts c s) link refl) in
    let four : 4 ≤ n = least_length c k s (cuts c s) link refl whole (omega arith) in
    let form : n ≡ suc (suc (suc (suc (n - 4)))) = omega arith in
    let z : List ℕ = sized (suc (suc (suc (suc (n - 4))))) s in
    let eighteen : (b == 18) ≡ true = (both _ _ h).0 in
    let number : has_number (swapped z) ≡ true = number_kept (n - 4) a b x y rest eighteen in
    let long : length z ≡ max (suc (suc (suc (suc (n - 4))))) 1 = length-sized (suc (suc (suc (suc (n - 4))))) s (omega arith) in
    ap (λ (u : List ℕ). turned true (sized (length_as c k u) u)) turn
    ∙ ap (λ (i : ℕ). turned true (sized i t)) (same ∙ form)
    ∙ ap (turned true) (sized_swapped (n - 4) a b x y rest)
    ∙ turned_is true true (swapped z) number
    ∙ swapped_twice z (omega (arith, long))
    ∙ ap (λ (i : ℕ). sized i s) (sym form)

back_plain : (c : Change) (k : ℕ) (s : List ℕ) (b : Bool) → is_mask k ≡ false → IsWhole s → has_number s ≡ false → cuts c s ≡ b → turned true (sized (length_as c k (turned true s)) (turned true s)) ≡ sized (length_as c k s) s
back_plain c k s true link whole h cut = let number = cut_has_number c s cut in cc
back_plain c k s false link whole h cut =
    let turn : turned true s ≡ s = turned_is true false s h in
    let own : sized (length_as c k s) s ≡ s = ap (λ (i : ℕ). sized i s) (link_length c k s false link cut) ∙ sized_whole s whole in
    ap (λ (u : List ℕ). turned true (sized (length_as c k u) u)) turn ∙ ap (turned true) own ∙ turn ∙ sym own

back_link : (c : Change) (k : ℕ) (s : List ℕ) (b : Bool) → is_mask k ≡ false → IsWhole s → has_number s ≡ b → turned true (sized (length_as c k (turned true s)) (turned true s)) ≡ sized (length_as c k s) s
back_link c k s true link whole h = back_number c k s link whole h
back_link c k s false link whole h = back_plain c k s (cuts c s) link whole h refl

back_by : (c : Change) (k : ℕ) (s : List ℕ) (swaps : Bool) → (swaps ≡ true → is_mask k ≡ false) → IsWhole s → turned swaps (sized (length_as c k (turned swaps s)) (turned swaps s)) ≡ sized (length_as c k s) s
back_by c k s true link whole = back_link c k s (has_number s) (link refl) whole refl
back_by c k s false link whole = refl

no_mask : (swaps mask : Bool) → (swaps && not mask) ≡ true → mask ≡ false
no_mask true false h = refl
no_mask true true h = cc
no_mask false mask h = cc

-- an address that goes on to a layout that has the order of the first one
pub settled_back : (c d : Change) (k : ℕ) (s : List ℕ) → d.swaps ≡ c.swaps → 1 ≤ length s → fitted d k (fitted c k s) ≡ settled c d k s
settled_back c d k s same there =
    let new : List ℕ = sized (length_as c k s) s in
    let whole : IsWhole new = length-sized (length_as c k s) s there in
    ap (λ (b : Bool). turned (b && not (is_mask k)) (sized (length_as d k (fitted c k s)) (fitted c k s))) same
    ∙ back_by d k new (c.swaps && not (is_mask k)) (no_mask c.swaps (is_mask k)) whole

-- ---- once more to the same layout

pub record IsAgain (c d : Change) : Type 0 where
  pub swaps : d.swaps ≡ false
  pub most_link : d.most_link ≡ c.most_link
  pub least_mask : d.least_mask ≡ c.least_mask

module _ (c d : Change) (k : ℕ) (s : List ℕ) (again : IsAgain c d) (whole : IsWhole s) where
  abbrev new : List ℕ
  new = fitted c k s

  abbrev n : ℕ
  n = length_as c k s

  there : 1 ≤ length s
  there = omega (arith, whole)

  first : slice_index new 0 ≡ n
  first = first-fitted c k s

  size : length new ≡ max n 1
  size = length-fitted c k s there

  mask_by : (b : Bool) → is_mask k ≡ true → nat_le 5 (slice_index s 0) ≡ b → length_as d k new ≡ n
  mask_by true mask five =
      let own : n ≡ max (slice_index s 0) c.least_mask = mask_length c k s mask ∙ ap (λ (b : Bool). if b then max (slice_index s 0) c.least_mask else slice_index s 0) five in
      let least : 5 ≤ slice_index s 0 = leb-true 5 (slice_index s 0) five in
      let more : nat_le 5 (slice_index new 0) ≡ true = le-leb 5 (slice_index new 0) (omega (arith, own, first)) in
      mask_length d k new mask ∙ ap (λ (b : Bool). if b then max (slice_index new 0) d.least_mask else slice_index new 0) more
      ∙ omega (arith, own, first, again.least_mask)
  mask_by false mask five =
      let own : n ≡ slice_index s 0 = mask_length c k s mask ∙ ap (λ (b : Bool). if b then max (slice_index s 0) c.least_mask else slice_index s 0) five in
      let less : nat_le 5 (slice_index new 0) ≡ false = ap (nat_le 5) (first ∙ own) ∙ five in
      mask_length d k new mask ∙ ap (λ (b : Bool). if b then max (slice_index new 0) d.least_mask else slice_index new 0) less ∙ first

  -- what was cut is long no more
  cut_once : is_mask k ≡ false → cuts c s ≡ true → is_long d.most_link new ≡ false
  cut_once link cut =
      let is = is_cut c s cut in
      let own : n ≡ link_size s = link_length c k s true link cut in
      let short : nat_lt d.most_link (length new) ≡ false = le-ltb d.most_link (length new) (omega (arith, size, own, is.most, again.most_link)) in
      ap (λ (b : Bool). is_link new && b) short ∙ none (is_link new)

  -- what was not cut is as it was, but for the order of a number
  not_cut : is_mask k ≡ false → cuts c s ≡ false → new ≡ turned (c.swaps && not (is_mask k)) s
  not_cut link cut =
      let own : n ≡ slice_index s 0 = link_length c k s false link cut in
      ap (λ (i : ℕ). turned (c.swaps && not (is_mask k)) (sized i s)) own ∙ ap (turned (c.swaps && not (is_mask k))) (sized_whole s whole)

  link_by : (b : Bool) → is_mask k ≡ false → cuts c s ≡ b → cuts d new ≡ false
  link_by true link cut = ap (λ (b : Bool). b && is_loose d.most_link new) (cut_once link cut)
  link_by false link cut =
      ap (cuts d) (not_cut link cut) ∙ cuts_turned d (c.swaps && not (is_mask k)) s
      ∙ ap (λ (most : ℕ). is_long most s && is_loose most s) again.most_link ∙ cut

  same_length : (b : Bool) → is_mask k ≡ b → length_as d k new ≡ n
  same_length true mask = mask_by (nat_le 5 (slice_index s 0)) mask refl
  same_length false link = link_length d k new false link (link_by (cuts c s) link refl) ∙ first

  pub once_more : fitted d k new ≡ new
  once_more =
      let length_is : length_as d k new ≡ slice_index new 0 = same_length (is_mask k) refl ∙ sym first in
      let whole_new : IsWhole new = size ∙ ap (λ (i : ℕ). max i 1) (sym first) in
      ap (λ (b : Bool). turned (b && not (is_mask k)) (sized (length_as d k new) new)) again.swaps
      ∙ ap (λ (i : ℕ). sized i new) length_is ∙ sized_whole new whole_new

  short_of : (long loose : Bool) → (not long || loose) ≡ true → (long && loose) ≡ false → long ≡ false
  short_of true true a b = cc
  short_of true false a b = cc
  short_of false loose a b = refl

  short_by : (b : Bool) → is_mask k ≡ false → (not (is_long c.most_link s) || is_loose c.most_link s) ≡ true → cuts c s ≡ b → is_long d.most_link new ≡ false
  short_by true link fit cut = cut_once link cut
  short_by false link fit cut =
      let swaps : Bool = c.swaps && not (is_mask k) in
      let short : is_long c.most_link s ≡ false = short_of (is_long c.most_link s) (is_loose c.most_link s) fit cut in
      ap (is_long d.most_link) (not_cut link cut)
      ∙ ap (λ (x : ℕ). x == 18 && nat_lt d.most_link (length (turned swaps s))) (second-turned swaps s)
      ∙ ap (λ (x : ℕ). is_link s && nat_lt d.most_link x) (length-turned swaps s)
      ∙ ap (λ (x : ℕ). is_long x s) again.most_link ∙ short

  fits_by : (b : Bool) → is_mask k ≡ b → fits c k s ≡ true → fits d k new ≡ true
  fits_by true mask fit = ap (λ (b : Bool). b || not (is_long d.most_link new) || is_loose d.most_link new) mask
  fits_by false link fit =
      let one : (not (is_long c.most_link s) || is_loose c.most_link s) ≡ true = sym (ap (λ (b : Bool). b || not (is_long c.most_link s) || is_loose c.most_link s) link) ∙ fit in
      ap (λ (b : Bool). b || not (is_long d.most_link new) || is_loose d.most_link new) link
      ∙ ap (λ (b : Bool). not b || is_loose d.most_link new) (short_by (cuts c s) link one refl)

  pub fits_once_more : fits c k s ≡ true → fits d k new ≡ true
  fits_once_more = fits_by (is_mask k) refl
