-- The members of a list of masks, and of what comes of it.
use Rattle.radix_tree.proofs.{RoomReads.Has-leaf, TreeMembers.tree_said}
use Rattle.radix_tree.proofs.Words.{◌≡◌, ℕ, ◌+◌, ◌<◌, ◌≤◌, ◌⊎◌, List, [], ◌∷◌, ◌++◌, Option, refl, sym, subst, inl, inr, arith, cases_eq, Id, Placed, IsAmong}
use Rattle.radix_tree.proofs.Words.{IsIn, Leaves, Masks, Part, leaves_in, bits_in, masks_in, MasksStand, Falls, IsMarked, IsMaskList, IsMasks, Has, IsRanked}
use Rattle.radix_tree.proofs.Words.{AreRanked, IsNoRank, not_below, below, sorted_in, taken_out, Lodged, number_of}

pub short_or_long : (rank low : ℕ) → (rank < low) ⊎ (low ≤ rank)
short_or_long rank low = grind arith

module _ {V : Type 0} where
  -- ---- two lists
  pub among_appended : (ms ts : List (Placed V)) (y : Placed V) → IsAmong y (ms ++ ts) → IsAmong y ms ⊎ IsAmong y ts
  among_appended [] ts y among = inr among
  among_appended (x ∷ xs) ts y among = elim among [ inl e ↦ inl (inl e) | inr behind ↦ grind (arith, among_appended xs ts y behind) ]

  pub in_front : (ms ts : List (Placed V)) (y : Placed V) → IsAmong y ms → IsAmong y (ms ++ ts)
  in_front [] ts y among = absurd among
  in_front (x ∷ xs) ts y among = elim among [ inl e ↦ inl e | inr behind ↦ inr (in_front xs ts y behind) ]

  pub in_back : (ms ts : List (Placed V)) (y : Placed V) → IsAmong y ts → IsAmong y (ms ++ ts)
  in_back [] ts y among = among
  in_back (x ∷ xs) ts y among = inr (in_back xs ts y among)

  -- ---- falling ranks
  pub falls_wider : (low top less more : ℕ) (ms : List (Placed V)) → Falls low top ms → less ≤ low → top ≤ more → Falls less more ms
  falls_wider low top less more [] falls least most = tt
  falls_wider low top less more (x ∷ xs) falls least most =
      (omega arith, omega arith, falls_wider low x.entry.rank less x.entry.rank xs falls.2 least (omega arith))

  pub falls_among : (low top : ℕ) (ms : List (Placed V)) → Falls low top ms → (y : Placed V) → IsAmong y ms → (low ≤ y.entry.rank) × (y.entry.rank < top)
  falls_among low top [] falls y among = absurd among
  falls_among low top (x ∷ xs) falls y among = search (arith, falls_among low x.entry.rank xs falls.2 y)

  pub falls_appended : (low middle top : ℕ) (ms ts : List (Placed V)) → Falls middle top ms → Falls low middle ts → low ≤ middle → middle ≤ top
      → Falls low top (ms ++ ts)
  falls_appended low middle top [] ts longer shorter least most = grind (arith, falls_wider)
  falls_appended low middle top (x ∷ xs) ts longer shorter least most =
      (omega arith, longer.1, falls_appended low middle x.entry.rank xs ts longer.2 shorter least longer.0)

  -- ---- the members before the first one below a rank, and the others
  pub not_below_short : (low : ℕ) (x : Placed V) (xs : List (Placed V)) → x.entry.rank < low → not_below low (x ∷ xs) ≡ []
  not_below_short low x xs short = grind arith

  pub not_below_long : (low : ℕ) (x : Placed V) (xs : List (Placed V)) → low ≤ x.entry.rank → not_below low (x ∷ xs) ≡ x ∷ not_below low xs
  not_below_long low x xs long = grind arith

  pub below_short : (low : ℕ) (x : Placed V) (xs : List (Placed V)) → x.entry.rank < low → below low (x ∷ xs) ≡ x ∷ xs
  below_short low x xs short = grind arith

  pub below_long : (low : ℕ) (x : Placed V) (xs : List (Placed V)) → low ≤ x.entry.rank → below low (x ∷ xs) ≡ below low xs
  below_long low x xs long = grind arith

  -- together they are all
  pub parted : (low : ℕ) (ms : List (Placed V)) → ms ≡ not_below low ms ++ below low ms
  parted low [] = refl
  parted low (x ∷ xs) = grind (arith, parted low xs)

  pub falls_not_below : (least top low : ℕ) (ms : List (Placed V)) → Falls least top ms → Falls low top (not_below low ms)
  falls_not_below least top low [] falls = tt
  falls_not_below least top low (x ∷ xs) falls = grind (arith, falls_not_below least x.entry.rank low xs falls.2)

  pub falls_below : (least top low : ℕ) (ms : List (Placed V)) → Falls least top ms → Falls least low (below low ms)
  falls_below least top low [] falls = tt
  falls_below least top low (x ∷ xs) falls = grind (arith, falls_below least x.entry.rank low xs falls.2)

  pub falls_behind : (least top low : ℕ) (ms : List (Placed V)) → Falls least top ms → Falls least top (below low ms)
  falls_behind least top low [] falls = tt
  falls_behind least top low (x ∷ xs) falls = grind (arith, falls_wider, falls_behind least x.entry.rank low xs falls.2)

  pub not_below_among : (low : ℕ) (ms : List (Placed V)) (y : Placed V) → IsAmong y (not_below low ms) → IsAmong y ms × (low ≤ y.entry.rank)
  not_below_among low [] y among = absurd among
  not_below_among low (x ∷ xs) y among = search (arith, short_or_long, not_below_among low xs y)

  pub below_among : (least top low : ℕ) (ms : List (Placed V)) → Falls least top ms → (y : Placed V) → IsAmong y (below low ms)
      → IsAmong y ms × (y.entry.rank < low)
  below_among least top low ms falls y among = (
    subst (IsAmong y) (sym (parted low ms)) (in_back (not_below low ms) (below low ms) y among),
    (falls_among least low (below low ms) (falls_below least top low ms falls) y among).1,
  )

  pub among_not_below : (least top low : ℕ) (ms : List (Placed V)) → Falls least top ms → (y : Placed V) → IsAmong y ms → low ≤ y.entry.rank
      → IsAmong y (not_below low ms)
  among_not_below least top low ms falls y among long =
      elim (among_appended (not_below low ms) (below low ms) y (subst (IsAmong y) (parted low ms) among)) [
        | inl front ↦ front
        | inr back ↦ grind (arith, below_among)
      ]

  pub among_below : (low : ℕ) (ms : List (Placed V)) (y : Placed V) → IsAmong y ms → y.entry.rank < low → IsAmong y (below low ms)
  among_below low ms y among short = elim (among_appended (not_below low ms) (below low ms) y (subst (IsAmong y) (parted low ms) among)) [
    | inl front ↦ grind (arith, not_below_among)
    | inr back ↦ back
  ]

  -- ---- a mask more
  pub sorted_here : (x : Placed V) (ms : List (Placed V)) → IsAmong x (sorted_in x ms)
  sorted_here x ms = grind (arith, in_back)

  pub among_sorted : (least top : ℕ) (x : Placed V) (ms : List (Placed V)) → Falls least top ms → (y : Placed V) → IsAmong y ms → IsAmong y (sorted_in x ms)
  among_sorted least top x ms falls y among = grind (arith, in_back, among_below, in_front, among_not_below)

  pub sorted_among : (least top : ℕ) (x : Placed V) (ms : List (Placed V)) → Falls least top ms → (y : Placed V) → IsAmong y (sorted_in x ms)
      → (x ≡ y) ⊎ IsAmong y ms
  sorted_among least top x ms falls y among = elim (among_appended (not_below x.entry.rank ms) (x ∷ below x.entry.rank ms) y among) [
    | inl front ↦ inr (not_below_among x.entry.rank ms y front).0
    | inr back ↦ grind (arith, below_among)
  ]

  raised : (low top : ℕ) (ms : List (Placed V)) → Falls low top ms → IsNoRank low ms → Falls (low + 1) top ms
  raised low top [] falls no_rank = tt
  raised low top (x ∷ xs) falls no_rank = (
    elim (cases_eq x.entry.rank low) [ inl e ↦ absurd (no_rank x (inl refl) e) | inr ne ↦ omega arith ],
    falls.1,
    raised low x.entry.rank xs falls.2 (λ y among. no_rank y (inr among)),
  )

  pub falls_sorted : (low top : ℕ) (x : Placed V) (ms : List (Placed V)) → Falls low top ms → low ≤ x.entry.rank → x.entry.rank < top
      → IsNoRank x.entry.rank ms → Falls low top (sorted_in x ms)
  falls_sorted low top x ms falls least most no_rank =
      let longer = raised x.entry.rank top (not_below x.entry.rank ms) (falls_not_below low top x.entry.rank ms falls)
      (grind (arith, not_below_among)) in
      grind (arith, falls_appended, falls_below)

  -- ---- a mask less
  pub taken_among : (least top rank : ℕ) (ms : List (Placed V)) → Falls least top ms → (y : Placed V) → IsAmong y (taken_out rank ms)
      → IsAmong y ms × (y.entry.rank ≡ rank → ⊥)
  taken_among least top rank ms falls y among = elim (among_appended (not_below (rank + 1) ms) (below rank ms) y among) [
    | inl front ↦ let is = not_below_among (rank + 1) ms y front in (is.0, λ same. omega arith)
    | inr back ↦ let is = below_among least top rank ms falls y back in (is.0, λ same. omega arith)
  ]

  pub among_taken : (least top rank : ℕ) (ms : List (Placed V)) → Falls least top ms → (y : Placed V) → IsAmong y ms → (y.entry.rank ≡ rank → ⊥)
      → IsAmong y (taken_out rank ms)
  among_taken least top rank ms falls y among differs = grind (arith, short_or_long, in_back, among_below, cases_eq, in_front, among_not_below)

  pub falls_taken : (low top rank : ℕ) (ms : List (Placed V)) → Falls low top ms → Falls low top (taken_out rank ms)
  falls_taken low top rank [] falls = tt
  falls_taken low top rank (x ∷ xs) falls = elim (short_or_long x.entry.rank (rank + 1)) [
    | inl short ↦ search (not_below_short, falls_behind)
    | inr long ↦ grind (arith, falls_taken low x.entry.rank rank xs falls.2)
  ]

  -- ---- the rooms
  pub marked_among : (K : Masks) (ms : List (Placed V)) → MasksStand K ms → (y : Placed V) → IsAmong y ms → IsMarked K y
  marked_among K [] stands y among = absurd among
  marked_among K (x ∷ xs) stands y among = search (arith, marked_among K xs stands.1 y)

  pub ranked_among : (L : Leaves V) (ms : List (Placed V)) → AreRanked L ms → (y : Placed V) → IsAmong y ms → IsRanked L y
  ranked_among L [] ranked y among = absurd among
  ranked_among L (x ∷ xs) ranked y among = elim among [ inl e ↦ subst (IsRanked L) e ranked.0 | inr behind ↦ ranked_among L xs ranked.1 y behind ]

  pub among_ranked : (L : Leaves V) (ms : List (Placed V)) → ((y : Placed V) → IsAmong y ms → IsRanked L y) → AreRanked L ms
  among_ranked L [] all = tt
  among_ranked L (x ∷ xs) all = (all x (inl refl), among_ranked L xs (λ y among. all y (inr among)))

  -- the room of a mask's route is there
  pub Has-ranked : (m : Lodged V) {x : Placed V} {room : Id} → IsRanked (leaves_in m) x → x.room ≡ room → Has m room
  Has-ranked m {x = x} r room_is = subst (Has m) room_is (Has-leaf m x.room r.said r.block)

  -- routes in one room are of one rank
  pub one_rank : {L : Leaves V} {x y : Placed V} → IsRanked L x → IsRanked L y → number_of x.room ≡ number_of y.room → x.entry.rank ≡ y.entry.rank
  one_rank {L = L} one other same = search

  pub ranked_in : (m : Lodged V) (p : Part m) (x : Placed V) → IsIn x p.tree → IsRanked (leaves_in m) x
  ranked_in m p x is = let said = tree_said (leaves_in m) (bits_in m) p.above p.tree p.stands x is in search

  -- the list of a bit node of a tree
  pub masks_listed : {m : Lodged V} (p : Part m) {first : Option Id} {low b : ℕ} {M : Placed V → Type 0} (l : IsMaskList (masks_in m) first low b M) → b ≤ 31
      → ((x : Placed V) → M x → IsIn x p.tree) → IsMasks m first l.masks
  masks_listed {m = m} p {low = low} {b = b} l within inside_tree = record {
    begins = l.begins;
    stands = l.stands;
    falls = grind (arith, falls_wider);
    ranked = among_ranked (leaves_in m) l.masks (λ x among. ranked_in m p x (inside_tree x (l.within x among)));
  }
