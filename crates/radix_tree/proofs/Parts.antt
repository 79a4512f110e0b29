-- The parts of a tree and the ways to them, and what a search beneath a bit node tells of all that is beneath it.
use Rattle.radix_tree.proofs.{TreeMembers.tree_route, TreeMembers.bit_beneath, Facts.zero_not_one, Facts.covered_bit, Facts.clear_bit, RoomReads.Has-bit}
use Rattle.radix_tree.proofs.Words.{◌≡◌, ℕ, ◌+◌, ◌<◌, ◌≤◌, ◌⊎◌, List, [], ◌∷◌, None, Some, sym, subst, inl, inr, arith, IsRoute, Placed, Tree, fork, bit_at}
use Rattle.radix_tree.proofs.Words.{Covers, IsAmong, IsIn, IsTree, Falls, Best, refl, ap, Has, Id, LeafOf, BitOf, leaf, BitPart, Part, Run, leaves_in, bits_in}
use Rattle.radix_tree.proofs.Words.{heads_in, masks_in, first_room, name_of, Stands, Lists, In, ForkAt, LeafAt, LedTo, Beneath, Way, Lodged, cases_lt, ◌==◌}
use Rattle.radix_tree.proofs.Words.{true, false, eqb-true, one_if, forks_at, number_of}

module _ {V : Type 0} where
  -- the routes beneath a bit node, parted by whether they have the address's bit there
  pub record IsSide (address b : ℕ) (side whole : Tree V) : Type 0 where
    pub within : b ≤ 31
    pub routes : (y : Placed V) → IsIn y whole → IsRoute y.entry
    pub inside : (y : Placed V) → IsIn y side → IsIn y whole
    pub here : (y : Placed V) → IsIn y side → bit_at b y.entry.key ≡ bit_at b address
    pub parted : (y : Placed V) → IsIn y whole → IsIn y side ⊎ (bit_at b y.entry.key ≡ bit_at b address → ⊥)

  pub zero_side : (address low b : ℕ) (room : _) (zero one : Tree V) → IsTree low (fork room b zero one) → bit_at b address ≡ 0
      → IsSide address b zero (fork room b zero one)
  zero_side address low b room zero one is bit = grind (arith, tree_route, bit_beneath, zero_not_one, bit)

  pub one_side : (address low b : ℕ) (room : _) (zero one : Tree V) → IsTree low (fork room b zero one) → bit_at b address ≡ 1
      → IsSide address b one (fork room b zero one)
  one_side address low b room zero one is bit = grind (arith, tree_route, bit_beneath, zero_not_one, bit)

  -- a route of the other side that covers the address has a rank not past the bit, and so a 0 there
  other_side : (address b : ℕ) (y : Placed V) → b ≤ 31 → IsRoute y.entry → Covers address y.entry → (bit_at b y.entry.key ≡ bit_at b address → ⊥)
      → (y.entry.rank ≤ b) × (bit_at b y.entry.key ≡ 0)
  other_side address b y within route covers differs = grind (arith, covered_bit, clear_bit)

  module _ {address b : ℕ} {side whole : Tree V} (is : IsSide address b side whole) where
    -- so the best of the address's side is the best of both
    pub side_hit : (low : ℕ) (x : Placed V) → Best address (b + 1) 34 (λ y. IsIn y side) (Some x) → Best address low 34 (λ y. IsIn y whole) (Some x)
    side_hit low x best = grind (arith, other_side, clear_bit)

    -- where that side has none, all that cover the address have a rank not past the bit
    all_short : Best address (b + 1) 34 (λ y. IsIn y side) None → (y : Placed V) → IsIn y whole → Covers address y.entry → y.entry.rank < 34
        → y.entry.rank < b + 1
    all_short none y at covers below = grind (arith, other_side)

    -- and the masks that the node lists decide
    pub listed_hit : (low : ℕ) (x : Placed V) → Best address (b + 1) 34 (λ y. IsIn y side) None → Best address low (b + 1) (λ y. IsIn y whole) (Some x)
        → Best address low 34 (λ y. IsIn y whole) (Some x)
    listed_hit low x none best = search (all_short, best.2)

    pub listed_miss : (low : ℕ) → Best address (b + 1) 34 (λ y. IsIn y side) None → Best address low (b + 1) (λ y. IsIn y whole) None
        → Best address low 34 (λ y. IsIn y whole) None
    listed_miss low none best = search (all_short)

  -- ---- the masks of one bit node
  falls_below : (low top : ℕ) (ms : List (Placed V)) → Falls low top ms → (y : Placed V) → IsAmong y ms → y.entry.rank < top
  falls_below low top [] falls y among = absurd among
  falls_below low top (m ∷ ms) falls y among = search (arith, falls_below low m.entry.rank ms falls.2 y)

  -- all routes of a rank from low to below top are listed
  abbrev pub AreListed : ℕ → ℕ → List (Placed V) → Tree V → Type 0
  AreListed low top ms t = (y : Placed V) → IsIn y t → low ≤ y.entry.rank → y.entry.rank < top → IsAmong y ms

  -- so none of a rank below top has one past the first mask's
  none_longer : (low top : ℕ) (m : Placed V) (ms : List (Placed V)) (t : Tree V) → Falls low top (m ∷ ms) → AreListed low top (m ∷ ms) t
      → (y : Placed V) → IsIn y t → y.entry.rank < top → y.entry.rank ≤ m.entry.rank
  none_longer low top m ms t falls listed y at below = grind (arith, falls_below)

  -- the first mask's route is the best if it covers the address, once longer masks were tried in vain
  pub mask_hit : (address low top past : ℕ) (m : Placed V) (ms : List (Placed V)) (t : Tree V) → Falls low top (m ∷ ms) → AreListed low top (m ∷ ms) t
      → Best address top past (λ y. IsIn y t) None → IsIn m t → Covers address m.entry → Best address low past (λ y. IsIn y t) (Some m)
  mask_hit address low top past m ms t falls listed tried in_tree covers_it = search (arith, none_longer)

  -- a route that covers the address is behind the first mask's where that doesn't
  behind_first : (address low : ℕ) (m : Placed V) (ms : List (Placed V)) → Falls low m.entry.rank ms → (Covers address m.entry → ⊥) → (y : Placed V)
      → Covers address y.entry → IsAmong y (m ∷ ms) → y.entry.rank < m.entry.rank
  behind_first address low m ms falls not y covers among = search (arith, falls_below)

  -- then that mask was tried in vain too
  pub mask_miss : (address low top past : ℕ) (m : Placed V) (ms : List (Placed V)) (t : Tree V) → Falls low top (m ∷ ms) → AreListed low top (m ∷ ms) t
      → Best address top past (λ y. IsIn y t) None → (Covers address m.entry → ⊥) → Best address m.entry.rank past (λ y. IsIn y t) None
  mask_miss address low top past m ms t falls listed tried not y at covers below = search (arith, behind_first)

  -- what is listed behind the first mask
  pub listed_behind : (low top : ℕ) (m : Placed V) (ms : List (Placed V)) (t : Tree V) → Falls low top (m ∷ ms) → AreListed low top (m ∷ ms) t
      → AreListed low m.entry.rank ms t
  listed_behind low top m ms t falls listed y at least below = grind arith

  -- at the end of the list all masks were tried
  pub list_ends : (address low top past : ℕ) (t : Tree V) → AreListed low top [] t → Best address top past (λ y. IsIn y t) None
      → Best address low past (λ y. IsIn y t) None
  list_ends address low top past t listed tried y at covers below = grind arith

-- -------- the parts of a tree: a bit node with what is beneath it, a leaf, and the way between one part and the whole
bit_not_leaf : {x y : Id} → BitOf x ≡ LeafOf y → ⊥
bit_not_leaf e = cc

same_leaf : {x y : Id} → LeafOf x ≡ LeafOf y → x ≡ y
same_leaf e = cc

module _ {V : Type 0} where
  fork_of : (m : Lodged V) (p : Part m) {room : Id} (t : Tree V) → p.tree ≡ t → name_of t ≡ BitOf room → ForkAt p room
  fork_of m p t is named = search arith

  leaf_of : (m : Lodged V) (p : Part m) {room : Id} (t : Tree V) → p.tree ≡ t → name_of t ≡ LeafOf room → LeafAt p room
  leaf_of m p (leaf x xs) is named = search (same_leaf)
  leaf_of m p (fork i b zero one) is named = absurd (bit_not_leaf named)

  -- a part is what its name says
  pub fork_named : {m : Lodged V} (p : Part m) {room : Id} → name_of p.tree ≡ BitOf room → ForkAt p room
  fork_named {m = m} p named = fork_of m p p.tree refl named

  pub leaf_named : {m : Lodged V} (p : Part m) {room : Id} → name_of p.tree ≡ LeafOf room → LeafAt p room
  leaf_named {m = m} p named = leaf_of m p p.tree refl named

  -- ---- a bit node
  module _ {m : Lodged V} {p : Part m} {room : Id} (f : ForkAt p room) where
    pub fork_name : name_of p.tree ≡ BitOf room
    fork_name = ap name_of f.is

    abbrev pub whole_of : Tree V
    whole_of = fork room f.bit f.zero f.one

    pub fork_is : IsTree p.low whole_of
    fork_is = subst (IsTree p.low) f.is p.is

    pub fork_stands : Stands (leaves_in m) (bits_in m) p.above whole_of
    fork_stands = grind arith

    pub fork_lists : (M : Placed V → Type 0) → Lists M (heads_in m) (masks_in m) p.low p.tree → Lists M (heads_in m) (masks_in m) p.low whole_of
    fork_lists M listed = grind arith

    -- what its room says
    abbrev pub bit_part_of : BitPart
    bit_part_of = record { block = room.block; bit = f.bit; zero = name_of f.zero; one = name_of f.one; above = p.above }

    pub Has-fork : Has m room
    Has-fork = Has-bit m room (fork_stands).0 refl

    -- its sides
    abbrev pub zero_part : Part m
    zero_part = record { tree = f.zero; low = f.bit + 1; above = Some room; is = (fork_is).1; stands = (fork_stands).1 }

    abbrev pub one_part : Part m
    one_part = record { tree = f.one; low = f.bit + 1; above = Some room; is = (fork_is).2; stands = (fork_stands).2 }

    pub zero_beneath : (address : ℕ) → bit_at f.bit address ≡ 0 → Beneath address zero_part p
    zero_beneath address is = record { room = room; at = f; above = refl; low = refl; side = inl (refl, is) }

    pub one_beneath : (address : ℕ) → bit_at f.bit address ≡ 1 → Beneath address one_part p
    one_beneath address is = record { room = room; at = f; above = refl; low = refl; side = inr (refl, is) }

  pub side_of : {m : Lodged V} {address : ℕ} {under over : Part m} (b : Beneath address under over) → IsSide address b.at.bit under.tree over.tree
  side_of {address = address} {under = under} {over = over} b =
      let f = b.at in
      let is = fork_is f in
      subst (IsSide address f.bit under.tree) (sym f.is) (elim b.side [
        | inl e ↦ subst (λ c. IsSide address f.bit c (fork b.room f.bit f.zero f.one)) (sym e.0)
            (zero_side address over.low f.bit b.room f.zero f.one is e.1)
        | inr e ↦ subst (λ c. IsSide address f.bit c (fork b.room f.bit f.zero f.one)) (sym e.0) (one_side address over.low f.bit b.room f.zero f.one is e.1)
      ])

  -- ---- a leaf
  abbrev pub leaf_run : (m : Lodged V) {p : Part m} {room : Id} → LeafAt p room → Run m
  leaf_run m {p = p} f = record {
    members = f.first ∷ f.rest;
    key = f.first.entry.key;
    top = 34;
    above = p.above;
    previous = None;
    is = (subst (IsTree p.low) f.is p.is).1;
    stands = subst (Stands (leaves_in m) (bits_in m) p.above) f.is p.stands;
  }

  pub leaf_begins : {m : Lodged V} {p : Part m} {room : Id} (f : LeafAt p room) → first_room (f.first ∷ f.rest) ≡ Some room
  leaf_begins f = ap Some f.room_is

  -- that of the leaf to which an address leads
  abbrev pub chain_led : {m : Lodged V} {address : ℕ} {whole : Part m} {room : Id} → LedTo address whole room → (c : Run m) ×
      (first_room c.members ≡ Some room)
  chain_led {m} {room = room} l = (leaf_run m l.leaf, leaf_begins l.leaf)

  pub among_leaf : {m : Lodged V} {p : Part m} {room : Id} (f : LeafAt p room) (y : Placed V) → IsIn y p.tree → IsAmong y (f.first ∷ f.rest)
  among_leaf f y at = subst (IsIn y) f.is at

  pub in_leaf : {m : Lodged V} {p : Part m} {room : Id} (f : LeafAt p room) (y : Placed V) → IsAmong y (f.first ∷ f.rest) → IsIn y p.tree
  in_leaf f y among = subst (IsIn y) (sym f.is) among

  -- ---- a way
  pub way_inside : (m : Lodged V) (address : ℕ) (whole at : Part m) (ups : List (Part m)) → Way address whole at ups → (y : Placed V) → IsIn y at.tree
      → IsIn y whole.tree
  way_inside m address whole at [] way y is = subst (λ p. IsIn y p.tree) way is
  way_inside m address whole at (p ∷ ps) way y is = way_inside m address whole p ps way.1 y ((side_of way.0).inside y is)

  -- a route whose key is the address is found on its way
  pub way_leads : (m : Lodged V) {address : ℕ} (whole at : Part m) (ups : List (Part m)) → Way address whole at ups → (y : Placed V) → IsIn y whole.tree
      → y.entry.key ≡ address → IsIn y at.tree
  way_leads m whole at [] way y is key = subst (λ p. IsIn y p.tree) (sym way) is
  way_leads m whole at (p ∷ ps) way y is key = grind (arith, way_leads m whole p ps way.1 y is key, side_of way.0)

  -- the lists beneath
  abbrev pub ListsOf : (Placed V → Type 0) → (m : Lodged V) → Part m → Type 0
  ListsOf M m p = Lists M (heads_in m) (masks_in m) p.low p.tree

  pub lists_beneath : (M : Placed V → Type 0) {m : Lodged V} {address : ℕ} (under : Part m) {over : Part m} → Beneath address under over → ListsOf M m over
      → ListsOf M m under
  lists_beneath M {m = m} under b listed = grind arith

  pub way_lists : (M : Placed V → Type 0) {m : Lodged V} (address : ℕ) (whole at : Part m) (ups : List (Part m)) → Way address whole at ups → ListsOf M m
      whole → ListsOf M m at
  way_lists M {m = m} address whole at [] way listed = subst (ListsOf M m) (sym way) listed
  way_lists M address whole at (p ∷ ps) way listed = lists_beneath M at way.0 (way_lists M address whole p ps way.1 listed)

  -- the best beneath is the whole's best
  pub way_best : (m : Lodged V) (address : ℕ) (whole at : Part m) (ups : List (Part m)) → Way address whole at ups → (x : Placed V)
      → Best address at.low 34 (In at) (Some x) → Best address whole.low 34 (In whole) (Some x)
  way_best m address whole at [] way x best = grind arith
  way_best m address whole at (p ∷ ps) way x best = way_best m address whole p ps way.1 x (side_hit (side_of way.0) p.low x best)

  -- -------- the ways to parts of a tree
  -- ---- the ways to parts
  -- the leaf of a route
  pub record FoundLeaf (m : Lodged V) (whole : Part m) (y : Placed V) : Type 0 where
    pub part : Part m
    pub room : Id
    pub at : LeafAt part room
    pub among : IsIn y part.tree
    pub ups : List (Part m)
    pub way : Way y.entry.key whole part ups

  leaf_down : (m : Lodged V) (whole : Part m) (y : Placed V) (at : Part m) (ups : List (Part m)) (t : Tree V) → at.tree ≡ t → Way y.entry.key whole at ups
      → IsIn y t → FoundLeaf m whole y
  leaf_down m whole y at ups (leaf x xs) is way there = record {
    part = at;
    room = x.room;
    at = record { first = x; rest = xs; is = is; room_is = refl };
    among = subst (IsIn y) (sym is) there;
    ups = ups;
    way = way;
  }
  leaf_down m whole y at ups (fork room b zero one) is way there =
      let f : ForkAt at room = record { bit = b; zero = zero; one = one; is = is } in
      let tree = fork_is f in
      elim there [
        | inl z ↦ leaf_down m whole y (zero_part f) (at ∷ ups) zero refl
            (zero_beneath f y.entry.key (bit_beneath (b + 1) b 0 zero tree.1 tree.0.zeros y z), way) z
        | inr o ↦ leaf_down m whole y (one_part f) (at ∷ ups) one refl
            (one_beneath f y.entry.key (bit_beneath (b + 1) b 1 one tree.2 tree.0.ones y o), way) o
      ]

  pub way_to_leaf : (m : Lodged V) (whole : Part m) (y : Placed V) → IsIn y whole.tree → FoundLeaf m whole y
  way_to_leaf m whole y is = leaf_down m whole y whole [] whole.tree refl refl is

  -- the bit node in a room
  pub record FoundFork (m : Lodged V) (whole : Part m) (n : ℕ) : Type 0 where
    pub key : ℕ
    pub part : Part m
    pub room : Id
    pub at : ForkAt part room
    pub number : number_of room ≡ n
    pub ups : List (Part m)
    pub way : Way key whole part ups

  -- a route beneath it
  abbrev HasOver : ℕ → Placed V → Tree V → Type 0
  HasOver n y (leaf x xs) = ⊥
  HasOver n y (fork room b zero one) = ((number_of room ≡ n) × IsIn y zero) ⊎ (HasOver n y zero ⊎ HasOver n y one)

  over_in : (n : ℕ) (y : Placed V) (t : Tree V) → HasOver n y t → IsIn y t
  over_in n y (leaf x xs) o = absurd o
  over_in n y (fork room b zero one) o = search (arith, over_in n y zero, over_in n y one)

  some_route : (t : Tree V) → (y : Placed V) × IsIn y t
  some_route (leaf x xs) = (x, inl refl)
  some_route (fork room b zero one) = let y = some_route zero in (y.0, inl y.1)

  some_over : (n : ℕ) (t : Tree V) → 1 ≤ forks_at n t → (y : Placed V) × HasOver n y t
  some_over n (leaf x xs) some = absurd (omega arith)
  some_over n (fork room b zero one) some = elim (number_of room == n) as (λ t. (number_of room == n) ≡ t → 1 ≤ one_if t + (forks_at n zero + forks_at n one)
      → (y : Placed V) × HasOver n y (fork room b zero one)) [
        | true ↦ λ e sum. let y = some_route zero in (y.0, inl (eqb-true (number_of room) n e, y.1))
        | false ↦ λ e sum. elim (cases_lt 0 (forks_at n zero)) [
          | inl lt ↦ let y = some_over n zero lt in (y.0, inr (inl y.1))
          | inr le ↦ let y = some_over n one (omega arith) in (y.0, inr (inr y.1))
        ]
      ] refl some

  fork_down : (m : Lodged V) (whole : Part m) (n : ℕ) (y : Placed V) (at : Part m) (ups : List (Part m)) (t : Tree V) → at.tree ≡ t
      → Way y.entry.key whole at ups → HasOver n y t → FoundFork m whole n
  fork_down m whole n y at ups (leaf x xs) is way o = absurd o
  fork_down m whole n y at ups (fork room b zero one) is way o =
      let f : ForkAt at room = record { bit = b; zero = zero; one = one; is = is } in
      let tree = fork_is f in
      elim o [
        | inl h ↦ record { key = y.entry.key; part = at; room = room; at = f; number = h.0; ups = ups; way = way }
        | inr s ↦ elim s [
          | inl z ↦ fork_down m whole n y (zero_part f) (at ∷ ups) zero refl
              (zero_beneath f y.entry.key (bit_beneath (b + 1) b 0 zero tree.1 tree.0.zeros y (over_in n y zero z)), way) z
          | inr u ↦ fork_down m whole n y (one_part f) (at ∷ ups) one refl
              (one_beneath f y.entry.key (bit_beneath (b + 1) b 1 one tree.2 tree.0.ones y (over_in n y one u)), way) u
        ]
      ]

  pub way_to_fork : (m : Lodged V) (whole : Part m) (n : ℕ) → 1 ≤ forks_at n whole.tree → FoundFork m whole n
  way_to_fork m whole n some = let y = some_over n whole.tree some in fork_down m whole n y.0 whole [] whole.tree refl refl y.1
