-- What has come of the rooms once a route of a new key stands in them, beneath a new bit node, and of the whole.
use Rattle.radix_tree.proofs.{Facts.zero_or_one, Facts.some_of, Facts.same_none, RoomReads.Has-leaf, TreeMembers.bit_beneath, TreeMembers.chain_key}
use Rattle.radix_tree.proofs.{TreeMembers.tree_said, Cuts.IsCut, JoinSides.turn_used, MovedReads.lift_used, Plugs.counted_leaf, Plugs.spare_same}
use Rattle.radix_tree.proofs.{Plugs.same_leaf, WholeRoutes.routes_changed, WholeRoutes.gains_spliced, PlugLists.mask_list_same, PlugLists.lists_same}
use Rattle.radix_tree.proofs.{PlugLists.marked_same, WholeChanges.Fits, WholeChanges.once_but, WholeChanges.spare_changed, WholeChanges.whole_changed}
use Rattle.radix_tree.proofs.Beside.{stays, zero_forked, one_forked, not_new, not_new_bit}
use Rattle.radix_tree.proofs.Words.{◌≡◌, ℕ, ◌+◌, ◌≤◌, ◌⊎◌, ◌==◌, ◌||◌, Bool, true, false, if◌then◌else◌, List, [], ◌∷◌, Option, Some, None, refl, sym, ap, ◌∙◌}
use Rattle.radix_tree.proofs.Words.{inl, inr, arith, eq-eqb, ne_eqb, cases_eq, append-nil, is_some, Has, Id, Node, LeafOf, BitOf, Placed, Tree, leaf, fork}
use Rattle.radix_tree.proofs.Words.{bit_at, IsIn, routes_of, LeafPart, Heads, Masks, Bits, Part, leaves_in, bits_in, heads_in, masks_in, Beneath, Way, one_if}
use Rattle.radix_tree.proofs.Words.{leaves_at, forks_at, HasHome, HaveOneFork, with_head, forked_tree, Gains, IsPlace, IsSpot, IsBeside, Exchanged}
use Rattle.radix_tree.proofs.Words.{IsMaskList, MarkedIn, MarkedLists, HasRoomMore, KeepsLeaves, KeepsBits, KeepsMasks, lift_leaf, leaf_above, Lodged}
use Rattle.radix_tree.proofs.Words.{true≢false, number_of, subst, IsTree, LedTo, IsWhole, shown, IsNew, Differs, IsWholeBut, has_key, nobody_late, nobody_out}

-- ---- what a room says stays something
pub or_true : (b : Bool) → b || true ≡ true
or_true b = search arith

module _ {V : Type 0} where
  -- a room's leaf has another bit node above it, or the same
  abbrev LiftsTo : Option (LeafPart V) → LeafPart V → Type 0
  LiftsTo said p = (a : Option Id) × (said ≡ Some (record p { leaf = record p.leaf { above = a } }))

  chosen_leaf : (test : Bool) (above : Option Id) (p : LeafPart V) → LiftsTo (if test then leaf_above above (Some p) else Some p) p
  chosen_leaf true above p = (above, refl)
  chosen_leaf false above p = (p.leaf.above, refl)

  lifts : (at : Node) (above : Option Id) (n : ℕ) (p : LeafPart V) → LiftsTo (lift_leaf at above n (Some p)) p
  lifts (LeafOf room) above n p = chosen_leaf (n == number_of room) above p
  lifts (BitOf room) above n p = (p.leaf.above, refl)

  lift_leaf_some : (at : Node) (above : Option Id) (n : ℕ) (said : Option (LeafPart V)) → is_some (lift_leaf at above n said) ≡ is_some said
  lift_leaf_some at above n said = search arith

  -- ---- the new bit node's tree
  forked_cases : (P : Tree V → Type 0) (bit : ℕ) (x : Placed V) (t : Tree V) → (bit_at bit x.entry.key ≡ 0 → P (fork x.room bit (leaf x []) t))
      → (bit_at bit x.entry.key ≡ 1 → P (fork x.room bit t (leaf x []))) → P (forked_tree bit x t)
  forked_cases P bit x t zero one = search (arith, zero_or_one, zero_forked, one_forked)

  pub forked_leaves : (bit : ℕ) (x : Placed V) (t : Tree V) (n : ℕ) → leaves_at n (forked_tree bit x t) ≡ one_if (number_of x.room == n) + leaves_at n t
  forked_leaves bit x t n = search (arith, forked_cases)

  pub forked_forks : (bit : ℕ) (x : Placed V) (t : Tree V) (n : ℕ) → forks_at n (forked_tree bit x t) ≡ one_if (number_of x.room == n) + forks_at n t
  forked_forks bit x t n = search (arith, forked_cases)

  in_leaf : (x y : Placed V) → IsIn y (leaf x []) → x ≡ y
  in_leaf x y is = elim is [ inl e ↦ e | inr none ↦ absurd none ]

  pub in_forked : (bit : ℕ) (x : Placed V) (t : Tree V) (y : Placed V) → IsIn y (forked_tree bit x t) → (x ≡ y) ⊎ IsIn y t
  in_forked bit x t y = search (arith, forked_cases, in_leaf)

  pub forked_in : (bit : ℕ) (x : Placed V) (t : Tree V) (y : Placed V) → IsIn y t → IsIn y (forked_tree bit x t)
  forked_in bit x t y is = forked_cases (λ (s : Tree V). IsIn y s) bit x t (λ clear. inr is) (λ set. inl is)

  pub forked_lists : (H : Heads) {K : Masks} (low bit : ℕ) (x : Placed V) (t : Tree V)
      → IsMaskList K (H (number_of x.room)) low bit (MarkedIn K (forked_tree bit x t)) → MarkedLists H K (bit + 1) t → MarkedLists H K low (forked_tree bit x t)
  forked_lists H {K = K} low bit x t =
      forked_cases (λ (s : Tree V). IsMaskList K (H (number_of x.room)) low bit (MarkedIn K s) → MarkedLists H K (bit + 1) t → MarkedLists H K low s) bit x t
      (λ clear list lists. (list, tt, lists)) (λ set list lists. (list, lists, tt))

  -- a route beneath it has its home at the new bit node, or where it had it
  pub home_forked : (bit : ℕ) (x : Placed V) (t : Tree V) (key rank : ℕ) → HasHome key rank (forked_tree bit x t) → (rank ≤ bit) ⊎ HasHome key rank t
  home_forked bit x t key rank = search (arith, forked_cases)

  pub forked_home : (bit : ℕ) {low : ℕ} (x : Placed V) (t : Tree V) → IsPlace x.entry.key low bit t → (y : Placed V) → IsIn y t
      → HasHome y.entry.key y.entry.rank t → HasHome y.entry.key y.entry.rank (forked_tree bit x t)
  forked_home bit x t p y is home =
      forked_cases (λ (s : Tree V). HasHome y.entry.key y.entry.rank s) bit x t (search (arith, bit_beneath)) (search (arith, bit_beneath))

  pub forked_spare : (B : Bits) (bit : ℕ) (x : Placed V) (t : Tree V) → HaveOneFork B t → HaveOneFork B (forked_tree bit x t)
  forked_spare B bit x t spare = search (arith, forked_cases)

  pub forked_gains : (bit : ℕ) (x : Placed V) (t : Tree V) → Gains x.entry (routes_of t) (routes_of (forked_tree bit x t))
  forked_gains bit x t = search (arith, forked_cases, append-nil)

  -- ---- the rooms once the list is cut
  abbrev pub same_part : {m : Lodged V} (new : Lodged V) → KeepsLeaves m new → KeepsBits m new → Part m → Part new
  same_part {m = m} new leaves bits p = stays m new p (λ n some. leaves n) (λ n some. bits n)

  abbrev pub same_parts : (m new : Lodged V) → KeepsLeaves m new → KeepsBits m new → List (Part m) → List (Part new)
  same_parts m new leaves bits [] = []
  same_parts m new leaves bits (p ∷ ps) = same_part new leaves bits p ∷ same_parts m new leaves bits ps

  same_beneath : {m : Lodged V} (new : Lodged V) (leaves : KeepsLeaves m new) (bits : KeepsBits m new) {key : ℕ} {under over : Part m}
      → Beneath key under over → Beneath key (same_part new leaves bits under) (same_part new leaves bits over)
  same_beneath new leaves bits b =
      record {
        room = b.room;
        at = search arith;
        above = b.above;
        low = b.low;
        side = b.side;
      }

  pub same_way : (m new : Lodged V) (leaves : KeepsLeaves m new) (bits : KeepsBits m new) (key : ℕ) (whole at : Part m) (ups : List (Part m))
      → Way key whole at ups → Way key (same_part new leaves bits whole) (same_part new leaves bits at) (same_parts m new leaves bits ups)
  same_way m new leaves bits key whole at [] way = ap (same_part {m = m} new leaves bits) way
  same_way m new leaves bits key whole at (p ∷ ps) way = (same_beneath new leaves bits way.0, same_way m new leaves bits key whole p ps way.1)

  abbrev pub same_spot : {m : Lodged V} (new : Lodged V) (leaves : KeepsLeaves m new) (bits : KeepsBits m new) {key bit : ℕ} (whole : Part m)
      {above : Option Id} {below : Node} → IsSpot m key bit whole above below → IsSpot new key bit (same_part new leaves bits whole) above below
  same_spot {m = m} new leaves bits {key = key} whole s = record {
    at = same_part new leaves bits s.at;
    ups = same_parts m new leaves bits s.ups;
    way = same_way m new leaves bits key whole s.at s.ups s.way;
    top = s.top;
    once = s.once;
    place = s.place;
    above_is = s.above_is;
    named = s.named;
  }

  abbrev pub exchanged_from : {m mid new : Lodged V} (leaves : KeepsLeaves m mid) (bits : KeepsBits m mid) {key : ℕ} (whole at : Part m) {under : Part new}
      {root : Node}
      → Exchanged mid new key (same_part mid leaves bits whole) (same_part mid leaves bits at) under root → Exchanged m new key whole at under root
  exchanged_from leaves bits whole at e = record {
    frames = e.frames;
    was = e.was;
    lead = e.lead;
    lowest = e.lowest;
    part = e.part;
    is_now = e.is_now;
    low = e.low;
    above = e.above;
    named = e.named;
  }

  -- ---- what has come of the rooms
  -- the rooms of before, those once the list is cut, and those of now
  pub record Came (m mid new : Lodged V) (low bit : ℕ) (t : Tree V) (x : Placed V) (above : Option Id) (below : Node) : Type 0 where
    pub first : Option Id
    pub cut : IsCut m mid low bit t first
    pub beside : IsBeside mid new bit x above below
    pub heads : (n : ℕ) → heads_in new n ≡ with_head x.room first n (heads_in mid n)
    pub masks : KeepsMasks mid new
    pub unmarked : masks_in m (number_of x.room) ≡ None

  module _ {m mid new : Lodged V} {low bit : ℕ} {t : Tree V} (x : Placed V) {above : Option Id} {below : Node} (c : Came m mid new low bit t x above below)
    where
      pub no_leaf : leaves_in m (number_of x.room) ≡ None
      no_leaf = sym (c.cut.leaves (number_of x.room)) ∙ c.beside.no_leaf

      pub no_bit : bits_in m (number_of x.room) ≡ None
      no_bit = sym (c.cut.bits (number_of x.room)) ∙ c.beside.no_bit

      pub other_leaf : (n : ℕ) → (n ≡ number_of x.room → ⊥) → is_some (leaves_in new n) ≡ is_some (leaves_in m n)
      other_leaf n other = search (arith, lift_leaf_some)

      pub other_bit : (n : ℕ) → (n ≡ number_of x.room → ⊥) → is_some (bits_in new n) ≡ is_some (bits_in m n)
      other_bit n other = search (arith, lift_used, turn_used)

      pub same_marks : (n : ℕ) → is_some (masks_in new n) ≡ is_some (masks_in m n)
      same_marks n = ap is_some (c.masks n) ∙ c.cut.marks n

      pub room_more : HasRoomMore m new (number_of x.room)
      room_more n = search (arith, cases_eq, eq-eqb, other_leaf, ne_eqb)

      pub leaf_kept : (n : ℕ) (p : LeafPart V) → leaves_in m n ≡ Some p
          → (a : Option Id) × (leaves_in new n ≡ Some (record p { leaf = record p.leaf { above = a } }))
      leaf_kept n p is =
          let other : n ≡ number_of x.room → ⊥ = λ same. some_none (sym is ∙ ap (leaves_in m) same ∙ no_leaf) in
          let l = lifts below (Some x.room) n p in
          (l.0, c.beside.leaves n other ∙ ap (lift_leaf below (Some x.room) n) (c.cut.leaves n ∙ is) ∙ l.1)
        where
          some_none : {A : Type 0} {a : A} → Some a ≡ None → ⊥
          some_none e = cc

      pub new_there : Has new x.room
      new_there = Has-leaf new x.room c.beside.leaf refl

  -- -------- the whole, where that bit node has taken over a list of masks
  -- ---- the whole
  -- the routes that may be late: the new one, and those of a key
  abbrev pub late_beside : Lodged V → ℕ → ℕ → ℕ → Bool
  late_beside m key room n = (n == room) || has_key m key n

  pub counts : (m : Lodged V) {mid : Lodged V} (new : Lodged V) {low bit : ℕ} {t : Tree V} (x : Placed V) {above : Option Id} {below : Node}
      (c : Came m mid new low bit t x above below) (n : ℕ)
      → (one_if (number_of x.room == n) + one_if (is_some (leaves_in m n)) ≡ one_if (is_some (leaves_in new n)))
      × (one_if (number_of x.room == n) + one_if (is_some (bits_in m n)) ≡ one_if (is_some (bits_in new n)))
  counts m new x c n = search (arith, cases_eq, eq-eqb, ne_eqb, no_leaf, no_bit, other_leaf, other_bit)

  -- a route that the new bit node would be the home of is late, or had a home
  late_or_home : (m : Lodged V) (bit key room : ℕ) (p : Part m) (y : Placed V) (t : Tree V) → p.tree ≡ t → IsTree (bit + 1) p.tree
      → ((z : Placed V) (zs : List (Placed V)) → p.tree ≡ leaf z zs → y.entry.key ≡ key) → IsIn y p.tree → y.entry.rank ≤ bit
      → (late_beside m key room (number_of y.room) ≡ true) ⊎ HasHome y.entry.key y.entry.rank p.tree
  late_or_home m bit key room p y (leaf z zs) is tree keyed at short = search (arith, tree_said, eq-eqb, or_true)
  late_or_home m bit key room p y (fork i b zero one) is tree keyed at short = search arith

  module _ {m : Lodged V} {root : Node} (w : IsWholeBut m root nobody_late nobody_out) {bit : ℕ} (x : Placed V) {above : Option Id} {below : Node}
      (s : IsSpot m x.entry.key bit w.part above below) where
    fits_beside : (mid new : Lodged V) (key : ℕ) (u : Part new) → Came m mid new s.at.low bit s.at.tree x above below → u.tree ≡ forked_tree bit x s.at.tree
        → ((y z : Placed V) (zs : List (Placed V)) → IsIn y s.at.tree → s.at.tree ≡ leaf z zs → y.entry.key ≡ key)
        → Fits m new w.part s.at u nobody_late (late_beside m key (number_of x.room)) nobody_out nobody_out
    fits_beside mid new key u c tree keyed =
        let marks = same_marks x c in
        let not_room = not_new_bit s.at x.room (no_bit x c) in
        let off : (n : ℕ) → (n ≡ number_of x.room → ⊥) → heads_in new n ≡ heads_in mid n =
        search (arith, ne_eqb) in
        record {
          leaves = λ n. let e = (counts m new x c n).0 in
              search (arith, forked_leaves);
          forks = λ n. let e = (counts m new x c n).1 in
              search (arith, forked_forks);
          heads = λ n none some. search (arith, not_new_bit, no_bit);
          masks = λ n none some. c.masks n ∙ c.cut.masks n none;
          masks_above = search arith;
          marks = search (arith, some_of);
          kept = λ y at marked. (
            subst (IsIn y) (sym tree) (forked_in bit x s.at.tree y at),
            λ home. inr (subst (HasHome y.entry.key y.entry.rank) (sym tree) (forked_home bit x s.at.tree s.place y at home)),
          );
          came = search (arith, in_forked);
          gone = λ y at short marked. marks (number_of y.room) ∙ marked;
          lists = subst (MarkedLists (heads_in new) (masks_in new) s.at.low) (sym tree) (forked_lists (heads_in new) s.at.low bit x s.at.tree
              (search (arith, mask_list_same, eq-eqb, forked_in, marked_same, in_forked))
              (lists_same (heads_in mid) (heads_in new) (masks_in mid) (masks_in new) (bit + 1) s.at.tree (λ n some. off n (not_room n some))
              (λ y at. c.masks (number_of y.room)) c.cut.lists));
          all = λ y there home. elim (in_forked bit x s.at.tree y (subst (IsIn y) tree there)) [
            | inl e ↦ search (arith, eq-eqb)
            | inr at ↦ elim home [
              | inl short ↦ search (arith, true≢false)
              | inr new_home ↦ elim (home_forked bit x s.at.tree y.entry.key y.entry.rank (subst (HasHome y.entry.key y.entry.rank) tree new_home)) [
                | inl here ↦ elim (late_or_home m bit key (number_of x.room) s.at y s.at.tree refl s.place.is (λ z zs is. keyed y z zs at is) at here) [
                  | inl late ↦ inl late
                  | inr had ↦ inr (at, inr had, search arith, (λ (late : false ≡ true). absurd (true≢false (sym late))))
                ]
                | inr had ↦ inr (at, inr had, search arith, (λ (late : false ≡ true). absurd (true≢false (sym late))))
              ]
            ]
          ];
          late_aside = λ n none some late. absurd (true≢false (sym late));
        }

    module _ {new : Lodged V} {name : Node} {u : Part new} (e : Exchanged m new x.entry.key w.part s.at u name) where
      -- bit nodes in use, of each chain one at most
      spare_beside : (mid : Lodged V) → Came m mid new s.at.low bit s.at.tree x above below → u.tree ≡ forked_tree bit x s.at.tree
          → HaveOneFork (bits_in new) e.part.tree
      spare_beside mid c tree =
          let none = no_leaf x c in
          let idle : (n : ℕ) → (n ≡ number_of x.room → ⊥) → bits_in m n ≡ None → bits_in new n ≡ None =
          λ n other. same_none (bits_in new n) (other_bit x c n other) in
          spare_changed w e (λ spare. subst (HaveOneFork (bits_in new)) (sym tree) (forked_spare (bits_in new) bit x s.at.tree
          (spare_same (bits_in m) (bits_in new) s.at.tree (λ y at. search (arith, not_new, counted_leaf))
          spare))) (λ n out some. idle n (not_new w.part x.room none n some))

      pub whole_beside : {mid : Lodged V} {room : Id} (d : LedTo x.entry.key w.part room) → Came m mid new s.at.low bit s.at.tree x above below
          → u.tree ≡ forked_tree bit x s.at.tree → IsWholeBut new name (late_beside m d.leaf.first.entry.key (number_of x.room)) nobody_out
      whole_beside {mid = mid} d c tree =
          let f = d.leaf in
          let chain = (subst (IsTree d.part.low) f.is d.part.is).1 in
          let keyed : (y z : Placed V) (zs : List (Placed V)) → IsIn y s.at.tree → s.at.tree ≡ leaf z zs → y.entry.key ≡ f.first.entry.key =
          λ y z zs at is. chain_key f.first.entry.key 34 (f.first ∷ f.rest) chain y
          (subst (IsIn y) (is ∙ same_leaf m x.entry.key w.part s.at d.part s.ups d.ups z f.first zs f.rest s.way d.way is f.is) at) in
          whole_changed w e (fits_beside mid new f.first.entry.key u c tree keyed) (spare_beside mid c tree)

      pub routes_beside : u.tree ≡ forked_tree bit x s.at.tree → Gains x.entry (shown m (Some root)) (shown new (Some name))
      routes_beside tree = gains_spliced (routes_changed w e) (search (arith, forked_gains))

  -- ---- a key that no route of the table has, and the rooms once its route stands there
  abbrev pub new_key : {m : Lodged V} {root : Node} (w : IsWhole m root) {key bit : ℕ} {room : Id} (d : LedTo key w.part room)
      → Differs key d.leaf.first.entry.key bit → IsNew m key bit room
  new_key w d differs = record { whole = w.part; led = d; top = w.top; low = w.low; once = once_but w; differs = differs }
