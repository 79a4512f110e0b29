-- The home of a mask, the way to it, and what a change of the list there leaves as it was.
use Rattle.radix_tree.proofs.{Facts.zero_not_one, Facts.clear_bit, PartRooms.one_if_same, PartRooms.elsewhere, PartRooms.way_once, Beside.stays, Plugs.aside_in}
use Rattle.radix_tree.proofs.{Plugs.aside_at, Plugs.counted_leaf, Plugs.spare_same, Plugs.on_way, PlugLists.KeepsAbove, PlugLists.plug_lists}
use Rattle.radix_tree.proofs.{PlugLists.lists_at, PlugLists.marked_same, PlugLists.lists_stay, TreeMembers.whole_route, TreeMembers.chain_below}
use Rattle.radix_tree.proofs.{TreeMembers.tree_route, TreeMembers.bit_beneath, TreeMembers.tree_said, RoomReads.AreLinks, RoomReads.leaf_read}
use Rattle.radix_tree.proofs.Parts.{fork_is, way_inside, way_to_leaf, leaf_run, leaf_begins, among_leaf}
use Rattle.radix_tree.proofs.Words.{◌≡◌, ℕ, ◌+◌, ◌<◌, ◌≤◌, ◌==◌, ◌⊎◌, Bool, true, ◌||◌, List, [], ◌∷◌, Some, refl, inl, inr, sym, ap, ◌∙◌, subst, arith}
use Rattle.radix_tree.proofs.Words.{cases_lt, Has, Id, Node, IsRoute, Placed, Tree, leaf, fork, IsAmong, IsIn, IsChain, IsTree, LeafPart, MaskPart, Heads}
use Rattle.radix_tree.proofs.Words.{Masks, Part, leaves_in, bits_in, heads_in, masks_in, leaf_in, Way, one_if, leaves_at, forks_at, HasHome, KeepsLeaves}
use Rattle.radix_tree.proofs.Words.{KeepsBits, AreOnce, plug, low_past, IsMarked, IsMaskList, MarkedIn, MarkedLists, IsWholeBut, nobody_out, HomeAt, Entry}
use Rattle.radix_tree.proofs.Words.{Lodged, number_of, Option, None, leaf_of, Leaf, Links, Run, first_room, LedTo, IsHome, inside}
use Rattle.mask_table.proofs.Agreeing.{front_of_bits}
use Rattle.radix_tree.specs.Tree.{bit_at}

pub or_right : (a : Bool) {b : Bool} → b ≡ true → (a || b) ≡ true
or_right a is = search arith

module _ {V : Type 0} where
  -- ---- one room, one route
  -- a route by what its room says
  abbrev told : LeafPart V → Placed V
  told p = record { room = record { block = p.block }; entry = record { key = p.leaf.key; rank = p.leaf.rank; value = p.value } }

  pub one_room : (m : Lodged V) (p : Part m) (x y : Placed V) → IsIn x p.tree → IsIn y p.tree → number_of x.room ≡ number_of y.room → x ≡ y
  one_room m p x y in_x in_y same = grind (arith, tree_said)

  -- ---- one pair, one route
  chain_one : (key top : ℕ) (c : List (Placed V)) → IsChain key top c → (x y : Placed V) → IsAmong x c → IsAmong y c → x.entry.rank ≡ y.entry.rank → x ≡ y
  chain_one key top [] is x y in_x in_y same = absurd in_x
  chain_one key top (z ∷ c) is x y in_x in_y same = search (arith, chain_below, chain_one key z.entry.rank c is.3 x y)

  pub one_pair : (low : ℕ) (t : Tree V) → IsTree low t → (x y : Placed V) → IsIn x t → IsIn y t → x.entry.key ≡ y.entry.key → x.entry.rank ≡ y.entry.rank
      → x ≡ y
  one_pair low (leaf z zs) is x y in_x in_y key rank = chain_one z.entry.key 34 (z ∷ zs) is.1 x y in_x in_y rank
  one_pair low (fork room b zero one) is x y in_x in_y key rank = elim in_x [
    | inl x0 ↦ elim in_y [
      | inl y0 ↦ one_pair (b + 1) zero is.1 x y x0 y0 key rank
      | inr y1 ↦ absurd (zero_not_one (grind (arith, bit_beneath))
          (bit_beneath (b + 1) b 1 one is.2 is.0.ones y y1))
    ]
    | inr x1 ↦ elim in_y [
      | inl y0 ↦ absurd (zero_not_one (ap (bit_at b) key ∙ bit_beneath (b + 1) b 0 zero is.1 is.0.zeros y y0)
          (bit_beneath (b + 1) b 1 one is.2 is.0.ones x x1))
      | inr y1 ↦ one_pair (b + 1) one is.2 x y x1 y1 key rank
    ]
  ]

  -- equal bits, equal keys
  same_keys : (x y : Entry V) → IsRoute x → IsRoute y → ((c : ℕ) → c ≤ 31 → bit_at c x.key ≡ bit_at c y.key) → x.key ≡ y.key
  unfolding bit_at
  same_keys x y rx ry same = omega (arith, front_of_bits 32 x.key y.key (omega arith) rx.address ry.address (λ c before. same c (omega arith)))

  -- beneath a bit node two routes of a rank not past its bit are one
  pub one_of_bit : (low b : ℕ) (room : Id) (zero one : Tree V) → IsTree low (fork room b zero one) → (x y : Placed V) → IsIn x (fork room b zero one)
      → IsIn y (fork room b zero one) → x.entry.rank ≡ y.entry.rank → x.entry.rank ≤ b → x ≡ y
  one_of_bit low b room zero one is x y in_x in_y same most =
      let rx = tree_route low (fork room b zero one) is x in_x in
      let ry = tree_route low (fork room b zero one) is y in_y in
      one_pair low (fork room b zero one) is x y in_x in_y (same_keys x.entry y.entry rx ry (λ c fits. elim (cases_lt c x.entry.rank) [
        | inl before ↦ grind (arith, bit_beneath, is.0.agree c (omega arith))
        | inr past ↦ clear_bit c rx past fits ∙ sym (clear_bit c ry (omega arith) fits)
      ])) same

  -- ---- the home of a mask
  way_home : (m : Lodged V) (key rank : ℕ) (whole at : Part m) (ups : List (Part m)) → Way key whole at ups → HasHome key rank at.tree
      → HasHome key rank whole.tree
  way_home m key rank whole at [] way home = subst (λ p. HasHome key rank p.tree) way home
  way_home m key rank whole at (p ∷ ps) way home = way_home m key rank whole p ps way.1 (grind arith)

  module _ {m : Lodged V} {key rank : ℕ} {whole : Part m} {room : Id} (h : HomeAt m key rank whole room) where
    pub home_has : HasHome key rank whole.tree
    home_has = way_home m key rank whole h.part h.ups h.way (grind arith)

    abbrev pub tree_of : Tree V
    tree_of = fork room h.at.bit h.at.zero h.at.one

    lists_of : (H : Heads) (K : Masks) → MarkedLists H K whole.low whole.tree → MarkedLists H K h.part.low tree_of
    lists_of H K lists = subst (MarkedLists H K h.part.low) h.at.is (grind (arith, lists_at, on_way m key whole h.part h.ups h.way))

    -- the list there
    pub home_list : MarkedLists (heads_in m) (masks_in m) whole.low whole.tree
        → IsMaskList (masks_in m) (heads_in m (number_of room)) h.part.low h.at.bit (MarkedIn (masks_in m) tree_of)
    home_list lists = (lists_of (heads_in m) (masks_in m) lists).0

  -- ---- a list at a home changes, and so the lists of the whole tree
  -- rooms that list the same masks but for those of a home's list
  pub record IsRelisted (m new : Lodged V) (key rank : ℕ) (whole : Part m) (room : Id) (h : HomeAt m key rank whole room) : Type 0 where
    pub heads : (n : ℕ) → (n ≡ number_of room → ⊥) → heads_in new n ≡ heads_in m n
    pub masks : (y : Placed V) → IsIn y whole.tree → (IsIn y h.part.tree → h.part.low ≤ y.entry.rank → y.entry.rank ≤ h.at.bit → ⊥)
        → masks_in new (number_of y.room) ≡ masks_in m (number_of y.room)
    pub list : IsMaskList (masks_in new) (heads_in new (number_of room)) h.part.low h.at.bit (MarkedIn (masks_in new) (fork room h.at.bit h.at.zero h.at.one))

  module _ {m : Lodged V} {key rank : ℕ} {whole : Part m} {room : Id} (h : HomeAt m key rank whole room) where
    pub home_inside : (y : Placed V) → IsIn y (tree_of h) → IsIn y whole.tree
    home_inside y is = way_inside m key whole h.part h.ups h.way y (subst (IsIn y) (sym h.at.is) is)

    -- the home's tree, with its list
    home_lists : (new : Lodged V) → AreOnce whole.tree → IsRelisted m new key rank whole room h → MarkedLists (heads_in m) (masks_in m) whole.low whole.tree
        → MarkedLists (heads_in new) (masks_in new) h.part.low (tree_of h)
    home_lists new once r lists =
        let f = h.at in
        let is = fork_is f in
        let old = lists_of h (heads_in m) (masks_in m) lists in
        let most : (n : ℕ) → one_if (number_of room == n) + (forks_at n f.zero + forks_at n f.one) ≤ 1 =
        λ n. subst (λ t. forks_at n t ≤ 1) f.is ((way_once key whole h.part h.ups h.way once).forks n) in (
          r.list,
          lists_stay (heads_in m) (heads_in new) (masks_in m) (masks_in new) (f.bit + 1) f.zero is.1
              (λ n some. r.heads n (elsewhere room n (forks_at n f.zero) some (omega (arith, most n))))
              (λ y at least. r.masks y (home_inside y (inl at)) (λ _ _ short. omega arith)) old.1,
          lists_stay (heads_in m) (heads_in new) (masks_in m) (masks_in new) (f.bit + 1) f.one is.2
              (λ n some. r.heads n (elsewhere room n (forks_at n f.one) some (omega (arith, most n))))
              (λ y at least. r.masks y (home_inside y (inr at)) (λ _ _ short. omega arith)) old.2,
        )

    pub relisted : (new : Lodged V) → AreOnce whole.tree → IsRelisted m new key rank whole room h
        → MarkedLists (heads_in m) (masks_in m) whole.low whole.tree → MarkedLists (heads_in new) (masks_in new) whole.low whole.tree
    relisted new once r lists =
        let f = on_way m key whole h.part h.ups h.way in
        let own = subst (λ n. MarkedLists (heads_in new) (masks_in new) n h.part.tree) f.lowest
        (subst (MarkedLists (heads_in new) (masks_in new) h.part.low) (sym h.at.is) (home_lists new once r lists)) in
        let in_whole : (y : Placed V) → IsIn y (plug f.frames h.part.tree) → IsIn y whole.tree = λ y is. subst (IsIn y) (sym f.was) is in
        let forks : (n : ℕ) → forks_at n (plug f.frames h.part.tree) ≤ 1 = λ n. subst (λ u. forks_at n u ≤ 1) f.was (once.forks n) in
        let leaves : (n : ℕ) → leaves_at n (plug f.frames h.part.tree) ≤ 1 = λ n. subst (λ u. leaves_at n u ≤ 1) f.was (once.leaves n) in
        let here = subst (λ u. 1 ≤ forks_at (number_of room) u) (sym h.at.is) (omega (arith, one_if_same (number_of room))) in
        let above : (y : Placed V) → IsIn y h.part.tree → y.entry.rank < low_past whole.low f.frames
        → masks_in new (number_of y.room) ≡ masks_in m (number_of y.room) =
        λ y is below. r.masks y (way_inside m key whole h.part h.ups h.way y is) (λ _ least _. omega arith) in
        let keeps : KeepsAbove (heads_in m) (heads_in new) (masks_in m) (masks_in new) (low_past whole.low f.frames) f.frames h.part.tree h.part.tree =
        record {
          heads = λ n some. r.heads n (λ e. omega (arith, forks n, subst (λ k. 1 ≤ forks_at k h.part.tree) (sym e) here));
          aside = λ y aside. r.masks y (in_whole y (aside_in f.frames h.part.tree y aside)) (λ is _ _. let own_at = counted_leaf y h.part.tree is in
              let more = aside_at f.frames h.part.tree y aside in
              let most = leaves (number_of y.room) in omega arith);
          stays = λ y is below marked. (is, above y is below);
          came = λ y is below marked. (is, marked_same (masks_in new) (masks_in m) y (sym (above y is below)) marked);
        } in
        search (arith, plug_lists)

  -- ---- the whole, where leaves and bit nodes stay
  -- each mask that is listed is of a route with a home, and each such route's mask is listed or late
  pub record AreMarked (m new : Lodged V) (late : ℕ → Bool) (whole : Part m) : Type 0 where
    pub listed : (n : ℕ) (p : MaskPart) → masks_in new n ≡ Some p → (x : Placed V) × IsIn x whole.tree × (number_of x.room ≡ n)
        × HasHome x.entry.key x.entry.rank whole.tree
    pub all : (x : Placed V) → IsIn x whole.tree → HasHome x.entry.key x.entry.rank whole.tree → IsMarked (masks_in new) x ⊎ (late (number_of x.room) ≡ true)

  pub whole_kept : (m new : Lodged V) {root : Node} {late : ℕ → Bool} (later : ℕ → Bool) (w : IsWholeBut m root late nobody_out) → KeepsLeaves m new
      → KeepsBits m new → MarkedLists (heads_in new) (masks_in new) w.part.low w.part.tree → AreMarked m new later w.part
      → IsWholeBut new root later nobody_out
  whole_kept m new later w leaves bits lists marked = record {
    part = stays m new w.part (λ n _. leaves n) (λ n _. bits n);
    low = w.low;
    top = w.top;
    named = w.named;
    leaves = grind arith;
    forks = grind arith;
    spare = grind (arith, spare_same);
    lists = lists;
    listed = marked.listed;
    all = marked.all;
  }

  -- ---- the route in a room of the table
  pub placed_in : {m : Lodged V} {root : Node} {late : ℕ → Bool} (w : IsWholeBut m root late nobody_out) {room : Id} → Has m room
      → (y : Placed V) × IsIn y w.part.tree × (y.room ≡ room)
  placed_in {m = m} w {room = room} h =
      let y = whole_route w (number_of room) (ap leaf_in h.at) in
      let block = y.block ∙ h.block in
      (y.route, y.is_in, λ i. record { block = block i })

  -- -------- the way from a room to its leaf, and from there to the bit node at which its mask is listed
  -- the chain of a route of a tree
  abbrev pub chain_of : {m : Lodged V} (whole : Part m) (y : Placed V) → IsIn y whole.tree → Run m
  chain_of {m = m} whole y is = let f = way_to_leaf m whole y is in leaf_run m f.at

  pub in_chain : {m : Lodged V} (whole : Part m) (y : Placed V) (is : IsIn y whole.tree) → IsAmong y (chain_of whole y is).members
  in_chain {m = m} whole y is = let f = way_to_leaf m whole y is in among_leaf f.at y f.among

  pub led_first : {m : Lodged V} (whole : Part m) (y : Placed V) (is : IsIn y whole.tree) {first : Id} → first_room (chain_of whole y is).members ≡ Some first
      → LedTo y.entry.key whole first
  led_first {m = m} whole y is begins =
      let f = way_to_leaf m whole y is in
      subst (LedTo y.entry.key whole) (inside (sym (leaf_begins f.at) ∙ begins)) (record { part = f.part; leaf = f.at; ups = f.ups; way = f.way })

  pub chain_at : {m : Lodged V} {root : Node} {late : ℕ → Bool} (w : IsWholeBut m root late nobody_out) {room : Id} → Has m room
      → (c : Run m) × (y : Placed V) × (c.previous ≡ None) × IsAmong y c.members × (y.room ≡ room)
  chain_at w h = let y = placed_in w h in (chain_of w.part y.0 y.1, y.0, refl, in_chain w.part y.0 y.1, y.2)

  -- what a route's room says of its rank
  pub rank_read : {m : Lodged V} (p : Part m) (y : Placed V) (room : Id) (links : Links) {l : Leaf} → IsIn y p.tree → y.room ≡ room → AreLinks m room links
      → l ≡ leaf_of links → l.rank ≡ y.entry.rank
  rank_read {m = m} p y room links at is are read =
      let said = tree_said (leaves_in m) (bits_in m) p.above p.tree p.stands y at in
      ap (λ z. z.rank) (read ∙ leaf_read m room links (ap (λ i. leaves_in m (number_of i)) (sym is) ∙ said.3) (ap (λ i. i.block) is) are)

  pub home_is : {m : Lodged V} (key : ℕ) {rank other : ℕ} (whole : Part m) (o : Option Id) → rank ≡ other → IsHome m key rank whole o
      → IsHome m key other whole o
  home_is {m = m} key whole o same home = subst (λ r. IsHome m key r whole o) same home
