-- What an index tells of the routes of a tree, and how it follows them.
use Rattle.radix_tree.proofs.{BestOfTree.stands_in, Counted.not_held, WholeRoutes.shown_is, TreeMembers.whole_route, TreeMembers.tree_route}
use Rattle.radix_tree.proofs.{TreeMembers.tree_said, Kept.IsFound, Kept.IsNext, Kept.pair_there, RemovedRooms.get_out, RemovedRooms.get_other}
use Rattle.radix_tree.proofs.{MovedReads.back_same, MovedReads.next_same}
use Rattle.radix_tree.proofs.Words.{inside, none_some, MatchOption, Indexes, place_of, places_in, ◌≡◌, ℕ, ◌<◌, ◌≤◌, true, false, List, Option, Some, None, refl}
use Rattle.radix_tree.proofs.Words.{sym, ap, subst, ◌∙◌, arith, Id, Node, Placed, Ptr, IsIn, LeafPart, leaves_in, Tells, Finds, Best, HasPair, In, shown}
use Rattle.radix_tree.proofs.Words.{IsWhole, AreCounted, Lodged, IsRoute, bits_in, inl, inr, cases_eq, entry_at, routes_of, masked, number_of, HasPlaceMore}
use Rattle.radix_tree.proofs.Words.{HasPlaceLess, pair, if◌then◌else◌, true≢false, eq-eqb, ne_eqb, Entry, Rooms, Holds, is_some, IsKept, IsSome}
use Rattle.radix_tree.proofs.Words.{with_place, link_in, content_of, KeepsRoutes, lodge_leaf, Leaf, IfNone, IfSome, Seen, get, leaf_in}
use Rattle.mask_table.proofs.Agreeing.{masked_agrees, agrees_where_masked_equal}
use Rattle.std.specs.Prelude.{◌↔◌}
use Rattle.mask_table.specs.RankSets.{HasRank}
use Rattle.radix_tree.specs.Tree.{Covers}
use Rattle.room_index.specs.Filed.{IsLeafOf}
use Rattle.room_index.specs.Names.{AreKnown, Held, Names, Keeps, Enters, Loses}
use Rattle.mask_table.specs.Counts.{count_of}
use Rattle.std.specs.FinMap.{remove}

-- a pair's number tells both
pub same_pair : (key rank other least : ℕ) → rank ≤ 33 → least ≤ 33 → pair key rank ≡ pair other least → (key ≡ other) × (rank ≡ least)
same_pair key rank other least fits too is = (omega arith, omega arith)

-- a pair of the address' key at a rank covers it
covered : {V : Type 0} (address rank : ℕ) (x : Placed V) → HasPair (masked rank address) rank x → Covers address x.entry
unfolding Covers
covered address rank x has = search (arith, masked_agrees)

module _ {V : Type 0} {m : Lodged V} {root : Node} (w : IsWhole m root) where
  -- a room that has a pair has a route of it in the tree
  pub record PlaceRoute (n : ℕ) (place : Ptr × ℕ) : Type 0 where
    pub route : Placed V
    pub is_in : IsIn route w.part.tree
    pub number : number_of route.room ≡ n
    pub block : route.room.block ≡ place.0
    pub pair_is : pair route.entry.key route.entry.rank ≡ place.1
    pub fits : route.entry.rank ≤ 33

  said_route : (n : ℕ) (o : Option (LeafPart V)) → leaves_in m n ≡ o → {place : Ptr × ℕ} → place_of o ≡ Some place → PlaceRoute n place
  said_route n None said at = absurd (none_some at)
  said_route n (Some p) said at =
      let r = whole_route w n said in
      let place = inside at in
      record {
        route = r.route;
        is_in = r.is_in;
        number = r.number;
        block = r.block ∙ ap (λ q. q.0) place;
        pair_is = ap (λ e. pair e.key e.rank) r.entry ∙ ap (λ q. q.1) place;
        fits = (tree_route w.part.low w.part.tree w.part.is r.route r.is_in).rank;
      }

  pub place_route : (n : ℕ) {place : Ptr × ℕ} → places_in m n ≡ Some place → PlaceRoute n place
  place_route n at = said_route n (leaves_in m n) refl at

  -- all that cover the address have one of these ranks, below that number
  abbrev pub AreLeft : ℕ → ℕ → ℕ → Type 0
  AreLeft address left ranks = (y : Placed V) → IsIn y w.part.tree → Covers address y.entry → (y.entry.rank < left) × HasRank ranks y.entry.rank

module _ {V : Type 0} {m : Lodged V} {root : Node} (w : IsWhole m root) {h : Held} (is : Indexes h m) where
  -- a pair's room has the route of the pair
  pub named_in : (key rank : ℕ) {room : Id} → rank ≤ 33 → Names h (pair key rank) room → Tells (Finds (HasPair key rank) (In w.part)) (Some room)
  named_in key rank {room} fits named =
      let r = place_route w (number_of room) (is.found (pair key rank) room named) in
      let block = r.block in
      (r.route, λ j. record { block = block j }, (r.is_in, same_pair r.route.entry.key r.route.entry.rank key rank r.fits fits r.pair_is))

  -- and a pair that has none, where the index is whole, is no route's
  pub named_none : (key rank : ℕ) → h.whole ≡ true → ((room : Id) → Names h (pair key rank) room → ⊥) → (x : Placed V) → IsIn x w.part.tree → HasPair key rank x → ⊥
  named_none key rank all none x at has =
      let s = tree_said (leaves_in m) (bits_in m) w.part.above w.part.tree w.part.stands x at in
      let room = is.all all (number_of x.room) (x.room.block, pair key rank) (ap place_of s.3 ∙ λ j. Some (x.room.block, pair (has.0 j) (has.1 j))) in
      none room.0 room.1

  -- so what it has for a pair is what is found in the tree
  pub named_pair : (key rank : ℕ) → rank ≤ 33 → h.whole ≡ true → (o : Option Id)
      → MatchOption o ((room : Id) → Names h (pair key rank) room → ⊥) (λ room. Names h (pair key rank) room) → Tells (Finds (HasPair key rank) (In w.part)) o
  named_pair key rank fits all None none = λ x at has. named_none key rank all none x at has
  named_pair key rank fits all (Some room) found = named_in key rank fits found

  -- ---- the best route of an address, by falling ranks
  -- a route that covers the address has the address' key, masked by its rank
  own_key : (address : ℕ) (x : Placed V) → IsRoute x.entry → Covers address x.entry → masked x.entry.rank address ≡ x.entry.key
  unfolding Covers
  own_key address x route covers = sym ((agrees_where_masked_equal x.entry.rank x.entry.key address).0 covers) ∙ route.key

  -- a rank of which none is held is no route's
  no_route : (counts : List ℕ) (rank : ℕ) → rank ≤ 33 → AreCounted counts (shown m (Some root)) → count_of rank counts ≡ 0 → (y : Placed V) → IsIn y w.part.tree
      → y.entry.rank ≡ rank → ⊥
  no_route counts rank fits counted none y at same =
      let stands = stands_in w.part.low w.part.tree w.part.is y at in
      let held = not_held counts (shown m (Some root)) y.entry.key rank {has = false} counted fits (λ some. absurd (omega (arith, some, none))) refl in
      none_some (sym held ∙ ap (entry_at y.entry.key rank) (shown_is w) ∙ ap (λ r. entry_at y.entry.key r (routes_of w.part.tree)) (sym same) ∙ stands)

  -- at the beginning all ranks of which a route is held
  pub all_left : (counts : List ℕ) (address ranks : ℕ) → AreCounted counts (shown m (Some root))
      → ((rank : ℕ) → rank ≤ 33 → HasRank ranks rank ↔ (0 < count_of rank counts)) → AreLeft w address 34 ranks
  all_left counts address ranks counted has y at covers =
      let fits = (tree_route w.part.low w.part.tree w.part.is y at).rank in
      elim (cases_eq (count_of y.entry.rank counts) 0) [
        | inl none ↦ absurd (no_route counts y.entry.rank fits counted none y at refl)
        | inr some ↦ (omega arith, (has y.entry.rank fits).1 (omega arith))
      ]

  module _ (address left ranks : ℕ) (most : left ≤ 34) (are : AreLeft w address left ranks) where
    -- those that are left have at most the greatest rank below
    pub ranks_below : {rank : ℕ} → ((r : ℕ) → rank < r → r < left → HasRank ranks r → ⊥) → (y : Placed V) → IsIn y w.part.tree → Covers address y.entry
        → y.entry.rank ≤ rank
    ranks_below {rank} none y at covers = search arith

    -- where there is none, none is left
    pub no_rank : ((r : ℕ) → r < left → HasRank ranks r → ⊥) → Best address 0 34 (In w.part) None
    no_rank none y at covers below = let own = are y at covers in absurd (none y.entry.rank own.0 own.1)

    -- what is found at that rank is the best route
    pub rank_hit : {rank key : ℕ} {room : Id} → rank < left → ((r : ℕ) → rank < r → r < left → HasRank ranks r → ⊥) → key ≡ masked rank address
        → Names h (pair key rank) room → Tells (Best address 0 34 (In w.part)) (Some room)
    rank_hit {rank} {key} next none masks named =
        let f = named_in key rank (omega arith) named in
        let covers = covered address rank f.0 (f.2.1.0 ∙ masks, f.2.1.1) in
        (f.0, f.1, (f.2.0, covers, λ y at covering below. omega (arith, ranks_below none y at covering, f.2.1.1)))

    -- where none is, those below that rank are left
    pub rank_miss : {rank key : ℕ} → ((r : ℕ) → rank < r → r < left → HasRank ranks r → ⊥) → key ≡ masked rank address → h.whole ≡ true
        → ((room : Id) → Names h (pair key rank) room → ⊥) → AreLeft w address rank ranks
    rank_miss {rank} {key} none masks all unnamed y at covers = elim (cases_eq y.entry.rank rank) [
      | inl same ↦
          let own = own_key address y (tree_route w.part.low w.part.tree w.part.is y at) covers in
          absurd (named_none key rank all unnamed y at (sym own ∙ ap (λ r. masked r address) same ∙ sym masks, same))
      | inr other ↦ (omega (arith, ranks_below none y at covers), (are y at covers).1)
    ]

    -- and of these each rank at which the index has the address' key
    pub ranks_kept : (fewer : ℕ) → h.whole ≡ true
        → ((rank : ℕ) (room : Id) → rank ≤ 33 → Names h (pair (masked rank address) rank) room → HasRank ranks rank → HasRank fewer rank) → AreLeft w address left fewer
    ranks_kept fewer all kept y at covers =
        let route = tree_route w.part.low w.part.tree w.part.is y at in
        let s = tree_said (leaves_in m) (bits_in m) w.part.above w.part.tree w.part.stands y at in
        let named = is.all all (number_of y.room) (y.room.block, pair y.entry.key y.entry.rank) (ap place_of s.3) in
        let own = are y at covers in
        (own.0, kept y.entry.rank named.0 route.rank (subst (λ k. Names h (pair k y.entry.rank) named.0) (sym (own_key address y route covers)) named.1) own.1)

-- -------- an index follows the routes of a table's rooms
-- what an index found is a room that it has
pub found_named : (h : Held) (k : ℕ) (o : Option Id) → is_some o ≡ true → MatchOption o ((room : Id) → Names h k room → ⊥) (λ room. Names h k room)
    → (room : Id) × Names h k room
found_named h k o some found = search arith

module _ {V : Type 0} where
  -- a room that has a pair has it as a leaf
  leaf_of_pair : {m : Lodged V} {room : Id} {k : ℕ} (o : Option (Seen V)) → get m (number_of room) ≡ o → place_of (leaf_in o) ≡ Some (room.block, k)
      → IsLeafOf m (record { pair = k; room = room })
  leaf_of_pair None at is = absurd (none_some is)
  leaf_of_pair (Some s) at is = let place = inside is in record { seen = s; at = at; block = ap (λ q. q.0) place; pair = ap (λ q. q.1) place }

  -- so the rooms that an index names tell their pairs
  pub rooms_known : {h : Held} {m : Lodged V} → Indexes h m → AreKnown (IsLeafOf m) h
  rooms_known {m = m} is = λ k room named. leaf_of_pair (get m (number_of room)) refl (is.found k room named)

  -- the rooms have the routes that they had
  pub same_index : (h : Held) (m new : Lodged V) → ((n : ℕ) → places_in new n ≡ places_in m n) → Indexes h m → Indexes h new
  same_index h m new keeps is = record {
    found = λ k room names. keeps (number_of room) ∙ is.found k room names;
    all = λ whole n place at. is.all whole n place (sym (keeps n) ∙ at);
  }

  -- so the table is kept where no room has changed, and the index has what it had
  pub kept_reserved : (i j : Held) (nodes now : Rooms V) {root : Option Node} {counts : List ℕ} {given : List (ℕ × ℕ)} {last : ℕ}
      → IsKept nodes root counts i given last → j ≡ i → now ≡ nodes → IsKept now root counts j given last
  kept_reserved i j nodes now {root} {counts} {given} {last} kept same stays = search arith

  pub index_begun : (i : Held) (nodes next : Rooms V) → IsNext nodes next → Indexes i nodes.lodged → Indexes i next.lodged
  index_begun i nodes next begins is = subst (λ r. Indexes i r.lodged) (sym begins) is

  -- an index that has what it had, or that was given up
  pub index_keeps : (i j : Held) (m : Lodged V) → Keeps i j → Indexes i m → Indexes j m
  index_keeps i j m keeps is = record {
    found = λ k room names. is.found k room (keeps.fewer k room names);
    all = λ whole n place at.
        let kept = keeps.kept whole in
        let r = is.all kept.0 n place at in (r.0, kept.1 place.1 r.0 r.1, r.2);
  }

  -- so the table is kept where no room has changed
  pub kept_keeps : (i j : Held) (nodes now : Rooms V) {root : Option Node} {counts : List ℕ} {given : List (ℕ × ℕ)} {last : ℕ}
      → IsKept nodes root counts i given last → Keeps i j → now.lodged ≡ nodes.lodged → IsKept now root counts j given last
  kept_keeps i j nodes now {root} {counts} {given} {last} kept keeps stays = search (arith, index_keeps)

  -- ---- a route comes
  -- no room has a pair that the table has not
  pub absent_place : (m : Lodged V) (root : Option Node) (key rank : ℕ) → rank ≤ 33 → Holds m root → entry_at key rank (shown m root) ≡ None → (n : ℕ) (b : _)
      → places_in m n ≡ Some (b, pair key rank) → ⊥
  absent_place m None key rank fits holds none n b at = grind (arith, holds n)
  absent_place m (Some root) key rank fits w none n b at =
      let r = place_route w n at in
      let there = pair_there w key rank r.route r.is_in (same_pair r.route.entry.key r.route.entry.rank key rank r.fits fits r.pair_is) in
      true≢false (sym (subst IsSome none there))

  -- and the table has each pair that the index has a room for
  pub named_there : (h : Held) (m : Lodged V) (root : Option Node) (key rank : ℕ) → rank ≤ 33 → Holds m root → Indexes h m → (room : Id) → Names h (pair key rank) room
      → (o : Option (Entry V)) → entry_at key rank (shown m root) ≡ o → IsSome o
  named_there h m root key rank fits holds is room named None at = absurd
      (absent_place m root key rank fits holds at (number_of room) room.block (is.found (pair key rank) room named))
  named_there h m root key rank fits holds is room named (Some e) at = refl

  module _ (i j : Held) (m new : Lodged V) (room : Id) (e : Entry V) (is : Indexes i m) (takes : Enters i j (pair e.key e.rank) room)
      (free : places_in m (number_of room) ≡ None) (more : HasPlaceMore m new room e) where
    abbrev own : ℕ
    own = pair e.key e.rank

    -- the new room, and what each other one had
    here : (n : ℕ) → n ≡ number_of room → places_in new n ≡ Some (room.block, own)
    here n same = more n ∙ ap (λ t. if t then Some (room.block, own) else places_in m n) (eq-eqb n (number_of room) same)

    there : (n : ℕ) → (n ≡ number_of room → ⊥) → places_in new n ≡ places_in m n
    there n other = more n ∙ ap (λ t. if t then Some (room.block, own) else places_in m n) (ne_eqb n (number_of room) other)

    still : (k : ℕ) (r : Id) → Names i k r → places_in new (number_of r) ≡ Some (r.block, k)
    still k r names =
        let had = is.found k r names in
        there (number_of r) (λ same. none_some (sym free ∙ ap (places_in m) (sym same) ∙ had)) ∙ had

    found_more : (k : ℕ) (r : Id) → Names j k r → places_in new (number_of r) ≡ Some (r.block, k)
    found_more k r names = elim (takes.only k r names) [
      | inl own ↦ subst (λ s. places_in new (number_of s) ≡ Some (s.block, k)) (sym own.1)
          (here (number_of room) refl ∙ ap (λ q. Some (room.block, q)) (sym own.0))
      | inr had ↦ still k r had
    ]

    all_more : j.whole ≡ true → (n : ℕ) (place : Ptr × ℕ) → places_in new n ≡ Some place → (r : Id) × Names j place.1 r × (number_of r ≡ n)
    all_more whole n place at = search (arith, inside, here, there)

    pub index_more : Indexes j new
    index_more = record { found = found_more; all = all_more }

  -- ---- a route goes
  -- the room of a pair that was found
  pub found_place : {m : Lodged V} {root : Node} {key rank : ℕ} {room : Id} → IsFound m root key rank room
      → places_in m (number_of room) ≡ Some (room.block, pair key rank)
  found_place f = search arith

  module _ (i h j : Held) (m new : Lodged V) (at : Id) (k : ℕ) (is : Indexes i m) (loses : Loses i h k)
      (once : (r s : Id) → Names i k r → Names i k s → r ≡ s) (had : places_in m (number_of at) ≡ Some (at.block, k)) (less : HasPlaceLess m new at) where
    out : (n : ℕ) → n ≡ number_of at → places_in new n ≡ None
    out n same = less n ∙ ap (λ t. if t then None else places_in m n) (eq-eqb n (number_of at) same)

    left : (n : ℕ) → (n ≡ number_of at → ⊥) → places_in new n ≡ places_in m n
    left n other = less n ∙ ap (λ t. if t then None else places_in m n) (ne_eqb n (number_of at) other)

    found_less : (q : ℕ) (r : Id) → Names h q r → places_in new (number_of r) ≡ Some (r.block, q)
    found_less q r names =
        let f = loses.fewer q r names in
        let was = is.found q r f.0 in
        left (number_of r) (λ same. f.1 (ap (λ p. p.1) (inside (sym was ∙ ap (places_in m) same ∙ had)))) ∙ was

    all_less : h.whole ≡ true → (n : ℕ) (place : Ptr × ℕ) → places_in new n ≡ Some place → (r : Id) × Names h place.1 r × (number_of r ≡ n)
    all_less whole n place stands =
        let kept = loses.kept whole in
        let other : n ≡ number_of at → ⊥ = λ same. none_some (sym (out n same) ∙ stands) in
        let r = is.all kept.0 n place (sym (left n other) ∙ stands) in
        let o = is.all kept.0 (number_of at) (at.block, k) had in
        let not_k : place.1 ≡ k → ⊥ = λ same. other (sym r.2 ∙ ap number_of (once r.0 o.0 (subst (λ q. Names i q r.0) same r.1) o.1) ∙ o.2) in
        (r.0, kept.1 place.1 r.0 not_k r.1, r.2)

    -- the rest is found by it, or where there is none it begins anew
    pub index_less : (o : Option Node) → Holds new o → IfSome o (λ node. j ≡ h) → IfNone o ((q : ℕ) (r : Id) → Names j q r → ⊥) → Indexes j new
    index_less (Some node) holds rest none = subst (λ g. Indexes g new) (sym rest) (record { found = found_less; all = all_less })
    index_less None holds rest none = record {
      found = λ q r names. absurd (none q r names);
      all = λ whole n place stands. absurd (none_some (sym (ap place_of (holds n)) ∙ stands));
    }

  -- -------- what rooms have as leaves, their blocks and pairs, while their links change
  -- ---- the links of leaves are no part of it
  content_place : (o p : Option (LeafPart V)) → content_of o ≡ content_of p → place_of o ≡ place_of p
  content_place o p is = search arith

  -- ---- a route comes into a room
  pub lodged_place : (room : Id) (value : V) (leaf : Leaf) (n : ℕ) (o : Option (LeafPart V)) → place_of (lodge_leaf room value leaf n o)
      ≡ with_place room (pair leaf.key leaf.rank) n (place_of o)
  lodged_place room value leaf n o = grind arith

  pub linked_place : (room : Id) (value : V) (leaf : Leaf) (n : ℕ) (o : Option (LeafPart V)) → place_of (link_in room value leaf n o)
      ≡ with_place room (pair leaf.key leaf.rank) n (place_of o)
  linked_place room value leaf n o =
      content_place (link_in room value leaf n o) (lodge_leaf room value leaf n o) (search (arith, back_same, next_same))
      ∙ lodged_place room value leaf n o

  -- ---- rooms keep their routes
  -- but one that is out of the map
  pub less_places : (m now : Lodged V) (at : Id) → KeepsRoutes m now → HasPlaceLess m (remove now (number_of at)) at
  less_places m now at keeps n = search (arith, cases_eq, get_out, get_other)
