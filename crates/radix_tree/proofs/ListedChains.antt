-- A walk along a chain whose masks are listed one after the other.
use Rattle.radix_tree.proofs.{ChainGaps.head_said, ChainGaps.member_of, MaskWalks.ranks_from, Scans.ended_at, Parts.among_leaf, Parts.way_leads}
use Rattle.radix_tree.proofs.{Parts.way_to_leaf, HomeLists.placed_in, HomeLists.chain_of, HomeLists.in_chain, Listed.settled, WholeChanges.later_than}
use Rattle.radix_tree.proofs.{RoomReads.AreLinks, RoomReads.Has-leaf, RoomReads.leaf_read}
use Rattle.radix_tree.proofs.TreeMembers.{whole_route, of_key, IsHead, head_of, tree_said}
use Rattle.radix_tree.proofs.Words.{◌≡◌, ℕ, ◌<◌, ◌≤◌, ◌==◌, Bool, true, not, ◌&&◌, List, Option, Some, None, sym, ap, ◌∙◌, subst, arith, is_some, Has, leaf_of}
use Rattle.radix_tree.proofs.Words.{mask_node_of, Id, Leaf, Links, MaskNode, Node, Placed, IsAmong, IsIn, IsChain, LeafPart, Leaves, Part, Run, leaves_in}
use Rattle.radix_tree.proofs.Words.{masks_in, mask_part, first_room, ChainStands, KeepsLeaves, IsWholeBut, has_key, nobody_out, Lodged, number_of, inside}
use Rattle.radix_tree.proofs.Words.{none_some}

and_left : (a b : Bool) → (a && b) ≡ true → a ≡ true
and_left a b both = search arith

both_true : (a b : Bool) → a ≡ true → (b ≡ true → ⊥) → (a && not b) ≡ true
both_true a b is other = search arith

module _ {V : Type 0} where
  -- ---- one room
  module _ {m : Lodged V} {room : Id} (h : Has m room) where
    mask_said : (links : Links) → AreLinks m room links → masks_in m (number_of room) ≡ mask_part h.room.block (mask_node_of links)
    mask_said links are = search arith

    pub mask_none : (links : Links) → AreLinks m room links → mask_node_of links ≡ None → masks_in m (number_of room) ≡ None
    mask_none links are none = mask_said links are ∙ ap (mask_part h.room.block) none

    mask_some : (links : Links) (n : MaskNode) → AreLinks m room links → mask_node_of links ≡ Some n → is_some (masks_in m (number_of room)) ≡ true
    mask_some links n are some = ap is_some (mask_said links are ∙ ap (mask_part h.room.block) some)

    -- a room whose mask is listed is not late
    pub listed_late : {root : Node} (late : ℕ → Bool) (w : IsWholeBut m root late nobody_out) (links : Links) (n : MaskNode) → AreLinks m room links
        → mask_node_of links ≡ Some n → IsWholeBut m root (λ k. late k && not (k == number_of room)) nobody_out
    listed_late late w links n are some = settled w room (search (arith, mask_some))

  -- ---- how far the walk has to go: one more than the rank of the route that it has come to
  left_same : (L M : Leaves V) (at : Option Id) → ((n : ℕ) → L n ≡ M n) → ranks_from L at ≡ ranks_from M at
  left_same L M at same = search arith

  chain_left : (L : Leaves V) (above previous : Option Id) (key top : ℕ) (c : List (Placed V)) → IsChain key top c → ChainStands L above previous c
      → ranks_from L (first_room c) ≤ top
  chain_left L above previous key top c is stands = search arith

  -- ---- the walk
  -- in the rooms of m, whose leaves the rooms of now have too: what is left of the chain of a key; all routes of this
  -- key that may be late are there
  pub record Left (m now : Lodged V) (root : Node) (late : ℕ → Bool) (key : ℕ) (at : Option Id) : Type 0 where
    pub later : ℕ → Bool
    pub whole : IsWholeBut now root later nobody_out
    pub rest : Run m
    pub begins : first_room rest.members ≡ at
    pub less : (n : ℕ) → later n ≡ true → late n ≡ true
    pub behind : (n : ℕ) → later n ≡ true → has_key m key n ≡ true → (x : Placed V) × IsAmong x rest.members × (number_of x.room ≡ n)

  -- ---- its begin
  key_said : (m : Lodged V) (p : Part m) (y : Placed V) (q : LeafPart V) {n : ℕ} → IsIn y p.tree → number_of y.room ≡ n → leaves_in m n ≡ Some q
      → (q.leaf.key ≡ y.entry.key) × (q.block ≡ y.room.block)
  key_said m p y q is same said = search (arith, tree_said, inside)

  -- a route of the key stands in its chain
  in_its_chain : (m : Lodged V) {root : Node} {late : ℕ → Bool} (w : IsWholeBut m root late nobody_out) (y : Placed V) (is : IsIn y w.part.tree) (n : ℕ)
      → has_key m y.entry.key n ≡ true → (x : Placed V) × IsAmong x (chain_of w.part y is).members × (number_of x.room ≡ n)
  in_its_chain m w y is n has =
      let q = of_key y.entry.key (leaves_in m n) has in
      let x = whole_route w n q.1 in
      let f = way_to_leaf m w.part y is in
      (x.route, among_leaf f.at x.route (way_leads m w.part f.part f.ups f.way x.route x.is_in (ap (λ e. e.key) x.entry ∙ q.2)), x.number)

  -- a route that names none before it is the first of its chain
  begins_at : (m : Lodged V) (whole : Part m) (y : Placed V) (is : IsIn y whole.tree) (p : LeafPart V) → leaves_in m (number_of y.room) ≡ Some p
      → p.leaf.previous ≡ None → first_room (chain_of whole y is).members ≡ Some y.room
  begins_at m whole y is p said none =
      let c = chain_of whole y is in
      let k = member_of (leaves_in m) c.above None c.key c.top c.members c.is c.stands y (in_chain whole y is) in
      search (arith, inside, none_some)

  pub begun : {m : Lodged V} {root : Node} (late : ℕ → Bool) (first : Id) (p : LeafPart V) → IsWholeBut m root late nobody_out
      → leaves_in m (number_of first) ≡ Some p → p.block ≡ first.block → p.leaf.previous ≡ None → Left m m root late p.leaf.key (Some first)
  begun {m = m} late first p w said block none =
      let y = placed_in w (Has-leaf m first said block) in
      let key = (key_said m w.part y.0 p y.1 (ap (λ i. (number_of i)) y.2) said).0 in
      record {
        later = late;
        whole = w;
        rest = chain_of w.part y.0 y.1;
        begins = begins_at m w.part y.0 y.1 p (ap (λ i. leaves_in m (number_of i)) y.2 ∙ said) none ∙ ap Some y.2;
        less = λ n is_late. is_late;
        behind = λ n is_late has. in_its_chain m w y.0 y.1 n (subst (λ k. has_key m k n ≡ true) key has);
      }

  -- ---- at a member
  pub head_at : {m now : Lodged V} {root : Node} {late : ℕ → Bool} {key : ℕ} {at : Option Id} {room : Id} (l : Left m now root late key at) → at ≡ Some room
      → IsHead l.rest.members room
  head_at l is = head_of l.rest.members (l.begins ∙ is)

  pub Has-at : {m now : Lodged V} (new : Lodged V) {root : Node} {late : ℕ → Bool} {key : ℕ} {at : Option Id} {room : Id}
      → Left m now root late key at → KeepsLeaves m new → at ≡ Some room → Has new room
  Has-at {m = m} new {room = room} l kept is =
      let x = head_at l is in Has-leaf new room (kept (number_of room) ∙ head_said m l.rest.above l.rest.previous x l.rest.stands) (ap (λ i. i.block) x.room_is)

  next_read : (m new : Lodged V) (rest : Run m) (room : Id) (links : Links) (l : Leaf) (x : IsHead rest.members room) → KeepsLeaves m new
      → AreLinks new room links → l ≡ leaf_of links → l.next ≡ first_room x.behind
  next_read m new rest room links l x kept are leaf = search (arith, leaf_read, head_said)

  abbrev run_behind : (m : Lodged V) (rest : Run m) {room : Id} → IsHead rest.members room → Run m
  run_behind m rest x = record {
    members = x.behind;
    key = rest.key;
    top = x.first.entry.rank;
    above = None;
    previous = Some x.first.room;
    is = (subst (IsChain rest.key rest.top) x.is rest.is).3;
    stands = (subst (ChainStands (leaves_in m) rest.above rest.previous) x.is rest.stands).1;
  }

  pub passed : {m now new : Lodged V} {root : Node} {late : ℕ → Bool} {key : ℕ} {at : Option Id} (room : Id) (links : Links) {f : Leaf}
      (l : Left m now root late key at) → at ≡ Some room → KeepsLeaves m new → AreLinks new room links → f ≡ leaf_of links
      → IsWholeBut new root (λ n. l.later n && not (n == number_of room)) nobody_out → Left m new root late key f.next
  passed {m = m} {new = new} room links {f = f} l is kept are leaf whole =
      let x = head_at l is in
      record {
        later = λ n. l.later n && not (n == number_of room);
        whole = whole;
        rest = run_behind m l.rest x;
        begins = sym (next_read m new l.rest room links f x kept are leaf);
        less = search (arith, and_left);
        behind = λ n is_late has.
            let y = l.behind n (and_left (l.later n) (not (n == number_of room)) is_late) has in
            (y.0, search arith, y.2);
      }

  pub nearer : (m now new : Lodged V) {root : Node} {late : ℕ → Bool} {key : ℕ} {at : Option Id} (room : Id) (links : Links) {f : Leaf}
      (l : Left m now root late key at) → at ≡ Some room → KeepsLeaves m now → KeepsLeaves m new → AreLinks new room links → f ≡ leaf_of links
      → ranks_from (leaves_in new) f.next < ranks_from (leaves_in now) at
  nearer m now new room links {f = f} l is was kept are leaf = search (arith, head_at, next_read, chain_left, head_said, left_same)

  -- ---- its end
  pub ended : {m now : Lodged V} {root : Node} (late : ℕ → Bool) (key : ℕ) {at : Option Id} → Left m now root late key at → at ≡ None
      → IsWholeBut now root (λ n. late n && not (has_key m key n)) nobody_out
  ended {m = m} late key l is = later_than (λ n. late n && not (has_key m key n)) (search (arith, both_true, ended_at)) l.whole
