-- What a table's rooms show is found by its searches.
use Rattle.radix_tree.proofs.{RoomReads.Has-leaf_at, RoomReads.AreLinks, RoomReads.Has-leaf, TreeMembers.tree_said, TreeMembers.chain_key}
use Rattle.radix_tree.proofs.{TreeMembers.first_greatest, BestOfTree.tree_is_table, BestOfTree.member_of, BestOfTree.stands_in, WholeRoutes.shown_is}
use Rattle.radix_tree.proofs.{Facts.none_if, Parts.in_leaf, Parts.leaf_run, Parts.way_inside, Parts.way_leads}
use Rattle.radix_tree.proofs.MemberLemmas.{all_contains, entry_at_is_member, first_of_is_member, first_is_greatest, members_stand}
use Rattle.radix_tree.proofs.Words.{inside, none_some, IsSome, ◌≡◌, ℕ, ◌+◌, ◌==◌, Bool, true, false, cond, not, List, [], ◌∷◌, Option, Some, None, refl, sym}
use Rattle.radix_tree.proofs.Words.{ap, ◌∙◌, subst, inl, arith, eq-eqb, eqb-true, Contains, AllByRecursion, get, Seen, Rooms, Has, leaf_of, Id, Leaf, Links}
use Rattle.radix_tree.proofs.Words.{Node, Contents, IsTable, entry_at, first_of, Placed, IsAmong, IsIn, IsChain, routes_of, LeafPart, Part, leaves_in, bits_in}
use Rattle.radix_tree.proofs.Words.{leaf_part, Tells, Finds, HasPair, In, LeafAt, LedTo, shown, shown_entry, IsWhole, Holds, Entry, Lodged, true≢false}
use Rattle.radix_tree.proofs.Words.{number_of, AreGiven}
use Rattle.std.proofs.lemmas.Bool.{not-false}

-- what a comparison tells
pub differ : (a b : ℕ) {t : Bool} → t ≡ not (a == b) → t ≡ true → a ≡ b → ⊥
differ a b is holds e = true≢false (sym holds ∙ is ∙ ap not (eq-eqb a b e))

pub agree : (a b : ℕ) {t : Bool} → t ≡ not (a == b) → t ≡ false → a ≡ b
agree a b is fails = eqb-true a b (not-false (a == b) (sym is ∙ fails))

module _ {V : Type 0} where
  pub shown_table : (m : Lodged V) (root : Option Node) → Holds m root → IsTable (shown m root)
  shown_table m None holds = tt
  shown_table m (Some root) w = grind (arith, shown_is, tree_is_table)

  -- what a route's room says
  pub record IsSaid (m : Lodged V) (room : Id) (x : Placed V) : Type 0 where
    pub part : LeafPart V
    pub at : leaves_in m (number_of room) ≡ Some part
    pub block : part.block ≡ room.block
    pub entry : shown_entry part ≡ x.entry

  pub said_of : (m : Lodged V) (p : Part m) {room : Id} (x : Placed V) → IsIn x p.tree → x.room ≡ room → IsSaid m room x
  said_of m p x at room_is =
      let said = tree_said (leaves_in m) (bits_in m) p.above p.tree p.stands x at in
      record {
        part = leaf_part x said.0 said.1 said.2;
        at = ap (λ i. leaves_in m (number_of i)) (sym room_is) ∙ said.3;
        block = ap (λ i. i.block) room_is;
        entry = refl;
      }

  -- ---- a pair
  -- the room in which the pair was found
  pub record IsFound (m : Lodged V) (root : Node) (key rank : ℕ) (room : Id) : Type 0 where
    pub route : Placed V
    pub said : IsSaid m room route
    pub has : HasPair key rank route
    pub entry : entry_at key rank (shown m (Some root)) ≡ Some route.entry

  pub Has-found : (m : Lodged V) {root : Node} {key rank : ℕ} {room : Id} → IsFound m root key rank room → Has m room
  Has-found m {room = room} f = Has-leaf m room f.said.at f.said.block

  stands_at : (es : List (Entry V)) {key rank : ℕ} {e : Entry V} → entry_at e.key e.rank es ≡ Some e → e.key ≡ key → e.rank ≡ rank
      → entry_at key rank es ≡ Some e
  stands_at es {rank = rank} {e = e} stands k r = search

  pub found : {m : Lodged V} {root : Node} (w : IsWhole m root) (key rank : ℕ) {o : Option Id} {room : Id} → o ≡ Some room
      → Tells (Finds (HasPair key rank) (In w.part)) o → IsFound m root key rank room
  found {m = m} w key rank {o = o} some tells =
      let told = subst (λ o. Tells (Finds (HasPair key rank) (In w.part)) o) some tells in
      record {
        route = told.0;
        said = said_of m w.part told.0 told.2.0 told.1;
        has = told.2.1;
        entry = ap (entry_at key rank) (shown_is w)
            ∙ stands_at (routes_of w.part.tree) (stands_in w.part.low w.part.tree w.part.is told.0 told.2.0) told.2.1.0 told.2.1.1;
      }

  pub not_found : {m : Lodged V} {root : Node} (w : IsWhole m root) (key rank : ℕ) {o : Option Id} → o ≡ None → Tells (Finds (HasPair key rank) (In w.part)) o
      → entry_at key rank (shown m (Some root)) ≡ None
  not_found {m = m} {root = root} w key rank {o = o} none tells =
      let told = subst (λ o. Tells (Finds (HasPair key rank) (In w.part)) o) none tells in
      none_if (entry_at key rank (shown m (Some root))) (λ e is.
      let member = entry_at_is_member key rank (routes_of w.part.tree) e (ap (entry_at key rank) (sym (shown_is w)) ∙ is) in
      let of = member_of w.part.tree e member.0 in
      told of.0 of.1 (ap (λ e. e.key) of.2 ∙ member.1.0, ap (λ e. e.rank) of.2 ∙ member.1.1))

  -- its value
  pub value_found : {m : Lodged V} {root : Node} {key rank : ℕ} {room : Id} (f : IsFound m root key rank room) (value : V)
      → ((s : Seen V) → get m (number_of room) ≡ Some s → value ≡ s.value) → Some (record { key = key; rank = rank; value = value })
      ≡ entry_at key rank (shown m (Some root))
  value_found {m = m} {key = key} {rank = rank} {room = room} f value is = grind arith

  -- ---- the first route of a key
  module _ {m : Lodged V} {address : ℕ} {whole : Part m} {room : Id} (l : LedTo address whole room) where
    pub Has-led : Has m room
    Has-led = Has-leaf_at l.leaf

    pub led_first : IsSaid m room l.leaf.first
    led_first = said_of m l.part l.leaf.first (in_leaf l.leaf l.leaf.first (inl refl)) l.leaf.room_is

  led_inside : (m : Lodged V) (key : ℕ) (whole : Part m) {room : Id} (l : LedTo key whole room) → IsIn l.leaf.first whole.tree
  led_inside m key whole l = way_inside m key whole l.part l.ups l.way l.leaf.first (in_leaf l.leaf l.leaf.first (inl refl))

  pub leaf_is : (m : Lodged V) (room : Id) {x : Placed V} (s : IsSaid m room x) (links : Links) {l : Leaf} → AreLinks m room links → l ≡ leaf_of links
      → (l.key ≡ x.entry.key) × (l.rank ≡ x.entry.rank)
  leaf_is m room s links are leaf = grind arith

  pub leaf_key : (m : Lodged V) {address : ℕ} {whole : Part m} {room : Id} (d : LedTo address whole room) (links : Links) {l : Leaf} → AreLinks m room links
      → l ≡ leaf_of links → l.key ≡ d.leaf.first.entry.key
  leaf_key m {room = room} d links are leaf = (leaf_is m room (led_first d) links are leaf).0

  -- each route of the key is of the chain to which it leads
  of_chain : (m : Lodged V) {key : ℕ} (whole : Part m) {room : Id} (l : LedTo key whole room) (y : Placed V) → IsIn y whole.tree → y.entry.key ≡ key
      → IsAmong y (l.leaf.first ∷ l.leaf.rest)
  of_chain m whole l y at is = grind (arith, way_leads)

  same_of_pair : (es : List (Entry V)) (e f : Entry V) → entry_at e.key e.rank es ≡ Some e → entry_at f.key f.rank es ≡ Some f → e.key ≡ f.key
      → e.rank ≡ f.rank → e ≡ f
  same_of_pair es e f at_e at_f k r = inside (sym (stands_at es at_e k r) ∙ at_f)

  chain_of : (m : Lodged V) {p : Part m} {room : Id} (f : LeafAt p room) → IsChain f.first.entry.key 34 (f.first ∷ f.rest)
  chain_of m f = (leaf_run m f).is

  -- the first route of the key is the first of that chain
  some_first : (m : Lodged V) {root : Node} (w : IsWhole m root) (key : ℕ) {room : Id} (l : LedTo key w.part room) (e : Entry V)
      → first_of key (routes_of w.part.tree) ≡ Some e → (l.leaf.first.entry.key ≡ key) × (e ≡ l.leaf.first.entry)
  some_first m w key l e is =
      let es = routes_of w.part.tree in
      let x = l.leaf.first in
      let table = tree_is_table w.part.low w.part.tree w.part.is in
      let chain = chain_of m l.leaf in
      let member = first_of_is_member key es e is in
      let of = member_of w.part.tree e member.0 in
      let own = of_chain m w.part l of.0 of.1 (ap (λ e. e.key) of.2 ∙ member.1) in
      let key_is = sym (chain_key x.entry.key 34 (x ∷ l.leaf.rest) chain of.0 own) ∙ ap (λ e. e.key) of.2 ∙ member.1 in
      let stands = stands_in w.part.low w.part.tree w.part.is x (led_inside m key w.part l) in
      let high = first_is_greatest key es e x.entry table is ((members_stand es x.entry table).0 stands) key_is in
      let rank_is : e.rank ≡ x.entry.rank = omega (arith, first_greatest x.entry.key 34 x l.leaf.rest chain of.0 own, ap (λ e. e.rank) of.2) in
      (key_is, same_of_pair es e x.entry ((members_stand es e table).1 member.0) stands (member.1 ∙ sym key_is) rank_is)

  -- where the chain's key is another, no route has the key
  pub no_first : (m : Lodged V) (root : Node) (w : IsWhole m root) (key : ℕ) {room : Id} (l : LedTo key w.part room) (links : Links) (leaf : Leaf)
      → AreLinks m room links → leaf ≡ leaf_of links → (leaf.key ≡ key → ⊥) → first_of key (shown m (Some root)) ≡ None
  no_first m root w key {room = room} l links leaf are read differs =
      none_if (first_of key (shown m (Some root))) (λ e is. differs ((leaf_is m room (led_first l) links are read).0
      ∙ (some_first m w key l e (ap (first_of key) (sym (shown_is w)) ∙ is)).0))

  abbrev NoneOf : ℕ → List (Entry V) → Type 0
  NoneOf key es = AllByRecursion (λ (f : Entry V). (f.key == key) ≡ false) es

  none_of_key : (key : ℕ) (es : List (Entry V)) → first_of key es ≡ None → NoneOf key es
  none_of_key key [] none = tt
  none_of_key key (e ∷ es) none =
      elim (e.key == key) as (λ b. (e.key == key) ≡ b → cond b (Some e) (first_of key es) ≡ None → ((e.key == key) ≡ false) × NoneOf key es) [
        | true ↦ λ is some. absurd (none_some (sym some))
        | false ↦ λ is rest. (is, none_of_key key es rest)
      ] refl none

  first_is : (es : List (Entry V)) (key : ℕ) (x : Entry V) → Contains es x → x.key ≡ key → (o : Option (Entry V)) → first_of key es ≡ o
      → ((e : Entry V) → first_of key es ≡ Some e → e ≡ x) → o ≡ Some x
  first_is es key x member is None none own =
      absurd (true≢false (sym (eq-eqb x.key key is) ∙ all_contains (λ (f : Entry V). (f.key == key) ≡ false) es x (none_of_key key es none) member))
  first_is es key x member is (Some e) some own = ap Some (own e some)

  pub first_found : (m : Lodged V) {root : Node} (w : IsWhole m root) (key : ℕ) {room : Id} (l : LedTo key w.part room) (links : Links) (leaf : Leaf)
      (value : V) → AreLinks m room links → leaf ≡ leaf_of links → ((s : Seen V) → get m (number_of room) ≡ Some s → value ≡ s.value) → leaf.key ≡ key
      → first_of key (shown m (Some root)) ≡ Some (record { key = key; rank = leaf.rank; value = value })
  first_found m w key {room = room} l links leaf value are read is same =
      let es = routes_of w.part.tree in
      let x = l.leaf.first in
      let key_is = sym (leaf_is m room (led_first l) links are read).0 ∙ same in
      let table = tree_is_table w.part.low w.part.tree w.part.is in
      let member = (members_stand es x.entry table).0 (stands_in w.part.low w.part.tree w.part.is x (led_inside m key w.part l)) in
      ap (first_of key) (shown_is w) ∙ first_is es key x.entry member key_is (first_of key es) refl (λ e some. (some_first m w key l e some).1)
      ∙ ap Some (grind arith)

  -- ---- a table's own rooms
  pub whole_at : (m : Lodged V) {o : Option Node} {root : Node} → Holds m o → o ≡ Some root → IsWhole m root
  whole_at m holds some = subst (Holds m) some holds

  pub entries_at : (nodes : Rooms V) (o : Option Node) {root : Node} {numbers : List ℕ} {at : ℕ} (t : Contents V)
      → record { entries = shown nodes.lodged o; numbers = numbers; next = at; turn = nodes.turn } ≡ t → o ≡ Some root
      → shown nodes.lodged (Some root) ≡ t.entries
  entries_at nodes o t view some = search

  -- in the turn that begins next
  abbrev pub IsNext : Rooms V → Rooms V → Type 0
  IsNext nodes next = next ≡ record nodes { turn = nodes.turn + 1 }

  pub shown_next : (nodes next : Rooms V) (o : Option Node) {numbers : List ℕ} {at : ℕ} (t : Contents V)
      → record { entries = shown nodes.lodged o; numbers = numbers; next = at; turn = nodes.turn } ≡ t → IsNext nodes next
      → shown next.lodged o ≡ t.entries
  shown_next nodes next o t view begins = grind arith

  pub entries_next : (nodes next : Rooms V) {o : Option Node} {root : Node} {numbers : List ℕ} {at : ℕ} (t : Contents V)
      → record { entries = shown nodes.lodged o; numbers = numbers; next = at; turn = nodes.turn } ≡ t → o ≡ Some root → IsNext nodes next
      → shown next.lodged (Some root) ≡ t.entries
  entries_next nodes next {o = o} t view some begins = grind arith

  pub shown_begun : (nodes next : Rooms V) {o : Option Node} {root : Node} → o ≡ Some root → IsNext nodes next
      → shown next.lodged (Some root) ≡ shown nodes.lodged o
  shown_begun nodes next {o = o} some begins = grind arith

  -- the rooms in use are those of the turn before
  pub given_begun : (nodes next : Rooms V) {given : List (ℕ × ℕ)} {last : ℕ} → IsNext nodes next → AreGiven nodes.lodged given last
      → AreGiven next.lodged given last
  given_begun nodes next {given = given} {last = last} begins are = subst (λ r. AreGiven r.lodged given last) (sym begins) are

  pub whole_next : (nodes next : Rooms V) {o : Option Node} {root : Node} → Holds nodes.lodged o → o ≡ Some root → IsNext nodes next → IsWhole next.lodged
      root
  whole_next nodes next {root = root} holds some begins = grind arith

  -- a pair whose route is in the tree is there
  pub pair_there : {m : Lodged V} {root : Node} (w : IsWhole m root) (key rank : ℕ) (x : Placed V) → IsIn x w.part.tree → HasPair key rank x
      → IsSome (entry_at key rank (shown m (Some root)))
  pair_there w key rank x at has = grind (arith, shown_is, stands_in)
