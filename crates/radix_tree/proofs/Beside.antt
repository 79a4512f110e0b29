-- A route of a new key comes into the tree: what the rooms say afterwards is the tree with it.
use Rattle.radix_tree.proofs.{Exchanging.exchanged, RoomReads.Has-leaf, Parts.fork_stands}
use Rattle.radix_tree.proofs.Facts.{zero_not_one, zero_or_one, off_room, own_room}
use Rattle.radix_tree.proofs.PartRooms.{way_once, spine_out, one_value, zero_fork_is, one_fork_is, lifted, leaves_there, forks_there, frame}
use Rattle.radix_tree.proofs.Words.{◌≡◌, ℕ, ◌<◌, ◌≤◌, List, [], ◌∷◌, Option, Some, None, refl, sym, ap, ◌∙◌, subst, arith, inl, inr, eq-eqb, ne_eqb, Id, Node}
use Rattle.radix_tree.proofs.Words.{LeafOf, BitOf, IsRoute, Placed, Tree, leaf, fork, bit_at, HaveBit, LeafPart, BitPart, Part, leaves_in, bits_in, name_of}
use Rattle.radix_tree.proofs.Words.{Stands, Way, leaves_at, forks_at, name_child, root_after, AreOnce, IsPlace, IsSpot, IsBeside, forked_tree, IsExchange}
use Rattle.radix_tree.proofs.Words.{Exchanged, lift_leaf, lift_bit, Lodged, number_of, none_some, get, Has, BitNode, Leaf, bit_part, ForkAt, IsLodged, forked}
use Rattle.radix_tree.proofs.Words.{placed, lodge_leaf, put_leaf, put_bit, KeepsLeaves, KeepsBits, Entry}

-- a name that is not in a room is not the room's
pub misses_leaf : {A : Type 0} (at : Node) (n : ℕ) → ((room : Id) → at ≡ LeafOf room → n ≡ number_of room → ⊥)
    → (above : Option Id) (said : Option (LeafPart A)) → lift_leaf at above n said ≡ said
misses_leaf at n other above said = search arith

pub misses_bit : (at : Node) (n : ℕ) → ((room : Id) → at ≡ BitOf room → n ≡ number_of room → ⊥) → (above : Option Id) (said : Option BitPart)
    → lift_bit at above n said ≡ said
misses_bit at n other above said = search arith

module _ {V : Type 0} where
  -- the room of a part's name is in the part
  pub named_leaf : (t : Tree V) (room : Id) → name_of t ≡ LeafOf room → 1 ≤ leaves_at (number_of room) t
  named_leaf t room e = search arith

  pub named_bit : (t : Tree V) (room : Id) → name_of t ≡ BitOf room → 1 ≤ forks_at (number_of room) t
  named_bit t room e = search arith

  -- ---- the state before and after
  -- a room of the part isn't the new one
  pub not_new : {m : Lodged V} (p : Part m) (room : Id) → leaves_in m (number_of room) ≡ None → (n : ℕ) → 1 ≤ leaves_at n p.tree → n ≡ number_of room → ⊥
  not_new {m = m} p room none n some same = search (arith, leaves_there)

  pub not_new_bit : {m : Lodged V} (p : Part m) (room : Id) → bits_in m (number_of room) ≡ None → (n : ℕ) → 1 ≤ forks_at n p.tree → n ≡ number_of room → ⊥
  not_new_bit {m = m} p room none n some same = search (arith, forks_there)

  -- the bit node above a part is not in it
  pub not_above : (m : Lodged V) (address : ℕ) (whole at : Part m) (ups : List (Part m)) → Way address whole at ups → whole.above ≡ None → AreOnce whole.tree
      → (to : Node) (n : ℕ) → 1 ≤ forks_at n at.tree → name_child at.above address to n (bits_in m n) ≡ bits_in m n
  not_above m address whole at [] way top once to n some = search arith
  not_above m address whole at (p ∷ ps) way top once to n some =
      let b = way.0 in
      let out = (spine_out m b (way_once address whole p ps way.1 once)).0 in
      search (arith, ne_eqb)

  -- the part beneath stands beneath the new bit node
  beneath_stands : (m new : Lodged V) {bit : ℕ} (x : Placed V) (whole : Part m) {above : Option Id} (below : Node)
      (s : IsSpot m x.entry.key bit whole above below) → IsBeside m new bit x above below → Stands (leaves_in new) (bits_in new) (Some x.room) s.at.tree
  beneath_stands m new x whole below s b =
      lifted (leaves_in m) (leaves_in new) (bits_in m) (bits_in new) s.at.above (Some x.room) s.at.tree
      (λ n some. b.leaves n (not_new s.at x.room b.no_leaf n some) ∙ ap (λ z. lift_leaf z (Some x.room) n (leaves_in m n)) (sym s.named))
      (λ n some. search (arith, not_new_bit, not_above)) (way_once x.entry.key whole s.at s.ups s.way s.once) s.at.stands

  -- the new bit node with what is beneath it
  record Forked (m new : Lodged V) (bit : ℕ) (x : Placed V) (at : Part m) : Type 0 where
    pub part : Part new
    pub tree : part.tree ≡ forked_tree bit x at.tree
    pub low : part.low ≡ at.low
    pub above : part.above ≡ at.above

  -- on either side of it
  pub zero_forked : (bit : ℕ) (x : Placed V) (t : Tree V) → bit_at bit x.entry.key ≡ 0 → fork x.room bit (leaf x []) t ≡ forked_tree bit x t
  zero_forked bit x t clear = search (arith, ne_eqb, zero_not_one)

  pub one_forked : (bit : ℕ) (x : Placed V) (t : Tree V) → bit_at bit x.entry.key ≡ 1 → fork x.room bit t (leaf x []) ≡ forked_tree bit x t
  one_forked bit x t set = search (arith, eq-eqb)

  forked_name : (bit : ℕ) (x : Placed V) (t : Tree V) → name_of (forked_tree bit x t) ≡ BitOf x.room
  forked_name bit x t = search (arith, zero_or_one, zero_forked, one_forked)

  forked_part : (m new : Lodged V) (bit : ℕ) (x : Placed V) (whole : Part m) (above : Option Id) (below : Node)
      (s : IsSpot m x.entry.key bit whole above below) → IsBeside m new bit x above below → IsRoute x.entry → Forked m new bit x s.at
  forked_part m new bit x whole above below s b route =
      let stands = beneath_stands m new x whole below s b in
      elim (zero_or_one bit x.entry.key) [
        | inl clear ↦ record {
          part = record {
            tree = fork x.room bit (leaf x []) s.at.tree;
            low = s.at.low;
            above = s.at.above;
            is = zero_fork_is x x.room route s.place clear;
            stands = search (arith, ne_eqb, zero_not_one);
          };
          tree = zero_forked bit x s.at.tree clear;
          low = refl;
          above = refl;
        }
        | inr set ↦ record {
          part = record {
            tree = fork x.room bit s.at.tree (leaf x []);
            low = s.at.low;
            above = s.at.above;
            is = one_fork_is x x.room route s.place set;
            stands = search (arith, eq-eqb);
          };
          tree = one_forked bit x s.at.tree set;
          low = refl;
          above = refl;
        }
      ]

  -- its keys agree on the bits before the new one as those of the part beneath
  forked_keys : (bit : ℕ) {low : ℕ} (x : Placed V) (t : Tree V) → IsPlace x.entry.key low bit t → (c value : ℕ) → c < low → HaveBit c value t
      → HaveBit c value (forked_tree bit x t)
  forked_keys bit x t p c value before have =
      let own = one_value c (bit_at c x.entry.key) value t (p.agree c (omega arith)) have in
      search (arith, zero_or_one, zero_forked, one_forked)

  -- ---- the whole
  module _ {m new : Lodged V} {bit : ℕ} (x : Placed V) {whole : Part m} {above : Option Id} {below : Node} (s : IsSpot m x.entry.key bit whole above below)
      (b : IsBeside m new bit x above below) where
    -- a room that is not in the part beneath says what it said, or is the bit node above
    leaf_stays : (n : ℕ) → leaves_at n s.at.tree ≡ 0 → 1 ≤ leaves_at n whole.tree → leaves_in new n ≡ leaves_in m n
    leaf_stays n out some = b.leaves n (not_new whole x.room b.no_leaf n some) ∙ misses_leaf below n (search (arith, named_leaf)) (Some x.room) (leaves_in m n)

    bit_stays : (n : ℕ) → forks_at n s.at.tree ≡ 0 → 1 ≤ forks_at n whole.tree → bits_in new n ≡ name_child above x.entry.key (BitOf x.room) n (bits_in m n)
    bit_stays n out some = search (arith, not_new_bit, misses_bit, named_bit)

    pub whole_forked : {root : Node} → IsRoute x.entry → name_of whole.tree ≡ root
        → (u : Part new) × (u.tree ≡ forked_tree bit x s.at.tree) × Exchanged m new x.entry.key whole s.at u (root_after above (BitOf x.room) root)
    whole_forked route named =
        let u = forked_part m new bit x whole above below s b route in
        let name = ap name_of u.tree ∙ forked_name bit x s.at.tree in
        let e : IsExchange m new x.entry.key whole s.at u.part = record {
          low = u.low;
          above = u.above;
          keys = λ c value before have. subst (HaveBit c value) (sym u.tree) (forked_keys bit x s.at.tree s.place c value before have);
          leaves = leaf_stays;
          bits = search (arith, bit_stays);
        } in (u.part, u.tree, search (arith, exchanged))

-- -------- a room in which a route is lodged, as a leaf and as a bit node
-- a room that isn't the bit node above isn't turned
pub new_turn : (above : Option Id) (key n : ℕ) (to : Node) (said : Option BitPart) → ((over : Id) → above ≡ Some over → n ≡ number_of over → ⊥)
    → name_child above key to n said ≡ said
new_turn above key n to said other = search arith

module _ {V : Type 0} where
  pub Has-lodged_leaf : (new : Lodged V) (room : Id) (value : V) (l : Leaf) (said : Option (LeafPart V))
      → leaves_in new (number_of room) ≡ lodge_leaf room value l (number_of room) said → Has new room
  Has-lodged_leaf new room value l said is = Has-leaf new room (is ∙ own_room room (Some (record { block = room.block; value = value; leaf = l })) said) refl

  -- a leaf that was lodged and written again
  pub leaf_again : (m new : Lodged V) (room : Id) (value : V) (first then_ : Leaf) (said : Option (LeafPart V))
      → leaves_in m (number_of room) ≡ lodge_leaf room value first (number_of room) said
      → leaves_in new (number_of room) ≡ put_leaf room then_ (number_of room) (leaves_in m (number_of room))
      → leaves_in new (number_of room) ≡ Some (record { block = room.block; value = value; leaf = then_ })
  leaf_again m new room value first then_ said was is = grind arith

  pub Has-again : (m new : Lodged V) (room : Id) (value : V) (first then_ : Leaf) (said : Option (LeafPart V))
      → leaves_in m (number_of room) ≡ lodge_leaf room value first (number_of room) said
      → leaves_in new (number_of room) ≡ put_leaf room then_ (number_of room) (leaves_in m (number_of room)) → Has new room
  Has-again m new room value first then_ said was is = Has-leaf new room (leaf_again m new room value first then_ said was is) refl

  -- the three writes together
  pub lodged : (m1 m2 m3 m4 : Lodged V) (room : Id) (e : Entry V) (first then_ : Leaf) (n : BitNode) (p : BitPart) → get m1 (number_of room) ≡ None
      → ((k : ℕ) → leaves_in m2 k ≡ lodge_leaf room e.value first k (leaves_in m1 k)) → KeepsBits m1 m2
      → ((k : ℕ) → leaves_in m3 k ≡ put_leaf room then_ k (leaves_in m2 k)) → KeepsBits m2 m3
      → KeepsLeaves m3 m4 → ((k : ℕ) → bits_in m4 k ≡ put_bit room (Some n) k (bits_in m3 k))
      → then_ ≡ record { key = e.key; rank = e.rank; above = Some room; next = None; previous = None } → bit_part room.block (Some n) ≡ Some p
      → IsLodged m1 m4 room e p
  lodged m1 m2 m3 m4 room e first then_ n p free leaves2 bits2 leaves3 bits3 leaves4 bits4 leaf_is node_is = grind (arith, off_room)

  -- ---- parts that stay
  abbrev pub stays : (m new : Lodged V) (p : Part m) → ((n : ℕ) → 1 ≤ leaves_at n p.tree → leaves_in new n ≡ leaves_in m n)
      → ((n : ℕ) → 1 ≤ forks_at n p.tree → bits_in new n ≡ bits_in m n) → Part new
  stays m new p leaves forks = record {
    tree = p.tree;
    low = p.low;
    above = p.above;
    is = p.is;
    stands = frame (leaves_in m) (leaves_in new) (bits_in m) (bits_in new) p.above p.tree leaves forks p.stands;
  }

  pub over_at : (m : Lodged V) (key : ℕ) (whole at : Part m) (ups : List (Part m)) {above : Option Id} {over : Id} → Way key whole at ups → whole.above ≡ None
      → at.above ≡ above → above ≡ Some over → (p : Part m) × ForkAt p over
  over_at m key whole at [] way top is some = absurd (grind arith)
  over_at m key whole at (p ∷ ps) {over = over} way top is some = (p, grind arith)

  module _ {m new : Lodged V} {key bit : ℕ} {room : Id} {e : Entry V} (node : BitPart) {whole : Part m} {above : Option Id} {below : Node}
      (s : IsSpot m key bit whole above below) (l : IsLodged m new room e node) where
    -- the bit node above the spot is there once the room is lodged
    pub over_there : {over : Id} → above ≡ Some over → (p : Part new) × ForkAt p over
    over_there is =
        let o = over_at m key whole s.at s.ups s.way s.top s.above_is is in (
          stays m new o.0 (λ n some. l.leaves n (not_new o.0 room l.no_leaf n some)) (λ n some. l.bits n (not_new_bit o.0 room l.no_bit n some)),
          search,
        )

    -- and the part beneath it once that names the new bit node
    pub below_there : (turned : Lodged V) → KeepsLeaves new turned → ((n : ℕ) → bits_in turned n ≡ name_child above key (BitOf room) n (bits_in new n))
        → (p : Part turned) × (name_of p.tree ≡ below)
    below_there turned leaves bits = (
      stays m turned s.at (grind (arith, not_new, l.leaves, l.no_leaf))
          (λ n some. bits n ∙ ap (name_child above key (BitOf room) n) (l.bits n (not_new_bit s.at room l.no_bit n some))
          ∙ ap (λ o. name_child o key (BitOf room) n (bits_in m n)) (sym s.above_is)
          ∙ not_above m key whole s.at s.ups s.way s.top s.once (BitOf room) n some),
      s.named,
    )

  -- what all writes together leave
  pub beside : {m new : Lodged V} (turned last : Lodged V) {bit : ℕ} {room : Id} {e : Entry V} (whole : Part m) {above : Option Id} {below : Node}
      → IsSpot m e.key bit whole above below → IsLodged m new room e (forked e.key bit room below above)
      → KeepsLeaves new turned → ((n : ℕ) → bits_in turned n ≡ name_child above e.key (BitOf room) n (bits_in new n))
      → ((n : ℕ) → leaves_in last n ≡ lift_leaf below (Some room) n (leaves_in turned n))
      → ((n : ℕ) → bits_in last n ≡ lift_bit below (Some room) n (bits_in turned n)) → IsBeside m last bit (placed room e) above below
  beside {m = m} {new = new} turned last {room = room} {e = e} whole {above = above} {below = below} s l leaves bits lifted_leaves lifted_bits =
      let new_above : (over : Id) → above ≡ Some over → number_of room ≡ number_of over → ⊥ = λ over is same.
      none_some (sym l.no_bit ∙ ap (bits_in m) same ∙ (fork_stands (over_at m e.key whole s.at s.ups s.way s.top s.above_is is).1).0) in
      grind (arith, misses_bit, new_turn)
