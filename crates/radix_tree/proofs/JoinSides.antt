-- A bit node with what is on a key's side and what is on the other, which comes into its place as a lone route goes.
use Rattle.radix_tree.proofs.{Facts.zero_not_one, Facts.same_id, Beside.stays, Beside.new_turn, Parts.way_to_leaf, WholeChanges.once_but}
use Rattle.radix_tree.proofs.{TreeMembers.bit_beneath, TreeMembers.tree_said, TreeMembers.in_at, PartRooms.elsewhere, PartRooms.way_once, PartRooms.spine_out}
use Rattle.radix_tree.proofs.Words.{◌≡◌, ◌+◌, ◌≤◌, ◌==◌, ◌⊎◌, if◌then◌else◌, [], Option, Some, inl, inr, ap, arith, ℕ, eq-eqb, ne_eqb, append-nil, Id, Node}
use Rattle.radix_tree.proofs.Words.{Placed, Tree, leaf, fork, bit_at, HaveBit, IsIn, IsTree, routes_of, BitPart, Leaves, Bits, Heads, Masks, Part, name_of}
use Rattle.radix_tree.proofs.Words.{Stands, ForkAt, Beneath, one_if, leaves_at, forks_at, HasHome, HaveOneFork, Gains, other_side, HasSides, IsMaskList}
use Rattle.radix_tree.proofs.Words.{MarkedIn, MarkedLists, Lodged, number_of, inside, none_some, Bool, List, ◌∷◌, None, refl, ◌∙◌, is_some, leaves_in, bits_in}
use Rattle.radix_tree.proofs.Words.{Way, name_child, with_child, AreOnce, IsApart, IsLone, put_bit, put_head, lift_bit, sym, subst, IsAmong, LeafPart}
use Rattle.radix_tree.proofs.Words.{first_room, leaf_part, ChainStands, IsWholeBut, nobody_out}

other_of_zero : (key b : ℕ) (zero one : Node) → bit_at b key ≡ 0 → other_side key b zero one ≡ one
other_of_zero key b zero one clear = search (arith, ne_eqb, zero_not_one)

other_of_one : (key b : ℕ) (zero one : Node) → bit_at b key ≡ 1 → other_side key b zero one ≡ zero
other_of_one key b zero one set = ap (λ t. if t then zero else one) (eq-eqb (bit_at b key) 1 set)

-- what the room of a bit node says: of its two nodes the one on the other side
pub record SaysOther (B : Bits) (room : Id) (key b : ℕ) (above : Option Id) (name : Node) : Type 0 where
  pub part : BitPart
  pub says : B (number_of room) ≡ Some part
  pub block : part.block ≡ room.block
  pub bit : part.bit ≡ b
  pub above_is : part.above ≡ above
  pub other : other_side key b part.zero part.one ≡ name

module _ {V : Type 0} where
  module _ {key : ℕ} {t : Tree V} {room : Id} {b : ℕ} {own other : Tree V} (s : HasSides key t room b own other) where
    -- what holds of either order holds of the bit node
    pub by_sides : (P : Tree V → Type 0) → (bit_at b key ≡ 0 → P (fork room b own other)) → (bit_at b key ≡ 1 → P (fork room b other own)) → P t
    by_sides P zero one = search arith

    pub side_is : (low : ℕ) → IsTree low t → IsTree (b + 1) other × (low ≤ b) × (b ≤ 31)
    side_is low = search (arith, by_sides)

    pub side_stands : (L : Leaves V) (B : Bits) (above : Option Id) → Stands L B above t → Stands L B (Some room) other
    side_stands L B above = search (arith, by_sides)

    pub side_own_stands : (L : Leaves V) (B : Bits) (above : Option Id) → Stands L B above t → Stands L B (Some room) own
    side_own_stands L B above = search (arith, by_sides)

    pub side_says : (L : Leaves V) (B : Bits) (above : Option Id) → Stands L B above t → SaysOther B room key b above (name_of other)
    side_says L B above = search (arith, by_sides, other_of_zero, other_of_one)

  pub side_leaves : {key : ℕ} {t : Tree V} {room : Id} {b : ℕ} {own other : Tree V} (n : ℕ) → HasSides key t room b own other
      → leaves_at n t ≡ leaves_at n own + leaves_at n other
  side_leaves {own = own} {other = other} n s = search (arith, by_sides)

  module _ {key : ℕ} {t : Tree V} {room : Id} {b : ℕ} {own other : Tree V} (s : HasSides key t room b own other) where
    pub side_forks : (n : ℕ) → forks_at n t ≡ one_if (number_of room == n) + (forks_at n own + forks_at n other)
    side_forks n = search (arith, by_sides)

    pub side_in : (y : Placed V) → IsIn y t → IsIn y own ⊎ IsIn y other
    side_in y = search (arith, by_sides)

    pub in_side : (y : Placed V) → IsIn y other → IsIn y t
    in_side y is = by_sides s (λ u. IsIn y u) (λ clear. inr is) (λ set. inl is)

    pub side_have : (c v : ℕ) → HaveBit c v t → HaveBit c v other
    side_have c v = search (arith, by_sides)

    pub side_list : (H : Heads) (K : Masks) (low : ℕ) → MarkedLists H K low t → IsMaskList K (H (number_of room)) low b (MarkedIn K t)
    side_list H K low = search (arith, by_sides)

    pub side_lists : (H : Heads) (K : Masks) (low : ℕ) → MarkedLists H K low t → MarkedLists H K (b + 1) other
    side_lists H K low = search (arith, by_sides)

    pub side_home : (address rank : ℕ) → HasHome address rank t → (rank ≤ b) ⊎ (HasHome address rank own ⊎ HasHome address rank other)
    side_home address rank = search (arith, by_sides)

    pub home_side : (low : ℕ) (y : Placed V) → IsTree low t → IsIn y other → HasHome y.entry.key y.entry.rank other → HasHome y.entry.key y.entry.rank t
    home_side low y = search (arith, by_sides, bit_beneath)

    pub side_spare : (B : Bits) → HaveOneFork B t → HaveOneFork B other
    side_spare B = search (arith, by_sides)

  pub side_gains : {key : ℕ} {t : Tree V} {room : Id} {b : ℕ} (x : Placed V) (other : Tree V) → HasSides key t room b (leaf x []) other
      → Gains x.entry (routes_of other) (routes_of t)
  side_gains x other s = search (arith, by_sides, append-nil)

  pub side_fork : (m : Lodged V) {key : ℕ} (p : Part m) {room : Id} (b : ℕ) (own other : Tree V) → HasSides key p.tree room b own other → ForkAt p room
  side_fork m {key = key} p b own other s =
      elim s.is [ inl e ↦ record { bit = b; zero = own; one = other; is = e.0 } | inr e ↦ record { bit = b; zero = other; one = own; is = e.0 } ]

  -- a part beneath a bit node is on a side of it
  pub sides_of : {m : Lodged V} {key : ℕ} {under over : Part m} (b : Beneath key under over)
      → (other : Tree V) × HasSides key over.tree b.room b.at.bit under.tree other
  sides_of b = search arith

-- -------- a node comes into the place of the bit node above it, which is none from then on: what the rooms say
-- ---- a room that is not written
pub put_off : (room : Id) (n : ℕ) (said : Option BitPart) → (n ≡ number_of room → ⊥) → put_bit room None n said ≡ said
put_off room n said other = ap (λ t. if t then None else said) (ne_eqb n (number_of room) other)

pub head_off : (room : Id) (n : ℕ) (said : Option Id) → (n ≡ number_of room → ⊥) → put_head room None n said ≡ said
head_off room n said other = ap (λ t. if t then None else said) (ne_eqb n (number_of room) other)

-- ---- a room that is no bit node
both_none : (t : Bool) (x y : Option BitPart) → x ≡ None → y ≡ None → (if t then x else y) ≡ None
both_none t x y first second = search arith

pub put_none : (room : Id) (n : ℕ) → put_bit room None n None ≡ None
put_none room n = both_none (n == number_of room) None None refl refl

pub turn_none : (above : Option Id) (key n : ℕ) (to : Node) → name_child above key to n None ≡ None
turn_none above key n to = search arith

pub lift_none : (at : Node) (above : Option Id) (n : ℕ) → lift_bit at above n None ≡ None
lift_none at above n = search arith

pub put_here : (room : Id) (said : Option BitPart) → put_bit room None (number_of room) said ≡ None
put_here room said = search (arith, eq-eqb)

-- ---- a room that is a bit node stays one
pub turn_used : (above : Option Id) (key n : ℕ) (to : Node) (said : Option BitPart) → is_some (name_child above key to n said) ≡ is_some said
turn_used above key n to said = search arith

module _ {V : Type 0} where
  -- ---- the node beneath stays as it is while the bit nodes above it are written
  pub quiet : {t : Tree V} (up : Id) {above : Option Id} (key : ℕ) (to : Node) (n : ℕ) (said : Option BitPart) → IsApart t up above → 1 ≤ forks_at n t
      → put_bit up None n (name_child above key to n said) ≡ said
  quiet up {above = above} key to n said apart some = search (arith, put_off, new_turn)

  pub below_stays : (m with_child put : Lodged V) (p : Part m) (up : Id) {above : Option Id} (key : ℕ) (to : Node) → name_of p.tree ≡ to
      → IsApart p.tree up above → ((n : ℕ) → leaves_in with_child n ≡ leaves_in m n) → ((n : ℕ) → leaves_in put n ≡ leaves_in with_child n)
      → ((n : ℕ) → bits_in with_child n ≡ name_child above key to n (bits_in m n)) → ((n : ℕ) → bits_in put n ≡ put_bit up None n (bits_in with_child n))
      → (q : Part put) × (name_of q.tree ≡ to)
  below_stays m with_child put p up key to named apart leaves1 leaves2 bits1 bits2 = (
    stays m put p (λ n some. leaves2 n ∙ leaves1 n) (search (arith, quiet)),
    named,
  )

  -- ---- the other side of the bit node above a lone leaf
  out_of_above : (m : Lodged V) (key : ℕ) (whole at : Part m) (ups : List (Part m)) (over : Id) → Way key whole at ups → whole.above ≡ None
      → AreOnce whole.tree → at.above ≡ Some over → (n : ℕ) → 1 ≤ forks_at n at.tree → n ≡ number_of over → ⊥
  out_of_above m key whole at [] over way top once is n some same = search (arith, none_some)
  out_of_above m key whole at (p ∷ ps) over way top once is n some same =
      let b = way.0 in
      let out = (spine_out m b (way_once key whole p ps way.1 once)).0 in
      search (arith, inside)

  module _ {m : Lodged V} {whole : Part m} {at up : Id} (l : IsLone m whole at up) where
    pub lone_once : AreOnce l.over.tree
    lone_once = way_once l.route.entry.key whole l.over l.ups l.way l.once

    pub lone_forks : (n : ℕ) → forks_at n l.over.tree ≡ one_if (number_of up == n) + (0 + forks_at n l.other)
    lone_forks n = side_forks l.sides n

    pub lone_apart : IsApart l.other up l.over.above
    lone_apart =
        record {
          up_is = λ n some. let sum = lone_forks n in
              search (arith, lone_once, elsewhere);
          above_is = λ over is n some. let sum = lone_forks n in
              search (arith, out_of_above);
        }

    abbrev pub other_part : Part m
    other_part = record {
      tree = l.other;
      low = l.bit + 1;
      above = Some up;
      is = (side_is l.sides l.over.low l.over.is).0;
      stands = side_stands l.sides (leaves_in m) (bits_in m) l.over.above l.over.stands;
    }

  -- -------- a route that is alone at its leaf, found by its room
  none_first : (xs : List (Placed V)) → first_room xs ≡ None → xs ≡ []
  none_first xs none = search arith

  -- ---- alone in its chain
  pub has_previous : (L : Leaves V) (above : Option Id) (previous : Id) (c : List (Placed V)) (y : Placed V) {p : LeafPart V}
      → ChainStands L above (Some previous) c → IsAmong y c → L (number_of y.room) ≡ Some p → p.leaf.previous ≡ None → ⊥
  has_previous L above previous [] y stands among said none = among
  has_previous L above previous (x ∷ c) y stands among said none =
      elim among [
        | inl e ↦ search (arith, none_some, inside)
        | inr behind ↦ has_previous L None x.room c y stands.1 behind said none
      ]

  pub record IsAlone (L : Leaves V) (above : Option Id) (x : Placed V) (xs : List (Placed V)) (y : Placed V) (p : LeafPart V) : Type 0 where
    pub first : x ≡ y
    pub rest : xs ≡ []
    pub above_is : p.leaf.above ≡ above

  alone : (L : Leaves V) (above : Option Id) (x : Placed V) (xs : List (Placed V)) (y : Placed V) (p : LeafPart V) → ChainStands L above None (x ∷ xs)
      → IsAmong y (x ∷ xs) → L (number_of y.room) ≡ Some p → p.leaf.next ≡ None → p.leaf.previous ≡ None → IsAlone L above x xs y p
  alone L above x xs y p stands among said next previous =
      elim among [
        | inl e ↦ search (arith, inside, none_first)
        | inr behind ↦ absurd (has_previous L None x.room xs y stands.1 behind said previous)
      ]

  -- ---- and the bit node above it
  lone_over : (m : Lodged V) (whole : Part m) (at up : Id) (y : Placed V) (under : Part m) (ups : List (Part m)) → y.room ≡ at → under.tree ≡ leaf y []
      → under.above ≡ Some up → Way y.entry.key whole under ups → whole.above ≡ None → AreOnce whole.tree → IsLone m whole at up
  lone_over m whole at up y under [] room_is tree above way top once = search (arith, none_some)
  lone_over m whole at up y under (q ∷ qs) room_is tree above way top once =
      let b = way.0 in
      let found = sides_of b in
      record {
        route = y;
        room_is = room_is;
        over = q;
        bit = b.at.bit;
        other = found.0;
        sides = search arith;
        ups = qs;
        way = way.1;
        top = top;
        once = once;
      }

  pub lone : (m : Lodged V) {root : Node} {late : ℕ → Bool} (w : IsWholeBut m root late nobody_out) (at up : Id) {p : LeafPart V}
      → leaves_in m (number_of at) ≡ Some p → p.block ≡ at.block → p.leaf.next ≡ None → p.leaf.previous ≡ None → p.leaf.above ≡ Some up → IsLone m w.part at up
  lone m w at up {p = p} said block next previous above =
      let used = ap (λ o. one_if (is_some o)) said in
      let y = in_at (number_of at) w.part.tree (omega arith) in
      let own = ap (leaves_in m) y.2 ∙ said in
      let told = tree_said (leaves_in m) (bits_in m) w.part.above w.part.tree w.part.stands y.0 y.1 in
      let same = same_id y.0.room at (sym (ap (λ q. q.block) (inside (sym own ∙ told.3))) ∙ block) in
      let found = way_to_leaf m w.part y.0 y.1 in
      let f = found.at in
      let is_alone = alone (leaves_in m) found.part.above f.first f.rest y.0 p (search arith) (subst (IsIn y.0) f.is found.among) own next previous in
      lone_over m w.part at up y.0 found.part found.ups same (search arith) (sym is_alone.above_is ∙ above) found.way w.top (once_but w)

  -- what the room says
  pub lone_said : (m : Lodged V) {whole : Part m} {at up : Id} (l : IsLone m whole at up)
      → leaves_in m (number_of at) ≡ Some (leaf_part l.route (Some up) None None)
  lone_said m l = search (arith, side_own_stands)
