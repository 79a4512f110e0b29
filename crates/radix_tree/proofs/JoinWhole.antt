-- A route that is alone at its leaf goes, and with it the bit node above: the whole, and what is read of it.
use Rattle.radix_tree.proofs.{MovedReads.content_lift, MovedReads.lift_used, MovedReads.own_part, PartRooms.one_if_same, PartRooms.lifted, Plugs.counted_leaf}
use Rattle.radix_tree.proofs.{Plugs.spare_same, PlugLists.marked_same, PlugLists.lists_same, Exchanging.exchanged, WholeChanges.Fits}
use Rattle.radix_tree.proofs.{WholeChanges.spare_changed, WholeChanges.whole_changed, Facts.some_of, Facts.test_turned, Facts.zero_not_one}
use Rattle.radix_tree.proofs.{WholeRoutes.routes_changed, WholeRoutes.loses_spliced, HomeLists.one_room, ChainRemovals.routes_some, Parts.Has-fork}
use Rattle.radix_tree.proofs.{ChainLists.idle_at, TreeMembers.bit_beneath, TreeMembers.of_key, TreeMembers.whole_route}
use Rattle.radix_tree.proofs.Beside.{misses_leaf, misses_bit, named_leaf, named_bit, stays, over_at}
use Rattle.radix_tree.proofs.JoinSides.{lone_said, side_is, side_says, side_leaves, side_in, in_side, side_have, home_side, side_spare, side_gains, put_off}
use Rattle.radix_tree.proofs.JoinSides.{put_none, put_here, turn_none, turn_used, lift_none, quiet, lone_once, lone_forks, lone_apart, other_part, lone}
use Rattle.radix_tree.proofs.JoinSides.{SaysOther, side_fork}
use Rattle.radix_tree.proofs.RoomReads.{AreLinks, bit_read, bit_used, head_read}
use Rattle.radix_tree.proofs.Words.{inside, none_some, ◌≡◌, ◌+◌, ◌<◌, ◌≤◌, ◌==◌, true, false, Some, None, inl, inr, refl, sym, ap, ◌∙◌, subst, arith, ℕ}
use Rattle.radix_tree.proofs.Words.{eqb-true, eq-eqb, is_some, Id, Node, Placed, Tree, leaf, fork, IsIn, IsTree, LeafPart, Part, leaves_in, bits_in, heads_in}
use Rattle.radix_tree.proofs.Words.{masks_in, name_of, one_if, leaves_at, forks_at, shown, shown_entry, name_child, root_after, AreOnce, Gains, IsExchange}
use Rattle.radix_tree.proofs.Words.{Exchanged, IsLone, IsHanded, IsWholeBut, nobody_late, nobody_out, late_at, out_at, KeepsRoutes, put_bit, lift_leaf}
use Rattle.radix_tree.proofs.Words.{lift_bit, Lodged, true≢false, number_of, Bool, List, ◌∷◌, Option, cases_eq, Has, leaf_of, bit_node_of, BitNode, Leaf, Links}
use Rattle.radix_tree.proofs.Words.{bit_at, IsAmong, BitPart, Bits, leaf_in, ForkAt, HasOneFork, HaveOneFork, other_side, IsApart, has_key, content_of}
use Rattle.radix_tree.proofs.Words.{IsLonely, []}

module _ {V : Type 0} where
  -- a tree whose bits are past one is one whose bits are past a lower one
  pub lower : (low high : ℕ) (t : Tree V) → low ≤ high → IsTree high t → IsTree low t
  lower low high (leaf x xs) le is = (omega arith, is.1)
  lower low high (fork room b zero one) le is = search arith

  -- what the rooms say once the bit node is gone
  pub record IsJoined (m new : Lodged V) (whole : Part m) (at up : Id) (l : IsLone m whole at up) : Type 0 where
    pub leaves : (n : ℕ) → leaves_in new n ≡ lift_leaf (name_of l.other) l.over.above n (leaves_in m n)
    pub bits : (n : ℕ) → bits_in new n ≡ lift_bit (name_of l.other) l.over.above n
        (put_bit up None n (name_child l.over.above l.route.entry.key (name_of l.other) n (bits_in m n)))

  module _ {m : Lodged V} {whole : Part m} {at up : Id} (l : IsLone m whole at up) where
    -- the list was handed on before
    pub handed_on : (handed new : Lodged V) → IsHanded m handed l.over.low l.over.tree l.other → ((n : ℕ) → masks_in new n ≡ masks_in handed n)
        → ((n : ℕ) → (n ≡ number_of up → ⊥) → heads_in new n ≡ heads_in handed n) → IsHanded m new l.over.low l.over.tree l.other
    handed_on handed new h masks heads =
        let own = one_if_same (number_of up) in
        let sum = lone_forks l (number_of up) in
        let apart = lone_apart l in
        record {
          heads = search arith;
          masks = λ n aside. masks n ∙ h.masks n aside;
          marks = λ n p said. h.marks n p (sym (masks n) ∙ said);
          kept = search (arith, marked_same);
          all = search (arith, marked_same);
          lists = lists_same (heads_in handed) (heads_in new) (masks_in handed) (masks_in new) l.over.low l.other (λ n some. heads n (apart.up_is n some))
              (λ y is. masks (number_of y.room)) h.lists;
        }

    pub other_once : AreOnce l.other
    other_once = record {
      leaves = λ n. let most = (lone_once l).leaves n in
          let sum = side_leaves n l.sides in omega arith;
      forks = λ n. let most = (lone_once l).forks n in
          let sum = lone_forks l n in omega arith;
    }

    -- ---- the part that takes the bit node's place
    abbrev pub under_part : {new : Lodged V} → IsJoined m new whole at up l → Part new
    under_part {new = new} j =
        let is = side_is l.sides l.over.low l.over.is in
        record {
          tree = l.other;
          low = l.over.low;
          above = l.over.above;
          is = lower l.over.low (l.bit + 1) l.other (let le = is.1 in omega arith) is.0;
          stands = lifted (leaves_in m) (leaves_in new) (bits_in m) (bits_in new) (Some up) l.over.above l.other (λ n some. j.leaves n)
              (λ n some. j.bits n ∙ ap (lift_bit (name_of l.other) l.over.above n)
              (quiet up l.route.entry.key (name_of l.other) n (bits_in m n) (lone_apart l) some)) other_once (other_part l).stands;
        }

    pub exchange : (new : Lodged V) (j : IsJoined m new whole at up l) → IsExchange m new l.route.entry.key whole l.over (under_part j)
    exchange new j =
        record {
          low = refl;
          above = refl;
          keys = λ c value before have. side_have l.sides c value have;
          leaves = search (arith, misses_leaf, named_leaf, side_leaves);
          bits = search (arith, lone_forks, misses_bit, named_bit, put_off, one_if_same);
        }

    -- ---- what the rooms say
    pub routes_kept : {new : Lodged V} → IsJoined m new whole at up l → KeepsRoutes m new
    routes_kept j n = search (arith, content_lift)

    -- a room that is no bit node stays none
    pub idle_stays : {new : Lodged V} → IsJoined m new whole at up l → (n : ℕ) → bits_in m n ≡ None → bits_in new n ≡ None
    idle_stays j n none = search (arith, turn_none, put_none, lift_none)

    pub freed : {new : Lodged V} → IsJoined m new whole at up l → bits_in new (number_of up) ≡ None
    freed j = search (arith, put_here, lift_none)

    same_bits : (new : Lodged V) → IsJoined m new whole at up l → (n : ℕ) → (n ≡ number_of up → ⊥) → is_some (bits_in new n) ≡ is_some (bits_in m n)
    same_bits new j n other = search (arith, lift_used, put_off, turn_used)

    fork_count : (new : Lodged V) → IsJoined m new whole at up l → (n : ℕ)
        → forks_at n l.other + one_if (is_some (bits_in m n)) ≡ forks_at n l.over.tree + one_if (is_some (bits_in new n))
    fork_count new j n =
        let sum = lone_forks l n in
        elim (number_of up == n) as (λ t. (number_of up == n) ≡ t → forks_at n l.over.tree ≡ one_if t + (0 + forks_at n l.other)
        → forks_at n l.other + one_if (is_some (bits_in m n)) ≡ forks_at n l.over.tree + one_if (is_some (bits_in new n))) [
          | true ↦ search (arith, eqb-true, side_says, freed)
          | false ↦ search (arith, same_bits, true≢false, eq-eqb)
        ] refl sum

    -- ---- the whole
    -- the room of the route that goes is not on the other side
    own_room : (leaves_at (number_of at) l.other ≡ 0) × (leaves_at (number_of at) l.over.tree ≡ 1)
    own_room =
        let own = ap (λ i. one_if (number_of i == number_of at)) l.room_is ∙ one_if_same (number_of at) in
        let most = (lone_once l).leaves (number_of at) in
        search (arith, side_leaves)

    short_stays : (new : Lodged V) → IsHanded m new l.over.low l.over.tree l.other → (y : Placed V) → IsIn y l.over.tree → y.entry.rank < l.over.low
        → masks_in new (number_of y.room) ≡ masks_in m (number_of y.room)
    short_stays new h y is short = h.masks (number_of y.room) (λ z there past same.
        let rank = ap (λ p. p.entry.rank) (one_room m l.over z y there is same) in absurd (omega arith))

    pub fits : (new : Lodged V) (j : IsJoined m new whole at up l) → IsHanded m new l.over.low l.over.tree l.other → masks_in m (number_of at) ≡ None
        → Fits m new whole l.over (under_part j) (late_at (number_of at)) nobody_late nobody_out (out_at (number_of at))
    fits new j h unmarked =
        let room = own_room in
        let in_over : (y : Placed V) → IsIn y l.other → IsIn y l.over.tree = λ y is. in_side l.sides y is in
        record {
          leaves = search (arith, side_leaves, routes_some, routes_kept, test_turned);
          forks = λ n. fork_count new j n;
          heads = λ n none some. h.heads n none;
          masks = search (arith, counted_leaf);
          masks_above = λ y is short marked. short_stays new h y is short;
          marks = h.marks;
          kept = λ y is marked. elim (side_in l.sides y is) [
            | inl own ↦ elim own [
              | inl e ↦ let p = some_of (masks_in new (number_of y.room)) marked in
                  let q = h.marks (number_of y.room) p.0 p.1 in
                  search (arith, none_some)
              | inr none ↦ absurd none
            ]
            | inr there ↦ (there, λ home. h.kept y there marked home)
          ];
          came = λ y is marked. in_over y is;
          gone = search (arith, marked_same, short_stays);
          lists = h.lists;
          all = λ y is home. inr (
            in_over y is,
            elim home [ inl short ↦ inl short | inr there ↦ inr (home_side l.sides l.over.low y l.over.is is there) ],
            search (arith, marked_same, short_stays),
            search (arith, eqb-true, counted_leaf),
          );
          late_aside = search (arith, eqb-true);
        }

    abbrev pub exchanged_whole : (new : Lodged V) {root : Node} (j : IsJoined m new whole at up l) → name_of whole.tree ≡ root
        → Exchanged m new l.route.entry.key whole l.over (under_part j) (root_after l.over.above (name_of l.other) root)
    exchanged_whole new j named =
        subst (λ r. Exchanged m new l.route.entry.key whole l.over (under_part j) (root_after l.over.above (name_of l.other) r)) named
        (exchanged m new whole l.over l.ups l.way l.top l.once (exchange new j))

  module _ {m new : Lodged V} {root : Node} {at up : Id} (w : IsWholeBut m root (late_at (number_of at)) nobody_out) (l : IsLone m w.part at up)
      (j : IsJoined m new w.part at up l) where
    pub whole_joined : IsHanded m new l.over.low l.over.tree l.other → masks_in m (number_of at) ≡ None
        → IsWholeBut new (root_after l.over.above (name_of l.other) root) nobody_late (out_at (number_of at))
    whole_joined h unmarked =
        let e = exchanged_whole l new j w.named in
        whole_changed w e (fits l new j h unmarked) (spare_changed w e (search (arith, spare_same, idle_stays, side_spare))
        (λ n none some idle. idle_stays l j n idle))

    pub routes_joined : (p : LeafPart V) → leaves_in m (number_of at) ≡ Some p
        → Gains (shown_entry p) (shown new (Some (root_after l.over.above (name_of l.other) root))) (shown m (Some root))
    routes_joined p said =
        let e = exchanged_whole l new j w.named in
        let is = inside (sym said ∙ lone_said m l) in
        subst (λ q. Gains (shown_entry q) (shown new (Some (root_after l.over.above (name_of l.other) root))) (shown m (Some root))) (sym is)
        (loses_spliced (routes_changed w e) (side_gains l.route l.other l.sides))

  -- the leaf of the route that goes stays as it is
  pub own_leaf : {m new : Lodged V} {whole : Part m} (at : Id) {up : Id} (l : IsLone m whole at up) → IsJoined m new whole at up l
      → leaves_in new (number_of at) ≡ leaves_in m (number_of at)
  own_leaf {m = m} at l j = search (arith, misses_leaf, named_leaf, own_room)

  -- -------- a route that is alone at its leaf, and the bit node above it, as they are read of their rooms
  -- ---- the route's room
  module _ {m : Lodged V} {at : Id} (h : Has m at) where
    read_is : (links : Links) {l : Leaf} → AreLinks m at links → l ≡ leaf_of links → leaf_of h.room.links ≡ l
    read_is links are is = sym (is ∙ ap leaf_of (are h.room h.at))

    pub lone_read : {root : Node} {late : ℕ → Bool} (w : IsWholeBut m root late nobody_out) {up : Id} (links : Links) {l : Leaf} → AreLinks m at links
        → l ≡ leaf_of links → IsLonely m at → l.above ≡ Some up → IsLone m w.part at up
    lone_read w {up = up} links are is lonely above =
        let r = lonely (own_part h) (ap leaf_in h.at) in
        lone m w at up (ap leaf_in h.at) h.block r.0 r.1 (ap (λ z. z.above) (read_is links are is) ∙ above)

    pub never_top : (links : Links) {l : Leaf} → AreLinks m at links → l ≡ leaf_of links → IsLonely m at → l.above ≡ None → ⊥
    never_top links are is lonely none =
        let r = lonely (own_part h) (ap leaf_in h.at) in
        search (arith, true≢false, read_is)

    pub key_read : {whole : Part m} {up : Id} (links : Links) {l : Leaf} (f : IsLone m whole at up) → AreLinks m at links → l ≡ leaf_of links
        → f.route.entry.key ≡ l.key
    key_read {up = up} links f are is = search (arith, inside, lone_said, read_is)

  -- ---- the bit node above
  module _ {m : Lodged V} {whole : Part m} {at up : Id} (l : IsLone m whole at up) where
    pub Has-up : Has m up
    Has-up = Has-fork (side_fork m l.over l.bit (leaf l.route []) l.other l.sides)

    up_says : SaysOther (bits_in m) up l.route.entry.key l.bit l.over.above (name_of l.other)
    up_says = side_says l.sides (leaves_in m) (bits_in m) l.over.above l.over.stands

    pub never_unused : (links : Links) → AreLinks m up links → bit_node_of links ≡ None → ⊥
    never_unused links are none = let s = up_says in bit_used m up links s.says s.block are none

  pub record IsUp (m : Lodged V) (whole : Part m) (at up : Id) (l : IsLone m whole at up) (node : BitNode) (key : ℕ) : Type 0 where
    pub bit : node.bit ≤ 31
    pub above : l.over.above ≡ node.above
    pub to : name_of l.other ≡ other_side key node.bit node.zero node.one
    pub head : heads_in m (number_of up) ≡ node.masks

  module _ {m : Lodged V} {whole : Part m} {at up : Id} (l : IsLone m whole at up) where
    pub up_read : (links : Links) {node : BitNode} {key : ℕ} → AreLinks m up links → bit_node_of links ≡ Some node → l.route.entry.key ≡ key
        → IsUp m whole at up l node key
    up_read links {node = node} {key = key} are is key_is =
        let s = up_says l in
        let read = bit_read m up links s.says s.block are is in
        search (arith, side_is, head_read, Has-up)

    -- ---- in the rooms once the list is handed on
    pub above_after : (new : Lodged V) {above : Option Id} {over : Id} → ((n : ℕ) → leaves_in new n ≡ leaves_in m n)
        → ((n : ℕ) → bits_in new n ≡ bits_in m n) → l.over.above ≡ above → above ≡ Some over → (p : Part new) × ForkAt p over
    above_after new leaves bits above_is is =
        let o = over_at m l.route.entry.key whole l.over l.ups l.way l.top above_is is in
        (stays m new o.0 (λ n some. leaves n) (λ n some. bits n), record { bit = o.1.bit; zero = o.1.zero; one = o.1.one; is = o.1.is })

    pub beneath_after : (new : Lodged V) {above : Option Id} {to : Node} → ((n : ℕ) → leaves_in new n ≡ leaves_in m n)
        → ((n : ℕ) → bits_in new n ≡ bits_in m n) → l.over.above ≡ above → name_of l.other ≡ to
        → (p : Part new) × (name_of p.tree ≡ to) × IsApart p.tree up above
    beneath_after new leaves bits above_is to_is = (
      stays m new (other_part l) (λ n some. leaves n) (λ n some. bits n),
      to_is,
      subst (IsApart l.other up) above_is (lone_apart l),
    )

    pub joined : (handed new : Lodged V) {above : Option Id} {key : ℕ} {to : Node} → l.over.above ≡ above → l.route.entry.key ≡ key → name_of l.other ≡ to
        → ((n : ℕ) → leaves_in handed n ≡ leaves_in m n) → ((n : ℕ) → bits_in handed n ≡ bits_in m n)
        → ((n : ℕ) → leaves_in new n ≡ lift_leaf to above n (leaves_in handed n))
        → ((n : ℕ) → bits_in new n ≡ lift_bit to above n (put_bit up None n (name_child above key to n (bits_in handed n)))) → IsJoined m new whole at up l
    joined handed new {above = above} {key = key} {to = to} above_is key_is to_is leaves bits new_leaves new_bits = search arith

  -- ---- of the rooms of a key one at most is a bit node
  chain_others : (B : Bits) (xs : List (Placed V)) (y z : Placed V) → HasOneFork B xs → IsAmong y xs → IsAmong z xs → (number_of z.room ≡ number_of y.room → ⊥)
      → (B (number_of y.room) ≡ None → ⊥) → B (number_of z.room) ≡ None
  chain_others B [] y z one first second apart used = absurd first
  chain_others B (x ∷ xs) y z one first second apart used = search (arith, idle_at, chain_others B xs y z)

  tree_others : (B : Bits) (low : ℕ) (t : Tree V) (y z : Placed V) → IsTree low t → HaveOneFork B t → IsIn y t → IsIn z t → y.entry.key ≡ z.entry.key
      → (number_of z.room ≡ number_of y.room → ⊥) → (B (number_of y.room) ≡ None → ⊥) → B (number_of z.room) ≡ None
  tree_others B low (leaf x xs) y z is one first second keys apart used = chain_others B (x ∷ xs) y z one first second apart used
  tree_others B low (fork room b zero ones) y z is one first second keys apart used =
      elim first [
        | inl fz ↦ elim second [
          | inl sz ↦ tree_others B (b + 1) zero y z is.1 one.0 fz sz keys apart used
          | inr so ↦ absurd (zero_not_one (bit_beneath (b + 1) b 0 zero is.1 is.0.zeros y fz)
              (ap (bit_at b) keys ∙ bit_beneath (b + 1) b 1 ones is.2 is.0.ones z so))
        ]
        | inr fo ↦ elim second [
          | inl sz ↦ absurd (zero_not_one (bit_beneath (b + 1) b 0 zero is.1 is.0.zeros z sz) (search (arith, bit_beneath)))
          | inr so ↦ tree_others B (b + 1) ones y z is.2 one.1 fo so keys apart used
        ]
      ]

  pub others_idle : (m : Lodged V) {root : Node} {late : ℕ → Bool} (w : IsWholeBut m root late nobody_out) (used other : ℕ) (p q : LeafPart V) {b : BitPart}
      → leaves_in m used ≡ Some p → leaves_in m other ≡ Some q → p.leaf.key ≡ q.leaf.key → bits_in m used ≡ Some b → (other ≡ used → ⊥) → bits_in m other ≡ None
  others_idle m w used other p q first second keys bit apart =
      let y = whole_route w used first in
      let z = whole_route w other second in
      search (arith, tree_others, none_some)

  was_said : (o : Option (LeafPart V)) (p : LeafPart V) → content_of (Some p) ≡ content_of o → (q : LeafPart V) × (o ≡ Some q) × (q.leaf.key ≡ p.leaf.key)
  was_said None p same = absurd (none_some (sym same))
  was_said (Some q) p same = (q, refl, sym (ap (λ c. c.entry.key) (inside same)))

  pub idle_joined : (m new : Lodged V) {root : Node} {late : ℕ → Bool} (w : IsWholeBut m root late nobody_out) {at : Id} (up : Id)
      (l : IsLone m w.part at up) → KeepsRoutes m new → ((n : ℕ) → bits_in m n ≡ None → bits_in new n ≡ None) → bits_in new (number_of up) ≡ None
      → (p : LeafPart V) → leaves_in new (number_of up) ≡ Some p → (n : ℕ) → has_key new p.leaf.key n ≡ true → bits_in new n ≡ None
  idle_joined m new w up l keeps idle free p said n same_key = elim (cases_eq n (number_of up)) [
    | inl same ↦ ap (bits_in new) same ∙ free
    | inr apart ↦ let q = of_key p.leaf.key (leaves_in new n) same_key in
        let before = was_said (leaves_in m (number_of up)) p (ap content_of (sym said) ∙ keeps (number_of up)) in
        let other = was_said (leaves_in m n) q.0 (ap content_of (sym q.1) ∙ keeps n) in
        let s = up_says l in
        idle n (others_idle m w (number_of up) n before.0 other.0 before.1 other.1 (before.2 ∙ sym q.2 ∙ sym other.2) s.says apart)
  ]
