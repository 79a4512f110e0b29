-- A member of a chain whose neighbours name each other in its place goes.
use Rattle.radix_tree.proofs.{RoomReads.AreLinks, Parts.among_leaf, Parts.way_to_leaf, Parts.way_leads, WholeChanges.once_but, WholeChanges.later_than}
use Rattle.radix_tree.proofs.{ChainGaps.behind_stands, Facts.same_none, Facts.some_of, JoinSides.turn_used}
use Rattle.radix_tree.proofs.MovedReads.{own_said, Has-linked_out, next_same, back_same, content_used}
use Rattle.radix_tree.proofs.TreeMembers.{head_of, chain_key, whole_route, tree_said, among_at, of_key}
use Rattle.radix_tree.proofs.ChainLists.{linked_out, out_others, IsCons, cons_at, split_at, members_more, chain_less, last_among, first_among, members_append}
use Rattle.radix_tree.proofs.ChainLists.{among_own, among_less, others_idle}
use Rattle.radix_tree.proofs.ChainInserts.{first_there, last_there, place_above, chain_once}
use Rattle.radix_tree.proofs.ChainWholes.{Rechained, FrontNamed, front_named, place_bits, place_root, turn_same, root_same, shrunk_whole, shrunk_routes}
use Rattle.radix_tree.proofs.Words.{inside, none_some, ◌≡◌, ℕ, ◌≤◌, Bool, List, [], ◌∷◌, ◌++◌, Some, None, refl, sym, ap, ◌∙◌, subst, inl, arith, eq-eqb}
use Rattle.radix_tree.proofs.Words.{is_some, Has, Id, leaf_of, Leaf, Links, Node, LeafOf, Placed, leaf, IsAmong, IsChain, IsTree, LeafPart, Part, leaves_in}
use Rattle.radix_tree.proofs.Words.{bits_in, name_of, first_room, leaf_part, ChainStands, Way, ForkAt, members_at, name_child, root_after, IsWholeBut}
use Rattle.radix_tree.proofs.Words.{nobody_out, KeepsHeads, KeepsMasks, link_out, above_behind, last_room, root_past, Lodged, number_of, ⊎_elim, ◌⊎◌, ◌==◌}
use Rattle.radix_tree.proofs.Words.{true, false, Option, inr, IsIn, BitPart, masks_in, HaveOneFork, HasOneFork, shown, shown_entry, Gains, is_of_key, has_key}
use Rattle.radix_tree.proofs.Words.{nobody_late, late_at, out_at, Content, content_of, KeepsRoutes}

module _ {V : Type 0} where
  -- ---- a room that is a leaf of a tree
  pub record IsMember (m : Lodged V) (whole : Part m) (n : ℕ) (p : LeafPart V) : Type 0 where
    pub x : Placed V
    pub part : Part m
    pub ups : List (Part m)
    pub way : Way x.entry.key whole part ups
    pub first : Placed V
    pub rest : List (Placed V)
    pub front : List (Placed V)
    pub back : List (Placed V)
    pub is : part.tree ≡ leaf first rest
    pub split : first ∷ rest ≡ front ++ (x ∷ back)
    pub number : number_of x.room ≡ n
    pub part_is : p ≡ leaf_part x (above_behind part.above front) (last_room None front) (first_room back)

  pub leaf_stands : (m : Lodged V) (at : Part m) {z : Placed V} {zs c : List (Placed V)} → at.tree ≡ leaf z zs → z ∷ zs ≡ c
      → ChainStands (leaves_in m) at.above None c
  leaf_stands m at is same = search arith

  pub leaf_chain : {m : Lodged V} (at : Part m) {z : Placed V} {zs c : List (Placed V)} → at.tree ≡ leaf z zs → z ∷ zs ≡ c → IsChain z.entry.key 34 c
  leaf_chain at {z = z} is same = subst (IsChain z.entry.key 34) same (subst (IsTree at.low) is at.is).1

  module _ {m : Lodged V} {root : Node} {late : ℕ → Bool} (w : IsWholeBut m root late nobody_out) where
    pub member_of : (n : ℕ) {p : LeafPart V} → leaves_in m n ≡ Some p → IsMember m w.part n p
    member_of n said =
        let r = whole_route w n said in
        let f = way_to_leaf m w.part r.route r.is_in in
        let s = split_at (f.at.first ∷ f.at.rest) r.route (among_leaf f.at r.route f.among) in
        let stands = behind_stands (leaves_in m) f.part.above None s.front (r.route ∷ s.back) (leaf_stands m f.part f.at.is s.is) in
        record {
          x = r.route;
          part = f.part;
          ups = f.ups;
          way = f.way;
          first = f.at.first;
          rest = f.at.rest;
          front = s.front;
          back = s.back;
          is = f.at.is;
          split = s.is;
          number = r.number;
          part_is = search (arith, inside);
        }

    pub member_once : {n : ℕ} {p : LeafPart V} (b : IsMember m w.part n p) (k : ℕ) → members_at k (b.front ++ (b.x ∷ b.back)) ≤ 1
    member_once b = chain_once b.x.entry.key w.part b.part b.ups b.way (once_but w) b.is b.split

    -- the room itself is not among the others
    pub own_out : (n : ℕ) (p : LeafPart V) (b : IsMember m w.part n p) → members_at n (b.front ++ b.back) ≡ 0
    own_out n p b =
        let most = member_once b n in
        search (arith, members_more, eq-eqb)

  -- ---- what the writes leave
  pub record IsUnlinked (m new : Lodged V) (l : Leaf) : Type 0 where
    pub leaves : (n : ℕ) → leaves_in new n ≡ link_out l n (leaves_in m n)
    pub heads : KeepsHeads m new
    pub masks : KeepsMasks m new

  -- what was read of the room is its part's leaf
  pub leaf_is : {m : Lodged V} {at : Id} (links : Links) {l : Leaf} (h : Has m at) {p : LeafPart V} → leaves_in m (number_of at) ≡ Some p → AreLinks m at links
      → l ≡ leaf_of links → l ≡ p.leaf
  leaf_is links h said are is = search (arith, inside, own_said)

  pub unlinked : (m new : Lodged V) {l k : Leaf} → l ≡ k → ((n : ℕ) → leaves_in new n ≡ link_out l n (leaves_in m n)) → KeepsHeads m new → KeepsMasks m new
      → IsUnlinked m new k
  unlinked m new same leaves heads masks = search arith

  -- ---- its neighbours
  module _ {m : Lodged V} {whole : Part m} {n : ℕ} (p : LeafPart V) (b : IsMember m whole n p) where
    pub before_there : (r : Id) → p.leaf.previous ≡ Some r → Has m r
    before_there r is = last_there m b.part.above None b.front (b.x ∷ b.back) r (leaf_stands m b.part b.is b.split)
        (sym (ap (λ q. q.leaf.previous) b.part_is) ∙ is)

    pub behind_there : (r : Id) → p.leaf.next ≡ Some r → Has m r
    behind_there r is = first_there m None (Some b.x.room) b.back r
        (behind_stands (leaves_in m) b.part.above None b.front (b.x ∷ b.back) (leaf_stands m b.part b.is b.split)).1
        (sym (ap (λ q. q.leaf.next) b.part_is) ∙ is)

    pub fork_above : (up : Id) → whole.above ≡ None → p.leaf.above ≡ Some up → (q : Part m) × ForkAt q up
    fork_above up top is = place_above m b.x.entry.key whole b.part b.ups b.front b.way top (sym (ap (λ q. q.leaf.above) b.part_is) ∙ is)

  -- the chain that is left, and who names it
  pub record IsLeft (m new : Lodged V) (key : ℕ) (whole at : Part m) (front back : List (Placed V)) (name : Node) : Type 0 where
    pub cons : IsCons (front ++ back)
    pub bits : (n : ℕ) → bits_in new n ≡ name_child at.above key (LeafOf cons.first.room) n (bits_in m n)
    pub named : root_after at.above (LeafOf cons.first.room) (name_of whole.tree) ≡ name

  pub left_renamed : {m : Lodged V} (new : Lodged V) {root : Node} {late : ℕ → Bool} (w : IsWholeBut m root late nobody_out) {n : ℕ} {p : LeafPart V}
      (b : IsMember m w.part n p) {to : Id} {name : Node} → p.leaf.next ≡ Some to
      → ((k : ℕ) → bits_in new k ≡ name_child p.leaf.above p.leaf.key (LeafOf to) k (bits_in m k))
      → name ≡ root_past p.leaf.previous p.leaf.above (LeafOf to) root → IsLeft m new b.x.entry.key w.part b.part b.front b.back name
  left_renamed {m = m} new {root = root} w b {to = to} next bits named =
      let h = head_of b.back (sym (ap (λ q. q.leaf.next) b.part_is) ∙ next) in
      let c = cons_at b.front h.behind h.first in
      record { cons = search (arith, cons_at); bits = search (arith, place_bits); named = search (arith, place_root) }

  -- the last of a chain goes, which isn't its first
  kept_at : (m new : Lodged V) {root : Node} (key : ℕ) (whole at : Part m) (ups : List (Part m)) (front back : List (Placed V)) → Way key whole at ups
      → whole.above ≡ None → name_of whole.tree ≡ root → FrontNamed front (name_of at.tree)
      → (last_room None front ≡ None → ⊥) → ((k : ℕ) → bits_in new k ≡ bits_in m k) → IsLeft m new key whole at front back root
  kept_at m new key whole at ups [] back way top named front_is some bits = absurd (some refl)
  kept_at m new key whole at ups (f ∷ front) back way top named front_is some bits =
      record {
        cons = record { first = f; rest = front ++ back; is = refl };
        bits = search (arith, turn_same);
        named = search (arith, root_same);
      }

  pub left_kept : {m : Lodged V} (new : Lodged V) {root : Node} {late : ℕ → Bool} (w : IsWholeBut m root late nobody_out) {n : ℕ} {p : LeafPart V}
      (b : IsMember m w.part n p) → p.leaf.next ≡ None
      → (p.leaf.previous ≡ None → (behind : Id) × (p.leaf.next ≡ Some behind)) → ((k : ℕ) → bits_in new k ≡ bits_in m k)
      → IsLeft m new b.x.entry.key w.part b.part b.front b.back root
  left_kept {m = m} new w b next first bits = search (arith, kept_at, front_named, none_some)

  abbrev pub out_chain : (m new : Lodged V) {root name : Node} {late : ℕ → Bool} (w : IsWholeBut m root late nobody_out) {n : ℕ} (p : LeafPart V)
      (b : IsMember m w.part n p) → IsUnlinked m new p.leaf → IsLeft m new b.x.entry.key w.part b.part b.front b.back name
      → Rechained m new b.x.entry.key w.part b.part (b.front ++ (b.x ∷ b.back)) (b.front ++ b.back)
  out_chain m new w p b u l =
      let order = leaf_chain b.part b.is b.split in
      let less = chain_less b.first.entry.key 34 b.front b.back b.x order in
      let key = chain_key b.first.entry.key 34 (b.front ++ b.back) less l.cons.first (subst (IsAmong l.cons.first) (sym l.cons.is) (inl refl)) in
      record {
        was = record { first = b.first; rest = b.rest; is = sym b.split };
        cons = l.cons;
        is = b.is;
        key_is = key;
        chain = subst (λ k. IsChain k 34 (b.front ++ b.back)) (sym key) less;
        stands = linked_out (leaves_in m) (leaves_in new) b.part.above b.front b.back b.x (leaf_stands m b.part b.is b.split) (member_once w b)
            (λ k. u.leaves k ∙ ap (λ q. link_out q.leaf k (leaves_in m k)) b.part_is);
        leaves = λ k none some.
            let more = members_more k b.front b.back b.x in
            out_others (leaves_in m) (leaves_in new) b.front b.back p.leaf k (ap (λ q. q.leaf.next) b.part_is)
            (ap (λ q. q.leaf.previous) b.part_is) (u.leaves k) (omega arith);
        bits = l.bits;
        heads = u.heads;
        masks = u.masks;
      }

  -- -------- a route goes out of the chain of its key
  -- ---- each room keeps its route
  pub unlinked_routes : (m new : Lodged V) (l : Leaf) → ((n : ℕ) → leaves_in new n ≡ link_out l n (leaves_in m n)) → KeepsRoutes m new
  unlinked_routes m new l is n = search (arith, next_same, back_same)

  pub routes_some : (m new : Lodged V) → KeepsRoutes m new → (n : ℕ) → is_some (leaves_in new n) ≡ is_some (leaves_in m n)
  routes_some m new keeps n = content_used (leaves_in new n) (leaves_in m n) (keeps n)

  abbrev content_of_key : ℕ → Option (Content V) → Bool
  content_of_key key None = false
  content_of_key key (Some c) = c.entry.key == key

  content_key : (key : ℕ) (o : Option (LeafPart V)) → content_of_key key (content_of o) ≡ is_of_key key o
  content_key key o = search arith

  pub routes_key : (m new : Lodged V) → KeepsRoutes m new → (key n : ℕ) → has_key new key n ≡ has_key m key n
  routes_key m new keeps key n = search (arith, content_key)

  -- ---- the whole
  module _ {m : Lodged V} {root : Node} {n : ℕ} (w : IsWholeBut m root (late_at n) nobody_out) (p : LeafPart V) (b : IsMember m w.part n p) where
    abbrev late_here : IsWholeBut m root (late_at (number_of b.x.room)) nobody_out
    late_here = later_than (late_at (number_of b.x.room)) (λ k late. ap (λ r. k == r) b.number ∙ late) w

    pub removed_whole : {new : Lodged V} {name : Node} → masks_in m n ≡ None → IsUnlinked m new p.leaf
        → IsLeft m new b.x.entry.key w.part b.part b.front b.back name → IsWholeBut new name nobody_late (out_at n)
    removed_whole {new = new} unmarked u l = subst (λ z. IsWholeBut new z nobody_late (out_at n)) l.named
        (subst (λ k. IsWholeBut new (root_after b.part.above (LeafOf l.cons.first.room) (name_of w.part.tree)) nobody_late (out_at k)) b.number
        (shrunk_whole m new b.x.entry.key b.front b.back b.x late_here b.part b.ups b.way (out_chain m new w p b u l) (member_once w b)
        (ap (masks_in m) b.number ∙ unmarked) (routes_some m new (unlinked_routes m new p.leaf u.leaves))))

    pub removed_routes : {new : Lodged V} {name : Node} → IsUnlinked m new p.leaf → IsLeft m new b.x.entry.key w.part b.part b.front b.back name
        → Gains (shown_entry p) (shown new (Some name)) (shown m (Some root))
    removed_routes {new = new} {name = name} u l = subst (λ e. Gains e (shown new (Some name)) (shown m (Some root))) (sym (ap shown_entry b.part_is))
        (subst (λ z. Gains b.x.entry (shown new (Some z)) (shown m (Some root))) l.named
        (shrunk_routes b.front b.back b.x w b.ups b.way (out_chain m new w p b u l)))

  pub own_kept : {m new : Lodged V} {root : Node} {late : ℕ → Bool} (w : IsWholeBut m root late nobody_out) {n : ℕ} {p : LeafPart V}
      (b : IsMember m w.part n p) → IsUnlinked m new p.leaf → leaves_in new n ≡ leaves_in m n
  own_kept {m = m} {new = new} w {n = n} {p = p} b u = out_others (leaves_in m) (leaves_in new) b.front b.back p.leaf n (ap (λ q. q.leaf.next) b.part_is)
      (ap (λ q. q.leaf.previous) b.part_is) (u.leaves n) (own_out w n p b)

  pub left_bits : {m new : Lodged V} {key : ℕ} {whole at : Part m} {front back : List (Placed V)} {name : Node} → IsLeft m new key whole at front back name
      → (n : ℕ) → is_some (bits_in new n) ≡ is_some (bits_in m n)
  left_bits {m = m} {key = key} {at = at} l n = search (arith, turn_used)

  -- ---- the other rooms of the key
  way_spare : (m : Lodged V) (key : ℕ) (whole at : Part m) (ups : List (Part m)) → Way key whole at ups → HaveOneFork (bits_in m) whole.tree
      → HaveOneFork (bits_in m) at.tree
  way_spare m key whole at [] way spare = subst (λ p. HaveOneFork (bits_in m) p.tree) (sym way) spare
  way_spare m key whole at (p ∷ ps) way spare = search (arith, way_spare m key whole p ps way.1 spare)

  pub idle_others : {m new : Lodged V} {root name : Node} {late : ℕ → Bool} (w : IsWholeBut m root late nobody_out) {n : ℕ} (p : LeafPart V)
      (b : IsMember m w.part n p) → IsUnlinked m new p.leaf
      → IsLeft m new b.x.entry.key w.part b.part b.front b.back name → {used : BitPart} → bits_in new n ≡ Some used → (k : ℕ) → has_key new p.leaf.key k ≡
      true → (k ≡ n → ⊥) → bits_in new k ≡ None
  idle_others {m = m} {new = new} w {n = n} p b u l is k keyed other =
      let some = left_bits l in
      let q = of_key p.leaf.key (leaves_in m k) (sym (routes_key m new (unlinked_routes m new p.leaf u.leaves) p.leaf.key k) ∙ keyed) in
      let r = whole_route w k q.1 in
      let key = ap (λ e. e.key) r.entry ∙ q.2 ∙ ap (λ z. z.leaf.key) b.part_is in
      let at = way_leads m w.part b.part b.ups b.way r.route r.is_in key in
      let among = subst (IsAmong r.route) b.split (subst (IsIn r.route) b.is at) in
      let spare = subst (HasOneFork (bits_in m)) b.split (search (arith, way_spare)) in
      let own = some_of (bits_in m n) (sym (some n) ∙ ap is_some is) in
      same_none (bits_in new k) (some k) (elim (among_less b.front b.back b.x r.route among) [
        | inl e ↦ search arith
        | inr among_others ↦ ap (bits_in m) (sym r.number)
            ∙ others_idle (bits_in m) b.front b.back b.x r.route spare (ap (bits_in m) b.number ∙ own.1) among_others
      ])

  -- ---- a neighbour afterwards
  counted_key : (m : Lodged V) (at : Part m) (z : Placed V) {zs c : List (Placed V)} (r : ℕ) → at.tree ≡ leaf z zs → z ∷ zs ≡ c → 1 ≤ members_at r c
      → has_key m z.entry.key r ≡ true
  counted_key m at z {c = c} r is same some =
      let y = among_at r c some in
      let s = tree_said (leaves_in m) (bits_in m) at.above at.tree at.stands y.0 (search arith) in
      search (arith, eq-eqb, chain_key, leaf_chain)

  pub neighbour : {m new : Lodged V} {root : Node} {late : ℕ → Bool} (w : IsWholeBut m root late nobody_out) {n : ℕ} (p : LeafPart V)
      (b : IsMember m w.part n p) → IsUnlinked m new p.leaf → (to : Id)
      → (p.leaf.next ≡ Some to) ⊎ (p.leaf.previous ≡ Some to) → Has new to × (number_of to ≡ n → ⊥) × (has_key new p.leaf.key (number_of to) ≡ true)
  neighbour {m = m} {new = new} w {n = n} p b u to side =
      let there = ⊎_elim (λ e. behind_there _ b to e) (λ e. before_there _ b to e) side in
      let sum = members_append (number_of to) b.front b.back in
      let more = members_more (number_of to) b.front b.back b.x in
      let some : 1 ≤ members_at (number_of to) (b.front ++ b.back) = search (arith, first_among, last_among) in
      let all : 1 ≤ members_at (number_of to) (b.front ++ (b.x ∷ b.back)) = omega arith in
      let first_key = sym (search (arith, chain_key, leaf_chain, among_own)) ∙ sym (ap (λ q. q.leaf.key) b.part_is) in
      let out = own_out w n p b in (
        Has-linked_out there new p.leaf u.leaves,
        search arith,
        routes_key m new (unlinked_routes m new p.leaf u.leaves) p.leaf.key (number_of to) ∙ ap (λ k. has_key m k (number_of to)) (sym first_key)
            ∙ counted_key m b.part b.first (number_of to) b.is b.split all,
      )
