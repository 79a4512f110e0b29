-- A route comes into the chain of its key.
use Rattle.radix_tree.proofs.{TreeMembers.IsSaid, TreeMembers.chain_key, TreeMembers.tree_said, TreeMembers.whole_route, RoomReads.Has-leaf, Parts.leaf_run}
use Rattle.radix_tree.proofs.{Parts.in_leaf, Parts.way_inside, PartRooms.way_once, Beside.over_at, Beside.stays, Beside.not_new, WholeChanges.once_but}
use Rattle.radix_tree.proofs.{ChainGaps.behind_stands, ChainLists.linked_in, ChainLists.in_others, ChainLists.cons_at, ChainLists.chain_more}
use Rattle.radix_tree.proofs.{MovedReads.next_same, MovedReads.back_same, MovedReads.content_used}
use Rattle.radix_tree.proofs.ChainWholes.{grown_whole, grown_routes, Rechained, front_named, place_bits, place_root}
use Rattle.radix_tree.proofs.Words.{inside, none_some, ◌≡◌, ℕ, ◌≤◌, ◌==◌, ◌||◌, List, ◌∷◌, ◌++◌, Option, Some, None, refl, sym, ap, ◌∙◌, subst, arith, ne_eqb}
use Rattle.radix_tree.proofs.Words.{is_some, Has, Id, Leaf, Node, LeafOf, IsRoute, Placed, leaf, IsIn, LeafPart, Part, Run, leaves_in, bits_in, masks_in}
use Rattle.radix_tree.proofs.Words.{name_of, first_room, ChainStands, Way, LedTo, ForkAt, HasPair, members_at, IsWhole, shown, name_child, root_after, placed}
use Rattle.radix_tree.proofs.Words.{Gains, AreOnce, IsWholeBut, late_at, nobody_out, lodge_leaf, KeepsBits, KeepsHeads, KeepsMasks, link_in, above_behind}
use Rattle.radix_tree.proofs.Words.{last_room, root_past, IsGap, FindsGap, Entry, Lodged, [], number_of}

module _ {V : Type 0} where
  -- ---- members on both sides of a place are in the map
  said_there : (m : Lodged V) (x : Placed V) (r : Id) → IsSaid (leaves_in m) x → x.room ≡ r → Has m r
  said_there m x r s same = subst (Has m) same (Has-leaf m x.room s.3 refl)

  pub first_there : (m : Lodged V) (above previous : Option Id) (c : List (Placed V)) (r : Id) → ChainStands (leaves_in m) above previous c
      → first_room c ≡ Some r → Has m r
  first_there m above previous [] r stands is = absurd (none_some is)
  first_there m above previous (x ∷ c) r stands is = search (arith, said_there, inside)

  pub last_there : (m : Lodged V) (above previous : Option Id) (front back : List (Placed V)) (r : Id)
      → ChainStands (leaves_in m) above previous (front ++ back) → last_room None front ≡ Some r → Has m r
  last_there m above previous [] back r stands is = absurd (none_some is)
  last_there m above previous (x ∷ []) back r stands is = search (arith, said_there, inside)
  last_there m above previous (x ∷ y ∷ front) back r stands is = last_there m None (Some x.room) (y ∷ front) back r stands.1 is

  -- the bit node above a place, where there is one
  pub place_above : (m : Lodged V) (key : ℕ) (whole at : Part m) (ups : List (Part m)) (front : List (Placed V)) {up : Id} → Way key whole at ups
      → whole.above ≡ None → above_behind at.above front ≡ Some up → (p : Part m) × ForkAt p up
  place_above m key whole at ups [] way top is = over_at m key whole at ups way top refl is
  place_above m key whole at ups (f ∷ front) way top is = absurd (none_some is)

  -- ---- the gap in the chain of a leaf
  module _ {m : Lodged V} {key : ℕ} {whole : Part m} {first : Id} (d : LedTo key whole first) where
    abbrev pub chain_of : Run m
    chain_of = leaf_run m d.leaf

    pub gap_before : {rank : ℕ} {l : Leaf} → IsGap rank chain_of key l → (r : Id) → l.previous ≡ Some r → Has m r
    gap_before g r is = last_there m d.part.above None g.front g.back r (search arith) (sym (ap (λ z. z.previous) g.leaf) ∙ is)

    pub gap_behind : {rank : ℕ} {l : Leaf} → IsGap rank chain_of key l → (r : Id) → l.next ≡ Some r → Has m r
    gap_behind g r is =
        first_there m (above_behind d.part.above g.front) (last_room None g.front) g.back r (search (arith, behind_stands)) (sym (ap (λ z. z.next) g.leaf) ∙ is)

  -- it is there once the room is lodged
  pub lodged_above : (m new : Lodged V) (room : Id) (value : V) (l : Leaf) (up : Id) → leaves_in m (number_of room) ≡ None
      → ((n : ℕ) → leaves_in new n ≡ lodge_leaf room value l n (leaves_in m n)) → KeepsBits m new → (p : Part m) × ForkAt p up → (p : Part new) × ForkAt p up
  lodged_above m new room value l up free leaves bits p = (
    stays m new p.0 (search (arith, ne_eqb, not_new)) (λ n some. bits n),
    search arith,
  )

  pub gap_above : (m : Lodged V) {key rank : ℕ} (whole : Part m) {first : Id} (d : LedTo key whole first) {l : Leaf} → whole.above ≡ None
      → IsGap rank (chain_of d) key l → (up : Id) → l.above ≡ Some up → (p : Part m) × ForkAt p up
  gap_above m {key = key} whole d top g up is = place_above m key whole d.part d.ups g.front d.way top (sym (ap (λ z. z.above) g.leaf) ∙ is)

  -- ---- what the writes leave
  pub record IsWritten (m new : Lodged V) (id : Id) (e : Entry V) (l : Leaf) : Type 0 where
    pub free : leaves_in m (number_of id) ≡ None
    pub no_bit : bits_in m (number_of id) ≡ None
    pub no_mask : masks_in m (number_of id) ≡ None
    pub leaves : (n : ℕ) → leaves_in new n ≡ link_in id e.value l n (leaves_in m n)
    pub bits : (n : ℕ) → bits_in new n ≡ name_child l.above e.key (LeafOf id) n (bits_in m n)
    pub heads : KeepsHeads m new
    pub masks : KeepsMasks m new

  lodged_some : (room : Id) (value : V) (l : Leaf) (n : ℕ) (said : Option (LeafPart V))
      → is_some (lodge_leaf room value l n said) ≡ (n == number_of room) || is_some said
  lodged_some room value l n said = search arith

  pub linked_rooms : (m new : Lodged V) (id : Id) (value : V) (l : Leaf) → ((n : ℕ) → leaves_in new n ≡ link_in id value l n (leaves_in m n)) → (n : ℕ)
      → is_some (leaves_in new n) ≡ (n == number_of id) || is_some (leaves_in m n)
  linked_rooms m new id value l is n = search (arith, content_used, back_same, next_same, lodged_some)

  pub cons_key : (front back : List (Placed V)) (x z : Placed V) (zs : List (Placed V)) → z ∷ zs ≡ front ++ back → z.entry.key ≡ x.entry.key
      → (cons_at front back x).first.entry.key ≡ z.entry.key
  cons_key front back x z zs is same = search arith

  -- no room is twice in the chain
  pub chain_once : {m : Lodged V} (key : ℕ) (whole at : Part m) (ups : List (Part m)) {z : Placed V} {zs c : List (Placed V)} → Way key whole at ups
      → AreOnce whole.tree → at.tree ≡ leaf z zs → z ∷ zs ≡ c → (n : ℕ) → members_at n c ≤ 1
  chain_once key whole at ups {c = c} way once is same n =
      let few = (way_once key whole at ups way once).leaves n in
      search arith

  module _ {m : Lodged V} (e : Entry V) {first : Id} {root : Node} (w : IsWhole m root) (d : LedTo e.key w.part first) {l : Leaf}
      (g : IsGap e.rank (chain_of d) e.key l) where
    -- the chain afterwards
    abbrev pub in_chain : (new : Lodged V) (id : Id) → d.leaf.first.entry.key ≡ e.key → IsRoute e → IsWritten m new id e l
        → Rechained m new e.key w.part d.part (g.front ++ g.back) (g.front ++ (placed id e ∷ g.back))
    in_chain new id same route wr =
        let c = chain_of d in
        let once = chain_once e.key w.part d.part d.ups d.way (once_but w) d.leaf.is g.is in
        let key = cons_key g.front g.back (placed id e) d.leaf.first d.leaf.rest g.is same in
        let most = route.rank in
        record {
          was = record { first = d.leaf.first; rest = d.leaf.rest; is = sym g.is };
          cons = cons_at g.front g.back (placed id e);
          is = d.leaf.is;
          key_is = key;
          chain = search (arith, chain_more);
          stands = linked_in (leaves_in m) (leaves_in new) d.part.above g.front g.back (placed id e)
              (subst (ChainStands (leaves_in m) d.part.above None) g.is c.stands) wr.free once
              (λ n. wr.leaves n ∙ ap (λ z. link_in id e.value z n (leaves_in m n)) g.leaf);
          leaves = λ n none some. in_others (leaves_in m) (leaves_in new) g.front g.back id e.value l n (ap (λ z. z.next) g.leaf)
              (ap (λ z. z.previous) g.leaf) (wr.leaves n) (not_new w.part id wr.free n some) none;
          bits = λ n. wr.bits n ∙ ap (λ z. name_child z.above e.key (LeafOf id) n (bits_in m n)) g.leaf
              ∙ place_bits m e.key w.part d.part d.ups g.front g.back (placed id e) d.way w.top (front_named g.front g.back d.leaf.is g.is) n;
          heads = wr.heads;
          masks = wr.masks;
        }

    in_name : (new : Lodged V) (id : Id)
        → root_after d.part.above (LeafOf (cons_at g.front g.back (placed id e)).first.room) (name_of w.part.tree) ≡ root_past l.previous l.above
        (LeafOf id) root
    in_name new id = search (arith, place_root, front_named)

    pub inserted_whole : (new : Lodged V) (id : Id) → d.leaf.first.entry.key ≡ e.key → IsRoute e → IsWritten m new id e l
        → IsWholeBut new (root_past l.previous l.above (LeafOf id) root) (late_at (number_of id)) nobody_out
    inserted_whole new id same route wr = subst (λ z. IsWholeBut new z (late_at (number_of id)) nobody_out) (in_name new id)
        (grown_whole w g.front g.back (placed id e) (in_chain new id same route wr) d.ups d.way wr.free wr.no_mask wr.no_bit
        (linked_rooms m new id e.value l wr.leaves))

    pub inserted_routes : (new : Lodged V) (id : Id) → d.leaf.first.entry.key ≡ e.key → IsRoute e → IsWritten m new id e l
        → Gains e (shown m (Some root)) (shown new (Some (root_past l.previous l.above (LeafOf id) root)))
    inserted_routes new id same route wr = subst (λ z. Gains e (shown m (Some root)) (shown new (Some z))) (in_name new id)
        (grown_routes w g.front g.back (placed id e) (in_chain new id same route wr) d.ups d.way)

  -- ---- a member has the rank
  pub taken_there : {m : Lodged V} (key rank : ℕ) {root : Node} {first : Id} (w v : IsWhole m root) (d : LedTo key w.part first) → d.leaf.first.entry.key ≡
      key → FindsGap key rank (chain_of d) None → (x : Placed V) × IsIn x v.part.tree × HasPair key rank x
  taken_there {m = m} key rank w v d same g =
      let inside_leaf = in_leaf d.leaf g.0 g.1 in
      let own = way_inside m key w.part d.part d.ups d.way g.0 inside_leaf in
      let s = tree_said (leaves_in m) (bits_in m) w.part.above w.part.tree w.part.stands g.0 own in
      let r = whole_route v (number_of g.0.room) s.3 in
      (r.route, r.is_in, search (arith, chain_key))
