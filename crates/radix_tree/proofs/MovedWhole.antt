-- A bit node in use moves from its room to another: what the rooms say afterwards is the tree with the bit node there.
use Rattle.radix_tree.proofs.{Beside.misses_leaf, Beside.misses_bit, PlugLists.marked_same, PlugLists.mask_list_same, PlugLists.lists_same, WholeChanges.Fits}
use Rattle.radix_tree.proofs.{WholeChanges.whole_changed, PartRooms.lifted, PartRooms.way_once, PartRooms.zero_turned, PartRooms.one_turned, Parts.fork_is}
use Rattle.radix_tree.proofs.{Parts.fork_stands, Parts.bit_part_of, Parts.way_lists, TreeMembers.of_key, Exchanging.exchanged, WholeRoutes.routes_changed}
use Rattle.radix_tree.proofs.{Facts.one_if_most, Facts.none_of, Plugs.one_fork_same, Plugs.counted_member, Plugs.spare_at, Plugs.spare_plug}
use Rattle.radix_tree.proofs.MovedReads.{one_if_is, one_if_not, at_room, rename_misses, renamed_to, renamed_off, leaf_off, bit_off, content_used, none_or_some}
use Rattle.radix_tree.proofs.MoveWrites.{bit_said, IsMove, IsMoved, at_once, at_forks, at_leaves, from_in, not_from, out_not_from, not_to, beneath_whole, apart}
use Rattle.radix_tree.proofs.MoveWrites.{not_spine, to_not_spine, contents_stay, used_stays, used_to, used_from, bit_lifts, head_stays}
use Rattle.radix_tree.proofs.Words.{◌≡◌, ℕ, ◌+◌, ◌≤◌, ◌==◌, true, false, if◌then◌else◌, List, ◌∷◌, Some, None, refl, sym, ap, ◌∙◌, subst, inl, inr, arith}
use Rattle.radix_tree.proofs.Words.{eqb-true, is_some, Id, Node, BitOf, BitNode, fork, bit_at, HaveBit, IsIn, Part, leaves_in, bits_in, heads_in, masks_in}
use Rattle.radix_tree.proofs.Words.{bit_part, head_part, name_of, Stands, Beneath, Way, one_if, forks_at, name_child, with_child, AreOnce, MarkedLists}
use Rattle.radix_tree.proofs.Words.{nobody_late, out_at, put_bit, put_head, lift_leaf, lift_bit, IsExchange, with_renamed, rename, Lodged, [], cases_eq}
use Rattle.radix_tree.proofs.Words.{MarkedIn, number_of, Option, eq-eqb, Placed, Tree, leaf, IsChain, IsTree, Bits, ChainStands, members_at, leaves_at, AreIdle}
use Rattle.radix_tree.proofs.Words.{HasOneFork, HaveOneFork, has_key, CanTake, shown, root_after, Exchanged, IsWholeBut}

module _ {V : Type 0} where
  -- ---- the part with the bit node in the other room
  module _ {m new : Lodged V} {root : Node} {from to : Id} {n : BitNode} (v : IsMove m root from to n) (d : IsMoved m new from to n) where
    pub left_stands : Stands (leaves_in new) (bits_in new) (Some to) v.f.zero
    left_stands =
        let once = at_once v in
        lifted (leaves_in m) (leaves_in new) (bits_in m) (bits_in new) (Some v.room) (Some to) v.f.zero
        (λ k some. let sum = at_leaves v k in let most = once.leaves k in
        d.leaves k ∙ misses_leaf n.one k (leaf_off v.f.one k v.right (omega arith)) (Some to) (lift_leaf n.zero (Some to) k (leaves_in m k))
        ∙ ap (λ z. lift_leaf z (Some to) k (leaves_in m k)) v.left) (λ k some. let sum = at_forks v k in
        let most = once.forks k in
        let le = beneath_whole v k in
        bit_lifts d k (not_from v k (omega arith)) (not_to v k (omega arith))
        ∙ rename_misses n.above from to k (lift_bit n.one (Some to) k (lift_bit n.zero (Some to) k (bits_in m k))) (not_spine v k (omega arith))
        ∙ misses_bit n.one k (bit_off v.f.one k v.right (omega arith)) (Some to) (lift_bit n.zero (Some to) k (bits_in m k))
        ∙ ap (λ z. lift_bit z (Some to) k (bits_in m k)) v.left) (record {
          leaves = λ k. let sum = at_leaves v k in let most = once.leaves k in omega arith;
          forks = λ k. let sum = at_forks v k in
              omega arith;
        }) (fork_stands v.f).1

    pub right_stands : Stands (leaves_in new) (bits_in new) (Some to) v.f.one
    right_stands =
        let once = at_once v in
        lifted (leaves_in m) (leaves_in new) (bits_in m) (bits_in new) (Some v.room) (Some to) v.f.one
        (λ k some. let sum = at_leaves v k in let most = once.leaves k in
        d.leaves k ∙ ap (λ o. lift_leaf n.one (Some to) k o) (misses_leaf n.zero k (leaf_off v.f.zero k v.left (omega arith)) (Some to) (leaves_in m k))
        ∙ ap (λ z. lift_leaf z (Some to) k (leaves_in m k)) v.right) (λ k some. let sum = at_forks v k in
        let most = once.forks k in
        let le = beneath_whole v k in
        bit_lifts d k (not_from v k (omega arith)) (not_to v k (omega arith))
        ∙ rename_misses n.above from to k (lift_bit n.one (Some to) k (lift_bit n.zero (Some to) k (bits_in m k))) (not_spine v k (omega arith))
        ∙ ap (lift_bit n.one (Some to) k) (misses_bit n.zero k (bit_off v.f.zero k v.left (omega arith)) (Some to) (bits_in m k))
        ∙ ap (λ z. lift_bit z (Some to) k (bits_in m k)) v.right) (record {
          leaves = λ k. let sum = at_leaves v k in let most = once.leaves k in omega arith;
          forks = λ k. let sum = at_forks v k in
              omega arith;
        }) (fork_stands v.f).2

    pub here_said : bits_in new (number_of to) ≡ Some
        (record { block = to.block; bit = v.f.bit; zero = name_of v.f.zero; one = name_of v.f.one; above = v.at.above })
    here_said = d.bits (number_of to) ∙ rename_misses n.above from to (number_of to) (put_bit to (Some n) (number_of to)
        (put_bit from None (number_of to) (lift_bit n.one (Some to) (number_of to) (lift_bit n.zero (Some to) (number_of to) (bits_in m (number_of to))))))
        (to_not_spine v) ∙ at_room to (number_of to) (bit_part to.block (Some n)) (put_bit from None (number_of to)
        (lift_bit n.one (Some to) (number_of to) (lift_bit n.zero (Some to) (number_of to) (bits_in m (number_of to))))) refl
        ∙ bit_said to n v.bit v.left v.right v.above

    abbrev pub under_of : Part new
    under_of = record {
      tree = fork to v.f.bit v.f.zero v.f.one;
      low = v.at.low;
      above = v.at.above;
      is = fork_is v.f;
      stands = (here_said, left_stands, right_stands);
    }

  -- ---- the bit node above
  module _ {m : Lodged V} {key : ℕ} {under over : Part m} (b : Beneath key under over) where
    zero_named : (from to room : Id) → name_of under.tree ≡ BitOf room → number_of room ≡ number_of from → under.tree ≡ b.at.zero → bit_at b.at.bit key ≡ 0
        → forks_at (number_of from) b.at.one ≡ 0 → with_renamed from to (Some (bit_part_of b.at)) ≡ with_child key (BitOf to) (Some (bit_part_of b.at))
    zero_named from to room named same tree clear none = search (arith, bit_part_of, renamed_to, renamed_off, zero_turned)

    one_named : (from to room : Id) → name_of under.tree ≡ BitOf room → number_of room ≡ number_of from → under.tree ≡ b.at.one → bit_at b.at.bit key ≡ 1
        → forks_at (number_of from) b.at.zero ≡ 0 → with_renamed from to (Some (bit_part_of b.at)) ≡ with_child key (BitOf to) (Some (bit_part_of b.at))
    one_named from to room named same tree set none = search (arith, renamed_to, renamed_off, bit_part_of, one_turned)

    -- to name the room by its number is to turn the bit node above on the side of the way
    over_named : (from to room : Id) → AreOnce over.tree → 1 ≤ forks_at (number_of from) under.tree → name_of under.tree ≡ BitOf room
        → number_of room ≡ (number_of from) → with_renamed from to (bits_in m (number_of b.room)) ≡ with_child key (BitOf to) (bits_in m (number_of b.room))
    over_named from to room once some named same =
        let sum = ap (forks_at (number_of from)) b.at.is in
        search (arith, zero_named, one_named)

  spine_named : (m : Lodged V) (from to room : Id) (key : ℕ) (whole at : Part m) (ups : List (Part m)) → Way key whole at ups → whole.above ≡ None
      → AreOnce whole.tree → 1 ≤ forks_at (number_of from) at.tree → name_of at.tree ≡ BitOf room → number_of room ≡ (number_of from)
      → (k : ℕ) → rename at.above from to k (bits_in m k) ≡ name_child at.above key (BitOf to) k (bits_in m k)
  spine_named m from to room key whole at [] way top once some named same k = search arith
  spine_named m from to room key whole at (p ∷ ps) way top once some named same k =
      let b = way.0 in
      ap (λ o. rename o from to k (bits_in m k)) b.above ∙ elim (k == number_of b.room) as (λ t. (k == number_of b.room) ≡ t
      → (if t then with_renamed from to (bits_in m k) else bits_in m k) ≡ (if t then with_child key (BitOf to) (bits_in m k) else bits_in m k)) [
        | true ↦ search (arith, eqb-true, over_named, way_once)
        | false ↦ λ e. refl
      ] refl ∙ sym (ap (λ o. name_child o key (BitOf to) k (bits_in m k)) b.above)

  -- ---- the exchange
  module _ {m new : Lodged V} {root : Node} {from to : Id} {n : BitNode} (v : IsMove m root from to n) (d : IsMoved m new from to n) where
    pub exchange : IsExchange m new v.key v.whole.part v.at (under_of v d)
    exchange = record {
      low = refl;
      above = refl;
      keys = λ c value before have. subst (HaveBit c value) v.f.is have;
      leaves = λ k none some. let sum = at_leaves v k in
          d.leaves k ∙ misses_leaf n.one k (leaf_off v.f.one k v.right (omega arith)) (Some to) (lift_leaf n.zero (Some to) k (leaves_in m k))
          ∙ misses_leaf n.zero k (leaf_off v.f.zero k v.left (omega arith)) (Some to) (leaves_in m k);
      bits = λ k none some. let sum = at_forks v k in
          let own = from_in v in
          bit_lifts d k (out_not_from v k none) (not_to v k some) ∙ ap (rename n.above from to k)
          (misses_bit n.one k (bit_off v.f.one k v.right (omega arith)) (Some to) (lift_bit n.zero (Some to) k (bits_in m k))
          ∙ misses_bit n.zero k (bit_off v.f.zero k v.left (omega arith)) (Some to) (bits_in m k)) ∙ ap (λ o. rename o from to k (bits_in m k)) v.above
          ∙ spine_named m from to v.room v.key v.whole.part v.at v.ups v.way v.whole.top v.once own (ap name_of v.f.is) v.number k;
    }

    -- the masks stay, and the lists with them
    lists_moved : MarkedLists (heads_in new) (masks_in new) v.at.low (fork to v.f.bit v.f.zero v.f.one)
    lists_moved =
        let old = subst (MarkedLists (heads_in m) (masks_in m) v.at.low) v.f.is (search (arith, way_lists)) in
        let head = d.heads (number_of to) ∙ at_room to (number_of to) (head_part (Some n)) (put_head from None (number_of to) (heads_in m (number_of to))) refl
        ∙ sym v.head ∙ ap (heads_in m) (sym v.number) in
        let stays : (k : ℕ) → 1 ≤ forks_at k v.f.zero + forks_at k v.f.one → heads_in new k ≡ heads_in m k = λ k some. let le = beneath_whole v k in
        head_stays d k (not_from v k some) (not_to v k (omega arith)) in (
          mask_list_same (masks_in m) (masks_in new) v.at.low v.f.bit (MarkedIn (masks_in new) (fork to v.f.bit v.f.zero v.f.one)) head
              (search (arith, marked_same)) (search (arith, marked_same)) old.0,
          search (arith, lists_same),
          search (arith, lists_same),
        )

    -- what each number has in use
    count_moved : (k : ℕ) → one_if (number_of to == k) + one_if (is_some (bits_in m k)) ≡ one_if (number_of v.room == k) + one_if (is_some (bits_in new k))
    count_moved k =
        let other = apart v in
        elim (cases_eq (number_of to) k) [
          | inl same ↦ let a = one_if_is k same in
              let b = ap (λ o. one_if (is_some o)) (ap (bits_in m) (sym same) ∙ v.takes.free) in
              let c = one_if_not (number_of v.room) k (λ (e : number_of v.room ≡ k). other (sym v.number ∙ e ∙ sym same)) in
              let e = ap one_if (used_to d k (sym same)) in omega arith
          | inr off ↦ let a = one_if_not (number_of to) k off in
              elim (cases_eq (number_of v.room) k) [
                | inl same ↦ let b = ap (λ o. one_if (is_some o)) (ap (bits_in m) (sym same) ∙ (fork_stands v.f).0) in
                    let c = one_if_is k same in
                    let e = ap one_if (used_from d other k (sym same ∙ v.number)) in omega arith
                | inr far ↦ let c = one_if_not (number_of v.room) k far in
                    let e = ap one_if (used_stays d k (λ (s : k ≡ number_of from). far (v.number ∙ sym s))
                    (λ (s : k ≡ number_of to). off (sym s))) in omega arith
              ]
        ]

    pub fits : Fits m new v.whole.part v.at (under_of v d) nobody_late nobody_late (out_at (number_of from)) (out_at (number_of from))
    fits =
        record {
          leaves = λ k.
              let sum = at_leaves v k in
              let used = ap one_if (content_used (leaves_in new k) (leaves_in m k) (contents_stay d k)) in omega arith;
          forks = search (arith, at_forks, count_moved);
          heads = λ k none some. head_stays d k (out_not_from v k none) (not_to v k some);
          masks = λ k none some. d.masks k;
          masks_above = λ y is below marked. d.masks (number_of y.room);
          marks = λ k p is. (p, sym (d.masks k) ∙ is);
          kept = search arith;
          came = λ y is marked. subst (IsIn y) (sym v.f.is) is;
          gone = search (arith, marked_same);
          lists = lists_moved;
          all = λ y is home. inr (subst (IsIn y) (sym v.f.is) is, search arith, search (arith, marked_same), λ late. late);
          late_aside = λ k none some late. late;
        }

  -- -------- in each chain at most one bit node is in use, also where one has moved to another room
  -- ---- one chain
  -- where all are idle but for one room's
  all_idle : (C : Bits) (c : List (Placed V)) → ((n : ℕ) → 1 ≤ members_at n c → C n ≡ None) → AreIdle C c
  all_idle C [] none = tt
  all_idle C (x ∷ xs) none = search (arith, all_idle C xs)

  one_at : (C : Bits) (to : ℕ) (c : List (Placed V)) → members_at to c ≤ 1 → ((n : ℕ) → 1 ≤ members_at n c → (n ≡ to → ⊥) → C n ≡ None) → HasOneFork C c
  one_at C to [] most none = tt
  one_at C to (x ∷ xs) most none = search (arith, cases_eq, all_idle, one_at C to xs)

  -- ---- the rooms of a chain have its key
  pub chain_keyed : (m : Lodged V) (above previous : Option Id) (key top : ℕ) (c : List (Placed V)) → ChainStands (leaves_in m) above previous c
      → IsChain key top c → (n : ℕ) → 1 ≤ members_at n c → has_key m key n ≡ true
  chain_keyed m above previous key top [] stands is n some = absurd (omega arith)
  chain_keyed m above previous key top (x ∷ xs) stands is n some =
      search (arith, cases_eq, eq-eqb, chain_keyed m None (Some x.room) key x.entry.rank xs stands.1 is.3 n)

  -- ---- the tree
  pub moved_spare : (m : Lodged V) (C : Bits) {from : Id} (to : Id) (above : Option Id) (low : ℕ) (t : Tree V) → IsTree low t
      → Stands (leaves_in m) (bits_in m) above t → leaves_at (number_of to) t ≤ 1
      → ((n : ℕ) → 1 ≤ leaves_at n t → (n ≡ number_of to → ⊥) → bits_in m n ≡ None → C n ≡ None) → ((n : ℕ) → 1 ≤ leaves_at n t → n ≡ number_of from → ⊥)
      → CanTake m from to → HaveOneFork (bits_in m) t → HaveOneFork C t
  moved_spare m C to above low (leaf x xs) is stands once none off takes spare =
      elim (none_or_some (members_at (number_of to) (x ∷ xs))) [
        | inl out ↦ one_fork_same (bits_in m) C (x ∷ xs) (search (arith, counted_member)) spare
        | inr there ↦ let keyed = chain_keyed m above None x.entry.key 34 (x ∷ xs) stands is.1 in
            let p = of_key x.entry.key (leaves_in m (number_of to)) (keyed (number_of to) there) in
            one_at C (number_of to) (x ∷ xs) once (search arith)
      ]
  moved_spare m C to above low (fork room b zero one) is stands once none off takes spare = (
    moved_spare m C to (Some room) (b + 1) zero is.1 stands.1 (omega arith) (λ n some. none n (omega arith)) (λ n some. off n (omega arith)) takes spare.0,
    moved_spare m C to (Some room) (b + 1) one is.2 stands.2 (omega arith) (λ n some. none n (omega arith)) (λ n some. off n (omega arith)) takes spare.1,
  )

  -- -------- a bit node in use moves from its room to another: the whole afterwards
  module _ {m : Lodged V} {root : Node} (from : ℕ) (w : IsWholeBut m root nobody_late (out_at from)) where
    -- a room on its way out is no leaf of the tree
    pub out_leaf : leaves_at from w.part.tree ≡ 0
    out_leaf = search (arith, one_if_is, one_if_most)

    pub out_apart : (k : ℕ) → 1 ≤ leaves_at k w.part.tree → k ≡ from → ⊥
    out_apart k some same = search (arith, out_leaf)

    pub leaves_once : (k : ℕ) → leaves_at k w.part.tree ≤ 1
    leaves_once k = search (arith, one_if_most)

  module _ {m : Lodged V} {root : Node} {from to : Id} {n : BitNode} (v : IsMove m root from to n) where
    -- in each chain of the tree of before at most one bit node is in use
    spare_before : (new : Lodged V) → IsMoved m new from to n → HaveOneFork (bits_in new) v.whole.part.tree
    spare_before new d =
        let w = v.whole in
        moved_spare m (bits_in new) to w.part.above w.part.low w.part.tree w.part.is w.part.stands (leaves_once (number_of from) w (number_of to))
        (λ k some other none. none_of (bits_in new k) (used_stays d k (out_apart (number_of from) w k some) other
        ∙ ap is_some none)) (out_apart (number_of from) w) v.takes w.spare

    abbrev name_now : Node
    name_now = root_after v.at.above (BitOf to) (name_of v.whole.part.tree)

    changed : (new : Lodged V) (d : IsMoved m new from to n) → Exchanged m new v.key v.whole.part v.at (under_of v d) name_now
    changed new d = exchanged m new v.whole.part v.at v.ups v.way v.whole.top v.once (exchange v d)

    spare_now : (new : Lodged V) (d : IsMoved m new from to n) (e : Exchanged m new v.key v.whole.part v.at (under_of v d) name_now)
        → HaveOneFork (bits_in new) e.part.tree
    spare_now new d e =
        let before = subst (HaveOneFork (bits_in new)) e.was (spare_before new d) in
        let own = subst (HaveOneFork (bits_in new)) v.f.is (spare_at (bits_in new) e.frames v.at.tree before) in
        subst (HaveOneFork (bits_in new)) (sym e.is_now) (search (arith, spare_plug))

    named_now : name_now ≡ root_after n.above (BitOf to) root
    named_now = search arith

    pub whole_moved : {new : Lodged V} {name : Node} (d : IsMoved m new from to n) → name ≡ root_after n.above (BitOf to) root
        → IsWholeBut new name nobody_late (out_at (number_of from))
    whole_moved {new = new} d is =
        let e = changed new d in
        subst (λ z. IsWholeBut new z nobody_late (out_at (number_of from))) (named_now ∙ sym is) (whole_changed v.whole e (fits v d) (spare_now new d e))

    pub routes_moved : {new : Lodged V} {name : Node} (d : IsMoved m new from to n) → name ≡ root_after n.above (BitOf to) root
        → shown new (Some name) ≡ shown m (Some root)
    routes_moved {new = new} d is =
        let e = changed new d in
        let s = routes_changed v.whole e in
        search (arith, named_now)
