-- Walks along a list of masks: to a rank, and to its end where all are cleared.
use Rattle.radix_tree.proofs.{RoomReads.Has-mask, TreeMembers.head_of, MaskLists.not_below_short, MaskLists.not_below_long, MaskLists.below_short}
use Rattle.radix_tree.proofs.{MaskLists.below_long, MaskChanges.apart, MaskChanges.stand_same, MaskChanges.are_ranked_same, MaskChanges.put_aside}
use Rattle.radix_tree.proofs.Words.{◌≡◌, ℕ, ◌+◌, ◌≤◌, ◌<◌, List, ◌∷◌, Option, Some, None, refl, sym, ap, ◌∙◌, subst, arith, Counter, Has, Id, Leaf, MaskNode}
use Rattle.radix_tree.proofs.Words.{IsRanked, AreRanked, last_from, last_mask, not_below, below, ReadsOnce, LeafPart, MaskPart, leaves_in, masks_in, mask_part}
use Rattle.radix_tree.proofs.Words.{first_room, MasksStand, Falls, Placed, Lodged, number_of, ◌⊎◌, inl, inr, IsAmong, Leaves, KeepsLeaves, put_mask, IsAside}

module _ {V : Type 0} where
  -- ---- the room of a mask's route
  pub rank_told : (m : Lodged V) {x : Placed V} {room : Id} (l : Leaf) → IsRanked (leaves_in m) x → x.room ≡ room
      → ((p : LeafPart V) → leaves_in m (number_of room) ≡ Some p → l ≡ p.leaf) → l.rank ≡ x.entry.rank
  rank_told m l r room_is told = grind arith

  abbrev part_of : (room : Id) (ms : List (Placed V)) → MaskPart
  part_of room ms = record { block = room.block; next = first_room ms }

  -- it is a mask node, and names the next one
  abbrev pub listed_as : (m : Lodged V) (x : Placed V) (xs : List (Placed V)) {room : Id} → MasksStand (masks_in m) (x ∷ xs) → x.room ≡ room
      → (p : MaskPart) × (masks_in m (number_of room) ≡ Some p) × (p.block ≡ room.block)
  listed_as m x xs {room = room} stands room_is = (part_of room xs, subst (λ i. masks_in m (number_of i) ≡ Some (part_of i xs)) room_is stands.0, refl)

  pub Has-listed : {m : Lodged V} {room : Id} → (p : MaskPart) × (masks_in m (number_of room) ≡ Some p) × (p.block ≡ room.block) → Has m room
  Has-listed {m} {room} l = Has-mask m room l.1 l.2

  pub next_told : (m : Lodged V) (x : Placed V) (xs : List (Placed V)) {room : Id} (n : MaskNode) → MasksStand (masks_in m) (x ∷ xs) → x.room ≡ room
      → masks_in m (number_of room) ≡ mask_part room.block (Some n) → first_room xs ≡ n.next
  next_told m x xs n stands room_is said = grind arith

module _ {V : Type 0} where
  -- ---- a walk past the masks of ranks at or past low
  pub record Passing (m : Lodged V) (low : ℕ) (ms : List (Placed V)) (before at : Option Id) (start now : Counter) : Type 0 where
    pub rest : List (Placed V)
    pub top : ℕ
    pub begins : first_room rest ≡ at
    pub stands : MasksStand (masks_in m) rest
    pub falls : Falls 0 top rest
    pub ranked : AreRanked (leaves_in m) rest
    pub last : last_from before (not_below low rest) ≡ last_mask (not_below low ms)
    pub left : below low rest ≡ below low ms
    pub rises : start.count ≤ now.count
    pub few : now.count + top ≤ start.count + 34

  -- the mask that it has come to
  pub record Next (m : Lodged V) (low : ℕ) (ms : List (Placed V)) (before : Option Id) (room : Id) (start now : Counter) : Type 0 where
    pub route : Placed V
    pub room_is : route.room ≡ room
    pub ranked : IsRanked (leaves_in m) route
    pub listed : (p : MaskPart) × (masks_in m (number_of room) ≡ Some p) × (p.block ≡ room.block)
    pub soon : now.count ≤ start.count + 33
    -- a shorter one, or one to be passed
    pub stopped : route.entry.rank < low → (last_mask (not_below low ms) ≡ before) × (first_room (below low ms) ≡ Some room)
    pub passed : (n : MaskNode) (later : Counter) → masks_in m (number_of room) ≡ mask_part room.block (Some n) → low ≤ route.entry.rank → ReadsOnce now later
        → Passing m low ms (Some room) n.next start later

  pub next_of : {m : Lodged V} {low : ℕ} {ms : List (Placed V)} {before at : Option Id} {room : Id} {start now : Counter}
      → Passing m low ms before at start now → at ≡ Some room → Next m low ms before room start now
  next_of {m} {low} {ms} {before} {at} {room} {start} {now} w is =
      let x = head_of w.rest (w.begins ∙ is) in
      let stands = subst (MasksStand (masks_in m)) x.is w.stands in
      let falls = subst (Falls 0 w.top) x.is w.falls in
      let ranked = subst (AreRanked (leaves_in m)) x.is w.ranked in
      record {
        route = x.first;
        room_is = x.room_is;
        ranked = ranked.0;
        listed = listed_as m x.first x.behind stands x.room_is;
        soon = omega arith;
        stopped = λ short. search (arith, not_below_short, below_short);
        passed = λ n later said long once. search (arith, next_told, not_below_long, below_long);
      }

  -- past all
  pub ended : {m : Lodged V} {low : ℕ} {ms : List (Placed V)} {before at : Option Id} {start now : Counter} → Passing m low ms before at start now → at ≡ None
      → (last_mask (not_below low ms) ≡ before) × (first_room (below low ms) ≡ None)
  ended {low} {ms} {before} w is = grind arith

-- -------- a walk along a list of masks, whose rooms are no mask nodes any more
put_none : (room : Id) (n : ℕ) {said : Option MaskPart} → said ≡ None → put_mask room None n said ≡ None
put_none room n {said = said} none = grind arith

put_own_none : (room : Id) {n : ℕ} (said : Option MaskPart) → n ≡ number_of room → put_mask room None n said ≡ None
put_own_none room {n = n} said same = grind arith

put_fewer : (room : Id) (n : ℕ) (said was : Option MaskPart) → (said ≡ None) ⊎ (said ≡ was)
    → (put_mask room None n said ≡ None) ⊎ (put_mask room None n said ≡ was)
put_fewer room n said was fewer = grind arith

-- how many ranks there are up to that of a room
abbrev pub ranks_in : {V : Type 0} → Option (LeafPart V) → ℕ
ranks_in None = 0
ranks_in (Some p) = p.leaf.rank + 1

abbrev pub ranks_from : {V : Type 0} → Leaves V → Option Id → ℕ
ranks_from L None = 0
ranks_from L (Some room) = ranks_in (L (number_of room))

module _ {V : Type 0} where
  -- the ranks of rooms fall along the list
  own_ranks : {L : Leaves V} {x : Placed V} (room : Id) → IsRanked L x → x.room ≡ room → ranks_from L (Some room) ≡ x.entry.rank + 1
  own_ranks {L = L} room r room_is = search

  ranks_behind : (L : Leaves V) (top : ℕ) (ms : List (Placed V)) → Falls 0 top ms → AreRanked L ms → ranks_from L (first_room ms) ≤ top
  ranks_behind L top ms falls ranked = search arith

  -- a walk along a list, whose rooms are no mask nodes any more
  pub record Clearing (m now : Lodged V) (ms : List (Placed V)) (at : Option Id) : Type 0 where
    pub rest : List (Placed V)
    pub top : ℕ
    pub begins : first_room rest ≡ at
    pub stands : MasksStand (masks_in now) rest
    pub falls : Falls 0 top rest
    pub ranked : AreRanked (leaves_in now) rest
    pub within : (y : Placed V) → IsAmong y rest → IsAmong y ms
    pub cleared : (y : Placed V) → IsAmong y ms → (masks_in now (number_of y.room) ≡ None) ⊎ IsAmong y rest
    pub aside : (n : ℕ) → IsAside n ms → masks_in now n ≡ masks_in m n
    pub fewer : (n : ℕ) → (masks_in now n ≡ None) ⊎ (masks_in now n ≡ masks_in m n)

  pub listed_at : {m now : Lodged V} {ms : List (Placed V)} {at : Option Id} {room : Id} → Clearing m now ms at → at ≡ Some room
      → (p : MaskPart) × (masks_in now (number_of room) ≡ Some p) × (p.block ≡ room.block)
  listed_at {now = now} {room = room} w is = let x = head_of w.rest (w.begins ∙ is) in listed_as now x.first x.behind (grind arith) x.room_is

  pub cleared_one : {m now : Lodged V} {ms : List (Placed V)} {at : Option Id} {room : Id} (new : Lodged V) (node : MaskNode)
      → Clearing m now ms at → at ≡ Some room → masks_in now (number_of room) ≡ mask_part room.block (Some node)
      → KeepsLeaves now new → ((n : ℕ) → masks_in new n ≡ put_mask room None n (masks_in now n))
      → Clearing m new ms node.next × (ranks_from (leaves_in new) node.next < ranks_from (leaves_in now) at)
  cleared_one {m} {now} {at = at} {room} new node w is said keeps masks =
      let x = head_of w.rest (w.begins ∙ is) in
      let stands = subst (MasksStand (masks_in now)) x.is w.stands in
      let falls = subst (Falls 0 w.top) x.is w.falls in
      let ranked = subst (AreRanked (leaves_in now)) x.is w.ranked in
      let ranked_now = are_ranked_same now new x.behind keeps ranked.1 in
      let number = ap (λ i. (number_of i)) x.room_is in
      let others = (apart (leaves_in now) 0 w.top (x.first ∷ x.behind) falls ranked).0 in
      let first_among = w.within x.first (subst (IsAmong x.first) (sym x.is) (inl refl)) in
      let next = next_told now x.first x.behind node stands x.room_is said in
      let behind = ranks_behind (leaves_in new) x.first.entry.rank x.behind falls.2 ranked_now in
      let fewer = ap (ranks_from (leaves_in new)) next in (
        record {
          rest = x.behind;
          top = x.first.entry.rank;
          begins = next;
          stands = stand_same (masks_in now) (masks_in new) x.behind (λ y among. masks (number_of y.room)
              ∙ put_aside room None (number_of y.room) (masks_in now (number_of y.room)) (λ same. others y among (same ∙ sym number))) stands.1;
          falls = falls.2;
          ranked = ranked_now;
          within = λ y among. w.within y (subst (IsAmong y) (sym x.is) (inr among));
          cleared = λ y among. search (arith, w.cleared, put_none, put_own_none);
          aside = λ n aside. masks n ∙ put_aside room None n (masks_in now n) (λ same. aside x.first first_among (number ∙ sym same)) ∙ w.aside n aside;
          fewer = λ n. subst (λ o. (o ≡ None) ⊎ (o ≡ masks_in m n)) (sym (masks n)) (put_fewer room n (masks_in now n) (masks_in m n) (w.fewer n));
        },
        omega (arith, ap (ranks_from (leaves_in now)) is ∙ own_ranks room ranked.0 x.room_is),
      )

  pub all_cleared : {m now : Lodged V} {ms : List (Placed V)} {at : Option Id} (w : Clearing m now ms at) → at ≡ None → (y : Placed V) → IsAmong y ms
      → masks_in now (number_of y.room) ≡ None
  all_cleared {now = now} w is y among = grind arith
