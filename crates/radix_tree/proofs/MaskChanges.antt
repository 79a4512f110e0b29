-- A list of masks is cut, has another one behind it, gains a mask or loses one.
use Rattle.radix_tree.proofs.MaskLists.{Has-ranked, in_front, in_back, falls_among, parted, one_rank, ranked_among, among_ranked, marked_among, among_appended}
use Rattle.radix_tree.proofs.MaskLists.{falls_wider, falls_not_below, falls_behind, falls_sorted, falls_taken, below_short, not_below_among, below_among}
use Rattle.radix_tree.proofs.MaskLists.{taken_among}
use Rattle.radix_tree.proofs.Words.{inside, none_some, ◌≡◌, ℕ, List, [], ◌∷◌, ◌++◌, Option, Some, None, is_some, refl, sym, ap, ◌∙◌, subst, inl, inr, arith}
use Rattle.radix_tree.proofs.Words.{eq-eqb, Has, Id, Placed, IsAmong, MaskNode, Leaves, MaskPart, Masks, leaves_in, heads_in, masks_in, first_room, MasksStand}
use Rattle.radix_tree.proofs.Words.{Falls, KeepsLeaves, put_mask, IsMasks, MasksAt, IsRanked, AreRanked, IsAside, last_from, last_mask, head_linked}
use Rattle.radix_tree.proofs.Words.{mask_linked, not_below, below, Lodged, number_of, append-nil, ◌+◌, ◌≤◌, KeepsHeads, IsNoRank, sorted_in, taken_out}

-- a mask node that no link names stays
pub linked_aside : (before next : Option Id) (n : ℕ) (said : Option MaskPart) → ((room : Id) → before ≡ Some room → n ≡ number_of room → ⊥)
    → mask_linked before next n said ≡ said
linked_aside before next n said aside = search arith

pub put_aside : (room : Id) (node : Option MaskNode) (n : ℕ) (said : Option MaskPart) → (n ≡ number_of room → ⊥) → put_mask room node n said ≡ said
put_aside room node n said aside = grind arith

module _ {V : Type 0} where
  -- ---- members' rooms are apart
  abbrev pub Apart : List (Placed V) → Type 0
  Apart [] = Unit {0}
  Apart (x ∷ xs) = IsAside (number_of x.room) xs × Apart xs

  pub apart : (L : Leaves V) (low top : ℕ) (ms : List (Placed V)) → Falls low top ms → AreRanked L ms → Apart ms
  apart L low top [] falls ranked = tt
  apart L low top (x ∷ xs) falls ranked = (
    λ y among same.
        omega (arith, (falls_among low x.entry.rank xs falls.2 y among).1, one_rank (ranked_among L xs ranked.1 y among) ranked.0 same),
    apart L low x.entry.rank xs falls.2 ranked.1,
  )

  pub apart_front : (front back : List (Placed V)) → Apart (front ++ back) → Apart front
  apart_front [] back is = tt
  apart_front (x ∷ xs) back is = grind (arith, in_front, apart_front xs back is.1)

  pub apart_across : (front back : List (Placed V)) → Apart (front ++ back) → (x y : Placed V) → IsAmong x front → IsAmong y back
      → number_of y.room ≡ number_of x.room → ⊥
  apart_across [] back is x y one other = absurd one
  apart_across (z ∷ zs) back is x y one other = search (arith, in_back, apart_across zs back is.1 x y)

  -- ---- the last member
  last_of : (before : Option Id) (ms : List (Placed V)) {room : Id} → last_from before ms ≡ Some room → (before ≡ None)
      → (x : Placed V) × IsAmong x ms × (x.room ≡ room)
  last_of before [] is none = absurd (none_some (sym none ∙ is))
  last_of before (x ∷ []) is none = (x, inl refl, inside is)
  last_of before (x ∷ y ∷ ys) is none = let rest = last_of None (y ∷ ys) is refl in (rest.0, inr rest.1, rest.2)

  pub last_among : (ms : List (Placed V)) {room : Id} → last_mask ms ≡ Some room → (x : Placed V) × IsAmong x ms × (x.room ≡ room)
  last_among ms is = last_of None ms is refl

  pub Has-last : (m : Lodged V) (ms front : List (Placed V)) {before : Option Id} {room : Id} → AreRanked (leaves_in m) ms
      → ((y : Placed V) → IsAmong y front → IsAmong y ms) → last_mask front ≡ before → before ≡ Some room → Has m room
  Has-last m ms front ranked within last is =
      let x = last_among front (last ∙ is) in Has-ranked m (ranked_among (leaves_in m) ms ranked x.0 (within x.0 x.1)) x.2

  -- no member of another list is the last one
  not_last : (front : List (Placed V)) (n : ℕ) → IsAside n front → {before : Option Id} → last_mask front ≡ before → (room : Id) → before ≡ Some room
      → n ≡ number_of room → ⊥
  not_last front n aside last room is same = grind (arith, last_among)

  pub aside_linked : (front : List (Placed V)) {before : Option Id} (next : Option Id) (n : ℕ) (said : Option MaskPart) → last_mask front ≡ before
      → IsAside n front → mask_linked before next n said ≡ said
  aside_linked front {before = before} next n said last aside = search (linked_aside, not_last)

  pub marks_linked : (K : Masks) (ms front : List (Placed V)) {before : Option Id} (next : Option Id) (n : ℕ) → MasksStand K ms
      → ((y : Placed V) → IsAmong y front → IsAmong y ms) → last_mask front ≡ before → is_some (mask_linked before next n (K n)) ≡ is_some (K n)
  marks_linked K ms front {before = before} next n stands within last = grind (arith, last_among, marked_among)

  -- ---- the masks of other rooms say what they said
  pub stand_same : (K J : Masks) (ms : List (Placed V)) → ((x : Placed V) → IsAmong x ms → J (number_of x.room) ≡ K (number_of x.room)) → MasksStand K ms
      → MasksStand J ms
  stand_same K J [] same stands = tt
  stand_same K J (x ∷ xs) same stands = (same x (inl refl) ∙ stands.0, stand_same K J xs (λ y among. same y (inr among)) stands.1)

  pub ranked_same : (m new : Lodged V) (x : Placed V) → KeepsLeaves m new → IsRanked (leaves_in m) x → IsRanked (leaves_in new) x
  ranked_same m new x keeps r = record { part = r.part; said = keeps (number_of x.room) ∙ r.said; block = r.block; rank = r.rank }

  pub are_ranked_same : (m new : Lodged V) (ms : List (Placed V)) → KeepsLeaves m new → AreRanked (leaves_in m) ms → AreRanked (leaves_in new) ms
  are_ranked_same m new [] keeps ranked = tt
  are_ranked_same m new (x ∷ xs) keeps ranked = (ranked_same m new x keeps ranked.0, are_ranked_same m new xs keeps ranked.1)

  pub masks_same : (m new : Lodged V) {first other : Option Id} {ms : List (Placed V)} → KeepsLeaves m new
      → ((y : Placed V) → IsAmong y ms → masks_in new (number_of y.room) ≡ masks_in m (number_of y.room)) → first ≡ other → IsMasks m first ms
      → IsMasks new other ms
  masks_same m new {ms = ms} keeps same head is = search (stand_same, are_ranked_same)

  -- ---- the last member of a front has another list behind it
  relinked : (K J : Masks) (front back behind : List (Placed V)) → MasksStand K (front ++ back) → Apart front
      → ((y : Placed V) → IsAmong y front → J (number_of y.room) ≡ mask_linked (last_mask front) (first_room behind) (number_of y.room) (K (number_of y.room)))
      → MasksStand J behind → MasksStand J (front ++ behind)
  relinked K J [] back behind stands is said after = after
  relinked K J (x ∷ []) back behind stands is said after = grind (arith, eq-eqb)
  relinked K J (x ∷ y ∷ ys) back behind stands is said after = (
    said x (inl refl) ∙ aside_linked (y ∷ ys) {before = last_mask (y ∷ ys)} (first_room behind) (number_of x.room) (K (number_of x.room)) refl is.0 ∙ stands.0,
    relinked K J (y ∷ ys) back behind stands.1 is.1 (λ z among. said z (inr among)) after,
  )

  head_stays : (fork : Id) (x : Placed V) (xs : List (Placed V)) (next old : Option Id) → head_linked fork (last_mask (x ∷ xs)) next (number_of fork) old ≡ old
  head_stays fork x [] next old = refl
  head_stays fork x (y ∷ ys) next old = head_stays fork y ys next old

  head_relinked : (fork : Id) (front back behind : List (Placed V)) {old new : Option Id} → first_room (front ++ back) ≡ old
      → new ≡ head_linked fork (last_mask front) (first_room behind) (number_of fork) old → first_room (front ++ behind) ≡ new
  head_relinked fork [] back behind {old = old} begins said = grind arith
  head_relinked fork (x ∷ xs) back behind {old = old} begins said = grind (arith, head_stays)

  -- a list whose front's last member has another list behind it
  pub linked : (m new : Lodged V) (fork : Id) (front back behind : List (Placed V)) {before : Option Id} (next : Option Id)
      → MasksAt m fork (front ++ back) → last_mask front ≡ before → first_room behind ≡ next
      → KeepsLeaves m new → ((n : ℕ) → heads_in new n ≡ head_linked fork before next n (heads_in m n))
      → ((n : ℕ) → masks_in new n ≡ mask_linked before next n (masks_in m n))
      → MasksStand (masks_in new) behind → Falls 0 34 (front ++ behind) → AreRanked (leaves_in m) behind
      → MasksAt new fork (front ++ behind)
  linked m new fork front back behind next is last first keeps heads masks after falls ranked =
      let all = apart (leaves_in m) 0 34 (front ++ back) is.falls is.ranked in
      record {
        begins = head_relinked fork front back behind is.begins
            (heads (number_of fork) ∙ ap (λ o. head_linked fork o next (number_of fork) (heads_in m (number_of fork))) (sym last)
            ∙ ap (λ o. head_linked fork (last_mask front) o (number_of fork) (heads_in m (number_of fork))) (sym first));
        stands = relinked (masks_in m) (masks_in new) front back behind is.stands (apart_front front back all)
            (λ y among. masks (number_of y.room) ∙ ap (λ o. mask_linked o next (number_of y.room) (masks_in m (number_of y.room))) (sym last)
            ∙ ap (λ o. mask_linked (last_mask front) o (number_of y.room) (masks_in m (number_of y.room))) (sym first)) after;
        falls = falls;
        ranked = among_ranked (leaves_in new) (front ++ behind) (λ y among. ranked_same m new y keeps (elim (among_appended front behind y among) [
          | inl one ↦ ranked_among (leaves_in m) (front ++ back) is.ranked y (in_front front back y one)
          | inr other ↦ ranked_among (leaves_in m) behind ranked y other
        ]));
      }

  pub stands_back : (K : Masks) (front back : List (Placed V)) → MasksStand K (front ++ back) → MasksStand K back
  stands_back K [] back stands = stands
  stands_back K (x ∷ xs) back stands = stands_back K xs back stands.1

  -- the members behind it say what they said
  pub back_stays : (m new : Lodged V) (front back : List (Placed V)) {before : Option Id} (next : Option Id) → Falls 0 34 (front ++ back)
      → AreRanked (leaves_in m) (front ++ back) → last_mask front ≡ before
      → ((n : ℕ) → masks_in new n ≡ mask_linked before next n (masks_in m n)) → (y : Placed V) → IsAmong y back
      → masks_in new (number_of y.room) ≡ masks_in m (number_of y.room)
  back_stays m new front back next falls ranked last masks y among = grind (arith, aside_linked, apart_across, apart)

  pub list_of : {m : Lodged V} {head first : Option Id} {ms : List (Placed V)} → first ≡ head → IsMasks m head ms → IsMasks m first ms
  list_of {m = m} {ms = ms} same is = subst (λ o. IsMasks m o ms) (sym same) is

  pub list_parted : {m : Lodged V} {first : Option Id} (low : ℕ) {ms : List (Placed V)} → IsMasks m first ms
      → IsMasks m first (not_below low ms ++ below low ms)
  list_parted {m = m} {first = first} low {ms = ms} is = subst (IsMasks m first) (parted low ms) is

  -- -------- a list of masks is cut, has another one behind it, gains a mask or loses one
  -- ---- a list is cut
  pub kept_of_cut : (m new : Lodged V) (fork : Id) (low : ℕ) (ms : List (Placed V)) {before : Option Id} → MasksAt m fork ms
      → last_mask (not_below low ms) ≡ before → KeepsLeaves m new
      → ((n : ℕ) → heads_in new n ≡ head_linked fork before None n (heads_in m n)) → ((n : ℕ) → masks_in new n ≡ mask_linked before None n (masks_in m n))
      → MasksAt new fork (not_below low ms)
  kept_of_cut m new fork low ms is last keeps heads masks = subst (IsMasks new (heads_in new (number_of fork))) (append-nil (not_below low ms))
      (linked m new fork (not_below low ms) (below low ms) [] None (list_parted low is) last refl keeps heads masks tt
      (subst (Falls 0 34) (sym (append-nil (not_below low ms))) (falls_wider low 34 0 34 (not_below low ms) (falls_not_below 0 34 low ms is.falls)
      (omega arith) (omega arith))) tt)

  pub others_of_cut : (m new : Lodged V) (fork : Id) (low : ℕ) (ms : List (Placed V)) {before behind : Option Id} → MasksAt m fork ms
      → last_mask (not_below low ms) ≡ before → first_room (below low ms) ≡ behind → KeepsLeaves m new
      → ((n : ℕ) → masks_in new n ≡ mask_linked before None n (masks_in m n)) → IsMasks new behind (below low ms)
  others_of_cut m new fork low ms is last first keeps masks =
      let all = list_parted low is in
      record {
        begins = first;
        stands =
            stand_same (masks_in m) (masks_in new) (below low ms) (back_stays m new (not_below low ms) (below low ms) None all.falls all.ranked last masks)
            (search (stands_back));
        falls = falls_behind 0 34 low ms is.falls;
        ranked = among_ranked (leaves_in new) (below low ms) (λ y among. ranked_same m new y keeps
            (ranked_among (leaves_in m) ms is.ranked y (below_among 0 34 low ms is.falls y among).0));
      }

  -- ---- a list is appended
  all_long : (ms : List (Placed V)) → not_below 0 ms ≡ ms
  all_long [] = refl
  all_long (x ∷ xs) = grind (arith, all_long xs)

  pub appended : (m new : Lodged V) (fork : Id) (ms ts : List (Placed V)) {before : Option Id} (tail : Option Id) → MasksAt m fork ms
      → IsMasks m tail ts → Falls 0 34 (ms ++ ts) → last_mask (not_below 0 ms) ≡ before → KeepsLeaves m new
      → ((n : ℕ) → heads_in new n ≡ head_linked fork before tail n (heads_in m n)) → ((n : ℕ) → masks_in new n ≡ mask_linked before tail n (masks_in m n))
      → MasksAt new fork (ms ++ ts)
  appended m new fork ms ts tail is behind falls last keeps heads masks =
      let end = ap last_mask (sym (all_long ms)) ∙ last in
      let ranked = among_ranked (leaves_in m) (ms ++ ts) (λ y among. elim (among_appended ms ts y among) [
        | inl one ↦ ranked_among (leaves_in m) ms is.ranked y one
        | inr other ↦ ranked_among (leaves_in m) ts behind.ranked y other
      ]) in
      linked m new fork ms [] ts tail (search (append-nil)) end behind.begins keeps heads masks
      (stand_same (masks_in m) (masks_in new) ts (back_stays m new ms ts tail falls ranked end masks) behind.stands) falls behind.ranked

  -- ---- a mask comes in
  put_own : (x : Placed V) {room : Id} (node : MaskNode) (said : Option MaskPart) → x.room ≡ room
      → put_mask room (Some node) (number_of x.room) said ≡ Some (record { block = x.room.block; next = node.next })
  put_own x node said room_is = grind arith

  -- no member of a list is in a room that is no mask node
  pub free_aside : (K : Masks) (ms : List (Placed V)) (room : Id) → MasksStand K ms → K (number_of room) ≡ None → IsAside (number_of room) ms
  free_aside K ms room stands free y among same = grind (arith, marked_among)

  pub sorted : (m between new : Lodged V) (fork : Id) (x : Placed V) (room : Id) (node : MaskNode) {rank : ℕ} (ms : List (Placed V)) {before : Option Id}
      → MasksAt m fork ms → x.room ≡ room → IsRanked (leaves_in m) x → masks_in m (number_of room) ≡ None → rank ≡ x.entry.rank
      → rank ≤ 33
      → IsNoRank x.entry.rank ms → last_mask (not_below rank ms) ≡ before → first_room (below rank ms) ≡ node.next
      → KeepsLeaves m between → KeepsHeads m between → ((n : ℕ) → masks_in between n ≡ put_mask room (Some node) n (masks_in m n))
      → KeepsLeaves between new → ((n : ℕ) → heads_in new n ≡ head_linked fork before (Some room) n (heads_in between n))
      → ((n : ℕ) → masks_in new n ≡ mask_linked before (Some room) n (masks_in between n)) → MasksAt new fork (sorted_in x ms)
  sorted m between new fork x room node ms {before = before} is room_is own free rank_is most no_rank last first keeps_one heads_one masks_one keeps heads
      masks =
      let last_is = subst (λ n. last_mask (not_below n ms) ≡ before) rank_is last in
      let aside = free_aside (masks_in m) ms room is.stands free in
      let is_one = masks_same m between keeps_one
      (λ y among. masks_one (number_of y.room) ∙ put_aside room (Some node) (number_of y.room) (masks_in m (number_of y.room)) (aside y among))
      (sym (heads_one (number_of fork)))
      is in
      let all = list_parted x.entry.rank is_one in
      let stands_own = masks (number_of x.room) ∙ aside_linked (not_below x.entry.rank ms) (Some room) (number_of x.room)
      (masks_in between (number_of x.room)) last_is
      (λ y among same. aside y (not_below_among x.entry.rank ms y among).0 (same ∙ ap (λ i. (number_of i)) room_is))
      ∙ masks_one (number_of x.room) ∙ put_own x node (masks_in m (number_of x.room)) room_is
      ∙ ap (λ o. Some (record { block = x.room.block; next = o })) (sym (subst (λ n. first_room (below n ms) ≡ node.next) rank_is first)) in
      let stands_behind = stand_same (masks_in between) (masks_in new) (below x.entry.rank ms)
      (back_stays between new (not_below x.entry.rank ms) (below x.entry.rank ms) (Some room) all.falls all.ranked last_is masks)
      (stands_back (masks_in between) (not_below x.entry.rank ms) (below x.entry.rank ms) all.stands) in
      linked between new fork (not_below x.entry.rank ms) (below x.entry.rank ms) (x ∷ below x.entry.rank ms) (Some room) all last_is
      (ap Some room_is) keeps heads masks (stands_own, stands_behind) (falls_sorted 0 34 x ms is.falls (omega arith) (omega arith) no_rank) (
        ranked_same m between x keeps_one own,
        among_ranked (leaves_in between) (below x.entry.rank ms)
            (λ y among. ranked_among (leaves_in between) ms is_one.ranked y (below_among 0 34 x.entry.rank ms is.falls y among).0),
      )

  -- ---- a mask goes
  all_below : (least low : ℕ) (ms : List (Placed V)) → Falls least low ms → below low ms ≡ ms
  all_below least low [] falls = refl
  all_below least low (x ∷ xs) falls = below_short low x xs falls.1

  pub below_next : (least top : ℕ) (ms : List (Placed V)) (x : Placed V) → Falls least top ms → IsAmong x ms
      → below (x.entry.rank + 1) ms ≡ x ∷ below x.entry.rank ms
  below_next least top [] x falls among = absurd among
  below_next least top (z ∷ zs) x falls among =
      search (arith, all_below, falls_among, below_next least z.entry.rank zs x falls.2)

  -- the mask behind one of a list
  pub stands_at : {m : Lodged V} {first : Option Id} (ms : List (Placed V)) (x : Placed V) → IsMasks m first ms → IsAmong x ms
      → MasksStand (masks_in m) (x ∷ below x.entry.rank ms)
  stands_at {m = m} ms x is among = subst (MasksStand (masks_in m)) (below_next 0 34 ms x is.falls among)
      (stands_back (masks_in m) (not_below (x.entry.rank + 1) ms) (below (x.entry.rank + 1) ms) (list_parted (x.entry.rank + 1) is).stands)

  pub taken : (m between new : Lodged V) (fork : Id) (x : Placed V) (room : Id) {low : ℕ} (ms : List (Placed V)) {before next : Option Id}
      → MasksAt m fork ms → IsAmong x ms → x.room ≡ room → low ≡ x.entry.rank + 1
      → last_mask (not_below low ms) ≡ before → first_room (below x.entry.rank ms) ≡ next
      → KeepsLeaves m between → ((n : ℕ) → heads_in between n ≡ head_linked fork before next n (heads_in m n))
      → ((n : ℕ) → masks_in between n ≡ mask_linked before next n (masks_in m n))
      → KeepsLeaves between new → KeepsHeads between new → ((n : ℕ) → masks_in new n ≡ put_mask room None n (masks_in between n))
      → MasksAt new fork (taken_out x.entry.rank ms)
  taken m between new fork x room ms {before = before} {next = next} is among room_is low_is last first keeps heads masks keeps_two heads_two masks_two =
      let last_is = subst (λ n. last_mask (not_below n ms) ≡ before) low_is last in
      let all = list_parted (x.entry.rank + 1) is in
      let own = ranked_among (leaves_in m) ms is.ranked x among in
      let stays = λ (y : Placed V) (behind : IsAmong y (below x.entry.rank ms)).
      back_stays m between (not_below (x.entry.rank + 1) ms) (below (x.entry.rank + 1) ms) next all.falls all.ranked last_is masks y
      (grind (arith, below_next)) in
      let list =
      linked m between fork (not_below (x.entry.rank + 1) ms) (below (x.entry.rank + 1) ms) (below x.entry.rank ms) next all last_is first keeps heads masks
      (stand_same (masks_in m) (masks_in between) (below x.entry.rank ms) stays (stands_at ms x is among).1) (falls_taken 0 34 x.entry.rank ms is.falls)
      (among_ranked (leaves_in m) (below x.entry.rank ms) (λ y behind. ranked_among (leaves_in m) ms is.ranked y
      (below_among 0 34 x.entry.rank ms is.falls y behind).0)) in
      masks_same between new keeps_two (λ y left. masks_two (number_of y.room) ∙ put_aside room None (number_of y.room) (masks_in between (number_of y.room))
      (λ same.
      let was = taken_among 0 34 x.entry.rank ms is.falls y left in
      was.1 (one_rank (ranked_among (leaves_in m) ms is.ranked y was.0) own (same ∙ ap (λ i. (number_of i)) (sym room_is)))))
      (sym (heads_two (number_of fork))) list

  -- the members of a list stay mask nodes
  pub sorted_marks : (K J : Masks) (ms front : List (Placed V)) (room : Id) (node : MaskNode) {before : Option Id} (next : Option Id) (n : ℕ) → MasksStand K ms
      → K (number_of room) ≡ None → ((k : ℕ) → J k ≡ put_mask room (Some node) k (K k))
      → ((y : Placed V) → IsAmong y front → IsAmong y ms) → last_mask front ≡ before → is_some (mask_linked before next n (J n)) ≡ is_some (J n)
  sorted_marks K J ms front room node next n stands free one within last = grind (arith, marks_linked)
