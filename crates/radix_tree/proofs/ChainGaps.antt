-- Walks along a chain: to the gap for a rank, and back to its first member.
use Rattle.radix_tree.proofs.{Scans.chain_most, MaskLists.in_back, RoomReads.AreLinks, RoomReads.Has-leaf, RoomReads.leaf_read}
use Rattle.radix_tree.proofs.TreeMembers.{IsHead, head_of, chain_below, chain_route}
use Rattle.radix_tree.proofs.Words.{◌≡◌, ℕ, ◌+◌, ◌<◌, ◌≤◌, List, [], ◌∷◌, ◌++◌, length, Option, Some, None, true, true≢false, refl, sym, ap, ◌∙◌, arith}
use Rattle.radix_tree.proofs.Words.{append_assoc, cases_eq, cases_lt, nat_cmp, is_lt, Has, leaf_of, Id, Leaf, Links, Placed, Leaves, Run, leaves_in, first_room}
use Rattle.radix_tree.proofs.Words.{leaf_part, ChainStands, above_behind, last_room, ArePast, IsBelow, Passed, FindsGap, Lodged, number_of, none_some, ◌⊎◌, inl}
use Rattle.radix_tree.proofs.Words.{inr, subst, IsAmong, IsChain, LeafPart, inside}

-- what a comparison of ranks says
pub less_of : (a b : ℕ) → is_lt (nat_cmp a b) ≡ true → a < b
less_of a b h = search (arith, cases_lt, cases_eq, true≢false)

module _ {V : Type 0} where
  pub none_behind : (front : List (Placed V)) → above_behind None front ≡ None
  none_behind front = search arith

  -- what is behind stands too
  pub behind_stands : (L : Leaves V) (above previous : Option Id) (front back : List (Placed V)) → ChainStands L above previous (front ++ back)
      → ChainStands L (above_behind above front) (last_room previous front) back
  behind_stands L above previous [] back stands = stands
  behind_stands L above previous (y ∷ front) back stands = search (arith, none_behind, behind_stands L None (Some y.room) front back stands.1)

  -- ---- a member more in front
  past_more : (rank : ℕ) (front : List (Placed V)) (x : Placed V) → ArePast rank front → rank < x.entry.rank → ArePast rank (front ++ (x ∷ []))
  past_more rank [] x past lt = (lt, tt)
  past_more rank (y ∷ front) x past lt = (past.0, past_more rank front x past.1 lt)

  above_more : (above : Option Id) (front : List (Placed V)) (x : Placed V) → above_behind above (front ++ (x ∷ [])) ≡ None
  above_more above [] x = refl
  above_more above (y ∷ front) x = refl

  pub last_more : (previous : Option Id) (front : List (Placed V)) (x : Placed V) → last_room previous (front ++ (x ∷ [])) ≡ Some x.room
  last_more previous [] x = refl
  last_more previous (y ∷ front) x = last_more (Some y.room) front x

  -- ---- the member that a walk has come to
  pub head_said : (m : Lodged V) (above previous : Option Id) {ms : List (Placed V)} {at : Id} (x : IsHead ms at) → ChainStands (leaves_in m) above previous
      ms → leaves_in m (number_of at) ≡ Some (leaf_part x.first above previous (first_room x.behind))
  head_said m above previous x stands = search arith

  head_there : (m : Lodged V) (above previous : Option Id) {ms : List (Placed V)} (at : Id) → IsHead ms at → ChainStands (leaves_in m) above previous ms
      → Has m at
  head_there m above previous at x stands = Has-leaf m at (head_said m above previous x stands) (ap (λ i. i.block) x.room_is)

  head_read : (m : Lodged V) (above previous : Option Id) {ms : List (Placed V)} (at : Id) (links : Links) (l : Leaf) (x : IsHead ms at)
      → ChainStands (leaves_in m) above previous ms → AreLinks m at links → l ≡ leaf_of links
      → l ≡ record { key = x.first.entry.key; rank = x.first.entry.rank; above = above; next = first_room x.behind; previous = previous }
  head_read m above previous at links l x stands are is = search (arith, leaf_read, head_said)

  pub Has-first : {m : Lodged V} (c : Run m) (first : Id) → first_room c.members ≡ Some first → Has m first
  Has-first {m = m} c first begins = search (arith, head_there, head_of)

  pub begun : {m : Lodged V} (rank : ℕ) (c : Run m) (first : Id) (links : Links) {l : Leaf} → first_room c.members ≡ Some first → AreLinks m first links
      → l ≡ leaf_of links → Passed rank c l.above l.previous (Some first) 1
  begun {m = m} rank c first links {l = l} begins are is = search (arith, head_read, head_of, chain_most)

  module _ {m : Lodged V} {rank : ℕ} {c : Run m} {above previous next : Option Id} {steps : ℕ} (p : Passed rank c above previous next steps) where
    rest_stands : ChainStands (leaves_in m) (above_behind c.above p.front) (last_room c.previous p.front) p.back
    rest_stands = search (arith, behind_stands)

    member_at : {at : Id} → next ≡ Some at → IsHead p.back at
    member_at is = head_of p.back (sym p.next_is ∙ is)

    pub Has-at : (at : Id) → next ≡ Some at → Has m at
    Has-at at is = search (arith, head_there, member_at, rest_stands)

    pub few_at : {at : Id} → next ≡ Some at → steps ≤ 34
    few_at is = search (arith, member_at)

    read_at : (at : Id) (links : Links) (l : Leaf) (is : next ≡ Some at) → AreLinks m at links → l ≡ leaf_of links
        → (x : IsHead p.back at) × (l.rank ≡ x.first.entry.rank) × (l.next ≡ first_room x.behind)
    read_at at links l is are leaf =
        let x = member_at is in
        let read = head_read m (above_behind c.above p.front) (last_room c.previous p.front) at links l x rest_stands are leaf in
        (x, ap (λ z. z.rank) read, ap (λ z. z.next) read)

    -- a member of a greater rank is passed
    pub passed : (at : Id) (links : Links) {l : Leaf} → next ≡ Some at → AreLinks m at links → l ≡ leaf_of links → rank < l.rank
        → Passed rank c None (Some at) l.next (steps + 1)
    passed at links {l = l} is are leaf lt =
        let r = read_at at links l is are leaf in
        let x = r.0 in
        let few = p.few in
        let some = ap length x.is in
        record {
          front = p.front ++ (x.first ∷ []);
          back = x.behind;
          is = search (arith, append_assoc);
          past = past_more rank p.front x.first p.past (omega arith);
          above_is = sym (above_more c.above p.front x.first);
          previous_is = search (arith, last_more);
          next_is = r.2;
          few = omega arith;
        }

    -- a member has the rank
    pub taken : (key : ℕ) (at : Id) (links : Links) {l : Leaf} → next ≡ Some at → AreLinks m at links → l ≡ leaf_of links → l.rank ≡ rank
        → FindsGap key rank c None
    taken key at links {l = l} is are leaf same =
        let r = read_at at links l is are leaf in
        let x = r.0 in (x.first, search (arith, in_back), sym r.1 ∙ same)

    gap_of : (key : ℕ) → IsBelow rank p.back → FindsGap key rank c (Some (record { key = key; rank = rank; above = above; next = next; previous = previous }))
    gap_of key below = search arith

    -- the first one of a smaller rank
    pub found : (key : ℕ) (at : Id) (links : Links) {l : Leaf} → next ≡ Some at → AreLinks m at links → l ≡ leaf_of links → l.rank < rank
        → FindsGap key rank c (Some (record { key = key; rank = rank; above = above; next = next; previous = previous }))
    found key at links {l = l} is are leaf lt =
        let r = read_at at links l is are leaf in
        search (arith, gap_of)

  none_below : (rank : ℕ) (back : List (Placed V)) → first_room back ≡ None → IsBelow rank back
  none_below rank back ends = search arith

  -- the end of the chain
  pub ended : {m : Lodged V} (key rank : ℕ) {c : Run m} {above previous next : Option Id} {steps : ℕ} → Passed rank c above previous next steps → next ≡ None
      → FindsGap key rank c (Some (record { key = key; rank = rank; above = above; next = next; previous = previous }))
  ended key rank {above = above} {previous = previous} {next = next} p is = search (arith, gap_of, none_below)

  -- -------- a walk back along a chain, to its first member
  -- what a member names before it: what is before the list, where it is the first, or a member of a greater rank
  abbrev pub Prior : List (Placed V) → Option Id → Placed V → Option Id → Type 0
  Prior c previous x o = ((first_room c ≡ Some x.room) × (o ≡ previous)) ⊎ ((w : Placed V) × IsAmong w c × (o ≡ Some w.room) × (x.entry.rank < w.entry.rank))

  pub record Member (L : Leaves V) (c : List (Placed V)) (previous : Option Id) (x : Placed V) : Type 0 where
    pub part : LeafPart V
    pub said : L (number_of x.room) ≡ Some part
    pub block : part.block ≡ x.room.block
    pub prior : Prior c previous x part.leaf.previous

  behind_prior : (key top : ℕ) (y : Placed V) (c : List (Placed V)) (previous : Option Id) (x : Placed V) (o : Option Id) → IsChain key top (y ∷ c)
      → IsAmong x c → Prior c (Some y.room) x o → Prior (y ∷ c) previous x o
  behind_prior key top y c previous x o is among p = elim p [
    | inl first ↦ inr (y, inl refl, first.1, chain_below key y.entry.rank c is.3 x among)
    | inr w ↦ inr (w.0, inr w.1, w.2, w.3)
  ]

  pub member_of : (L : Leaves V) (above previous : Option Id) (key top : ℕ) (c : List (Placed V)) → IsChain key top c → ChainStands L above previous c
      → (x : Placed V) → IsAmong x c → Member L c previous x
  member_of L above previous key top [] is stands x among = absurd among
  member_of L above previous key top (y ∷ c) is stands x among =
      elim among [
        | inl e ↦ subst (Member L (y ∷ c) previous) e
            (record { part = leaf_part y above previous (first_room c); said = stands.0; block = refl; prior = inl (refl, refl) })
        | inr behind ↦ let m = member_of L None (Some y.room) key y.entry.rank c is.3 stands.1 x behind in
            search (arith, behind_prior)
      ]

  -- a walk back that has come to a member, and knows what that names before it
  pub record Back {m : Lodged V} (whole : Run m) (at : Id) (before : Option Id) (steps : ℕ) : Type 0 where
    pub is : Placed V
    pub among : IsAmong is whole.members
    pub room_is : is.room ≡ at
    pub prior : Prior whole.members None is before
    pub few : steps ≤ is.entry.rank + 1

  member_in : (m : Lodged V) (c : Run m) (x : Placed V) → c.previous ≡ None → IsAmong x c.members → Member (leaves_in m) c.members None x
  member_in m c x first among = subst (λ o. Member (leaves_in m) c.members o x) first (search (arith, member_of))

  said_at : (m : Lodged V) (c : Run m) {x : Placed V} {room : Id} (k : Member (leaves_in m) c.members None x) → x.room ≡ room
      → leaves_in m (number_of room) ≡ Some k.part
  said_at m c k is = ap (λ i. leaves_in m (number_of i)) (sym is) ∙ k.said

  block_at : (m : Lodged V) (c : Run m) {x : Placed V} {room : Id} (k : Member (leaves_in m) c.members None x) → x.room ≡ room → k.part.block ≡ room.block
  block_at m c k is = k.block ∙ ap (λ i. i.block) is

  pub Has-member : {m : Lodged V} (c : Run m) (x : Placed V) {room : Id} → c.previous ≡ None → IsAmong x c.members → x.room ≡ room → Has m room
  Has-member {m = m} c x {room = room} first among is = let k = member_in m c x first among in Has-leaf m room (said_at m c k is) (block_at m c k is)

  -- at a member
  pub come : {m : Lodged V} (c : Run m) (x : Placed V) {room : Id} (steps : ℕ) (links : Links) {l : Leaf} → c.previous ≡ None → IsAmong x c.members
      → x.room ≡ room → steps ≤ x.entry.rank + 1 → AreLinks m room links → l ≡ leaf_of links → Back c room l.previous steps
  come {m = m} c x {room = room} steps links first among is few are leaf =
      let k = member_in m c x first among in
      let read = leaf ∙ leaf_read m room links (said_at m c k is) (block_at m c k is) are in
      record { is = x; among = among; room_is = is; prior = subst (Prior c.members None x) (sym (ap (λ z. z.previous) read)) k.prior; few = few }

  -- at the one before
  pub record Earlier {m : Lodged V} (whole : Run m) (room : Id) (steps : ℕ) : Type 0 where
    pub is : Placed V
    pub among : IsAmong is whole.members
    pub room_is : is.room ≡ room
    pub few : steps ≤ is.entry.rank

  module _ {m : Lodged V} {c : Run m} {at : Id} {before : Option Id} {steps : ℕ} (b : Back c at before steps) where
    pub earlier : {room : Id} → before ≡ Some room → Earlier c room steps
    earlier is =
        let few = b.few in
        elim b.prior [
          | inl first ↦ absurd (none_some (sym first.1 ∙ is))
          | inr w ↦ record { is = w.0; among = w.1; room_is = inside (sym w.2 ∙ is); few = omega arith }
        ]

    pub few_back : steps ≤ 34
    few_back = search (arith, chain_route)

    pub first_reached : before ≡ None → first_room c.members ≡ Some at
    first_reached none = search (arith, none_some)
