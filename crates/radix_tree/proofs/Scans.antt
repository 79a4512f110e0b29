-- A walk along a chain.
use Rattle.radix_tree.proofs.{RoomReads.Has-leaf, TreeMembers.head_of, TreeMembers.first_greatest, TreeMembers.chain_short}
use Rattle.radix_tree.proofs.Words.{none_some, ◌≡◌, ℕ, ◌+◌, ◌≤◌, List, [], ◌∷◌, length, Option, Some, None, true, false, refl, sym, ap, ◌∙◌, subst, inl, inr}
use Rattle.radix_tree.proofs.Words.{arith, agrees, Counter, Has, Id, Leaf, ReadsOnce, LeafPart, Run, leaves_in, first_room, leaf_part, ChainStands, Placed}
use Rattle.radix_tree.proofs.Words.{IsAmong, IsChain, Lodged, number_of}
use Rattle.radix_tree.specs.Tree.{Covers}

-- a chain has a route for each rank at most
pub chain_most : {V : Type 0} (key top : ℕ) (c : List (Placed V)) → IsChain key top c → length c ≤ 34
chain_most key top [] is = omega arith
chain_most key top (x ∷ c) is = grind (arith, chain_short)

pub ended_at : {V : Type 0} (rest : List (Placed V)) → first_room rest ≡ None → (y : Placed V) → IsAmong y rest → ⊥
ended_at [] ends y among = among
ended_at (x ∷ xs) ends y among = none_some (sym ends)

module _ {V : Type 0} {m : Lodged V} where
  -- a walk along a chain that has passed no route of a property
  pub record Along (P : Placed V → Type 0) (whole : Run m) (at : Option Id) (start now : Counter) : Type 0 where
    pub rest : Run m
    pub begins : first_room rest.members ≡ at
    pub inside : (y : Placed V) → IsAmong y rest.members → IsAmong y whole.members
    pub kept : (y : Placed V) → IsAmong y whole.members → P y → IsAmong y rest.members
    pub turn : now.turn ≡ start.turn
    pub rises : start.count ≤ now.count
    pub few : now.count + length rest.members ≤ start.count + 34

  pub begun : {P : Placed V → Type 0} {c : Run m} {first : Id} (v : Counter) → first_room c.members ≡ Some first → Along P c (Some first) v v
  begun {c = c} v begins =
      let most = chain_most c.key c.top c.members c.is in
      record { rest = c; begins = begins; inside = λ y among. among; kept = λ y among has. among; turn = refl; rises = omega arith; few = omega arith }

  -- the member that it has come to
  pub record Member (P : Placed V → Type 0) (whole : Run m) (room : Id) (start now : Counter) : Type 0 where
    pub route : Placed V
    pub room_is : route.room ≡ room
    pub part : LeafPart V
    pub said : leaves_in m (number_of room) ≡ Some part
    pub block : part.block ≡ room.block
    pub key : part.leaf.key ≡ route.entry.key
    pub rank : part.leaf.rank ≡ route.entry.rank
    pub among : IsAmong route whole.members
    pub greatest : (y : Placed V) → IsAmong y whole.members → P y → y.entry.rank ≤ route.entry.rank
    pub turn : now.turn ≡ start.turn
    pub soon : now.count + 1 ≤ start.count + 34
    pub passed : (l : Leaf) (later : Counter) → l ≡ part.leaf → ReadsOnce now later → (P route → ⊥) → Along P whole l.next start later

  pub member : {P : Placed V → Type 0} {whole : Run m} {at : Option Id} {room : Id} {start now : Counter} → Along P whole at start now → at ≡ Some room
      → Member P whole room start now
  member {P} {whole} {at} {room} {start} {now} w at_is =
      let x = head_of w.rest.members (w.begins ∙ at_is) in
      let is = subst (IsChain w.rest.key w.rest.top) x.is w.rest.is in
      let stands = subst (ChainStands (leaves_in m) w.rest.above w.rest.previous) x.is w.rest.stands in
      let some = ap length x.is in
      record {
        route = x.first;
        room_is = x.room_is;
        part = leaf_part x.first w.rest.above w.rest.previous (first_room x.behind);
        said = ap (λ i. leaves_in m (number_of i)) (sym x.room_is) ∙ stands.0;
        block = ap (λ i. i.block) x.room_is;
        key = refl;
        rank = refl;
        among = w.inside x.first (subst (IsAmong x.first) (sym x.is) (inl refl));
        greatest = λ y among has. first_greatest w.rest.key w.rest.top x.first x.behind is y (subst (IsAmong y) x.is (w.kept y among has));
        turn = w.turn;
        soon = omega arith;
        passed = λ l later l_is once hasnt. record {
          rest =
              record {
                members = x.behind;
                key = w.rest.key;
                top = x.first.entry.rank;
                above = None;
                previous = Some x.first.room;
                is = is.3;
                stands = stands.1;
              };
          begins = sym (ap (λ z. z.next) l_is);
          inside = λ y among. w.inside y (subst (IsAmong y) (sym x.is) (inr among));
          kept = λ y among has. search (arith, w.kept);
          turn = once.turn ∙ w.turn;
          rises = omega arith;
          few = omega arith;
        };
      }

  pub Has-at : {P : Placed V → Type 0} {whole : Run m} {room : Id} {start now : Counter} → Member P whole room start now → Has m room
  Has-at {room = room} x = Has-leaf m room x.said x.block

  -- at its end no member has the property
  pub ended : {P : Placed V → Type 0} {whole : Run m} {at : Option Id} {start now : Counter} → Along P whole at start now → at ≡ None → (y : Placed V)
      → IsAmong y whole.members → P y → ⊥
  ended w is y among has = grind arith

-- whether a leaf agrees with an address is whether its route covers it
abbrev pub CoversIt : {V : Type 0} → ℕ → Placed V → Type 0
CoversIt address y = Covers address y.entry

pub agrees_is : {V : Type 0} (address : ℕ) {l : Leaf} {p : Leaf} (x : Placed V) → l ≡ p → p.key ≡ x.entry.key → p.rank ≡ x.entry.rank
    → agrees l.rank l.key address ≡ agrees x.entry.rank x.entry.key address
agrees_is address {p = p} x is key rank = search

pub covered : {V : Type 0} (address : ℕ) (x : Placed V) → agrees x.entry.rank x.entry.key address ≡ true → CoversIt address x
unfolding Covers
covered address x agree = agree

pub not_covered : {V : Type 0} (address : ℕ) (x : Placed V) → agrees x.entry.rank x.entry.key address ≡ false → CoversIt address x → ⊥
unfolding Covers
not_covered address x not covers = cc
