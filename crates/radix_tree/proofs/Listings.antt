-- The search on the way up: a walk through the masks that a bit node lists, and one up from the leaf of an address.
use Rattle.radix_tree.proofs.{Scans.ended_at, Scans.agrees_is, Scans.covered, Scans.not_covered, TreeMembers.head_of, TreeMembers.tree_said, Parts.fork_is}
use Rattle.radix_tree.proofs.{Parts.fork_lists, Parts.AreListed, Parts.mask_hit, Parts.mask_miss, Parts.listed_behind, Parts.list_ends, Parts.listed_hit}
use Rattle.radix_tree.proofs.{Parts.listed_miss, Parts.in_leaf, Parts.side_of, Parts.way_best, Climbs.Over, Climbs.fork_over}
use Rattle.radix_tree.proofs.Words.{inside, Covers, ◌≡◌, ℕ, ◌+◌, ◌≤◌, List, ◌∷◌, Option, Some, None, Bool, true, false, refl, sym, ap, ◌∙◌, subst, inl, inr}
use Rattle.radix_tree.proofs.Words.{arith, agrees, Counter, Id, Leaf, MaskNode, ReadsOnce, LeafPart, MaskPart, Part, MasksAreListed, leaves_in, bits_in}
use Rattle.radix_tree.proofs.Words.{heads_in, masks_in, mask_part, first_room, leaf_part, MasksStand, Falls, Tells, Best, In, ForkAt, Placed, IsAmong, IsIn}
use Rattle.radix_tree.proofs.Words.{Lodged, number_of, ◌-◌, ◌*◌, Reads, LedTo}

module _ {V : Type 0} {m : Lodged V} where
  -- a walk through the list of a bit node, whose masks so far were tried in vain
  pub record Through (address : ℕ) (p : Part m) (bit : ℕ) (at : Option Id) (start now : Counter) : Type 0 where
    pub rest : List (Placed V)
    pub top : ℕ
    pub begins : first_room rest ≡ at
    pub stands : MasksStand (masks_in m) rest
    pub falls : Falls p.low top rest
    pub inside : (y : Placed V) → IsAmong y rest → IsIn y p.tree
    pub listed : AreListed p.low top rest p.tree
    pub tried : Best address top (bit + 1) (In p) None
    pub fits : p.low ≤ top
    pub past : top ≤ bit + 1
    pub turn : now.turn ≡ start.turn
    pub rises : start.count ≤ now.count
    pub few : now.count + top ≤ start.count + (bit + 1)

  pub begun : {address : ℕ} {p : Part m} {room : Id} {first : Option Id} (v : Counter) (f : ForkAt p room) → MasksAreListed m p
      → heads_in m (number_of room) ≡ first → Through address p f.bit first v v
  begun {p = p} {room} v f listed head =
      let list = (fork_lists f (λ x. Unit {0}) listed).0 in
      let rises = (fork_is f).0.rises in
      record {
        rest = list.masks;
        top = f.bit + 1;
        begins = list.begins ∙ head;
        stands = list.stands;
        falls = list.falls;
        inside = λ y among. subst (IsIn y) (sym f.is) (list.within y among).0;
        listed = search arith;
        tried = λ y at covers below. below;
        fits = omega arith;
        past = omega arith;
        turn = refl;
        rises = omega arith;
        few = omega arith;
      }

  -- the mask that it has come to
  pub record Mask (address : ℕ) (p : Part m) (bit : ℕ) (room : Id) (start now : Counter) : Type 0 where
    pub route : Placed V
    pub part : LeafPart V
    pub said : leaves_in m (number_of room) ≡ Some part
    pub room_is : route.room ≡ room
    pub key : part.leaf.key ≡ route.entry.key
    pub rank : part.leaf.rank ≡ route.entry.rank
    pub mask : MaskPart
    pub listed : masks_in m (number_of room) ≡ Some mask
    pub block : mask.block ≡ room.block
    pub turn : now.turn ≡ start.turn
    pub rises : start.count ≤ now.count
    pub soon : now.count + 1 + p.low ≤ start.count + (bit + 1)
    pub hit : Covers address route.entry → Best address p.low (bit + 1) (In p) (Some route)
    pub miss : (later : Counter) → (Covers address route.entry → ⊥) → ReadsOnce now later → Through address p bit mask.next start later

  pub mask_at : {address : ℕ} {p : Part m} {bit : ℕ} {at : Option Id} {room : Id} {start now : Counter} → Through address p bit at start now → at ≡ Some room
      → Mask address p bit room start now
  mask_at {address} {p} {bit} {at} {room} {start} {now} w is =
      let x = head_of w.rest (w.begins ∙ is) in
      let in_tree = w.inside x.first (subst (IsAmong x.first) (sym x.is) (inl refl)) in
      let leaf = tree_said (leaves_in m) (bits_in m) p.above p.tree p.stands x.first in_tree in
      let stands = subst (MasksStand (masks_in m)) x.is w.stands in
      let falls = subst (Falls p.low w.top) x.is w.falls in
      let listed : AreListed p.low w.top (x.first ∷ x.behind) p.tree = λ y at least below. subst (IsAmong y) x.is (w.listed y at least below) in
      record {
        route = x.first;
        part = leaf_part x.first leaf.0 leaf.1 leaf.2;
        said = ap (λ i. leaves_in m (number_of i)) (sym x.room_is) ∙ leaf.3;
        room_is = x.room_is;
        key = refl;
        rank = refl;
        mask = record { block = x.first.room.block; next = first_room x.behind };
        listed = ap (λ i. masks_in m (number_of i)) (sym x.room_is) ∙ stands.0;
        block = ap (λ i. i.block) x.room_is;
        turn = w.turn;
        rises = w.rises;
        soon = omega (arith, falls.0, falls.1);
        hit = mask_hit address p.low w.top (bit + 1) x.first x.behind p.tree falls listed w.tried in_tree;
        miss = λ later not once. record {
          rest = x.behind;
          top = x.first.entry.rank;
          begins = refl;
          stands = stands.1;
          falls = falls.2;
          inside = λ y among. w.inside y (subst (IsAmong y) (sym x.is) (inr among));
          listed = listed_behind p.low w.top x.first x.behind p.tree falls listed;
          tried = mask_miss address p.low w.top (bit + 1) x.first x.behind p.tree falls listed w.tried not;
          fits = omega (arith, falls.0);
          past = omega (arith, falls.1);
          turn = once.turn ∙ w.turn;
          rises = omega arith;
          few = omega (arith, falls.1);
        };
      }

  -- whether its route covers the address is whether its leaf agrees
  pub hit : {address : ℕ} {p : Part m} {bit : ℕ} {room : Id} {start now : Counter} (x : Mask address p bit room start now) {l : Leaf} {agree : Bool}
      → l ≡ x.part.leaf → agree ≡ agrees l.rank l.key address → agree ≡ true → Tells (Best address p.low (bit + 1) (In p)) (Some room)
  hit {address} {p} x is asked agree =
      (x.route, x.room_is, x.hit (covered address x.route (sym (agrees_is address x.route is x.key x.rank) ∙ sym asked ∙ agree)))

  pub miss : {address : ℕ} {p : Part m} {bit : ℕ} {room : Id} {start now later : Counter} (x : Mask address p bit room start now) {l : Leaf} (n : MaskNode)
      {agree : Bool} → l ≡ x.part.leaf → masks_in m (number_of room) ≡ mask_part room.block (Some n) → agree ≡ agrees l.rank l.key address
      → agree ≡ false → ReadsOnce now later → Through address p bit n.next start later
  miss {address} {p} {bit} {start = start} {later = later} x {l = l} n is said asked not once =
      let more = x.miss later (not_covered address x.route (sym (agrees_is address x.route is x.key x.rank) ∙ sym asked ∙ not)) once in
      search (arith, inside)

  pub ended : {address : ℕ} {p : Part m} {bit : ℕ} {at : Option Id} {start now : Counter} → Through address p bit at start now → at ≡ None
      → Best address p.low (bit + 1) (In p) None
  ended {address} {p} {bit} w is = search (arith, list_ends, ended_at)

  -- -------- a walk up a tree from the leaf of an address, in search of its best route
  -- all beneath a part was searched in vain
  pub record Searched (address : ℕ) (start now : Counter) (part : Part m) : Type 0 where
    pub none : Best address part.low 34 (In part) None
    pub rises : start.count ≤ now.count
    pub few : now.count + 2 * part.low ≤ start.count + 131

  -- ---- at the leaf
  pub leaf_hit : {address : ℕ} {whole : Part m} {room found : Id} (l : LedTo address whole room) {o : Option Id} → o ≡ Some found
      → Tells (Best address 0 34 (λ y. IsAmong y (l.leaf.first ∷ l.leaf.rest))) o → Tells (Best address 0 34 (In whole)) (Some found)
  leaf_hit {address} {whole} {room} l some tells =
      let told = subst (Tells (Best address 0 34 (λ y. IsAmong y (l.leaf.first ∷ l.leaf.rest)))) some tells in
      let best = told.2 in (
        told.0,
        told.1,
        way_best m address whole l.part l.ups l.way told.0
            (in_leaf l.leaf told.0 best.0, best.1, grind arith),
      )

  pub searched : {address : ℕ} {whole : Part m} {room : Id} {start now : Counter} (l : LedTo address whole room) {o : Option Id} → o ≡ None
      → Tells (Best address 0 34 (λ y. IsAmong y (l.leaf.first ∷ l.leaf.rest))) o → Reads start now 67 → Searched address start now l.part
  searched {address} {whole} {room} l none tells soon = grind arith

  -- ---- at a bit node above: its list has a route of the address
  pub hit_above : {address : ℕ} {whole under : Part m} {room found : Id} {start now : Counter} (o : Over address whole under room) {answer : Option Id}
      → Searched address start now under → answer ≡ Some found
      → Tells (Best address o.part.low ((fork_over o).bit + 1) (In o.part)) answer → Tells (Best address 0 34 (In whole)) (Some found)
  hit_above {address} {whole} {under} o s some tells =
      let b = o.beneath in
      let told = subst (Tells (Best address o.part.low (b.at.bit + 1) (In o.part))) some tells in (
        told.0,
        told.1,
        way_best m address whole o.part o.ups o.way told.0
            (listed_hit (side_of b) o.part.low told.0 (subst (λ n. Best address n 34 (In under) None) b.low s.none) told.2),
      )

  -- or none
  pub miss_above : {address : ℕ} {whole under : Part m} {room : Id} {start now later : Counter} (o : Over address whole under room) {answer : Option Id}
      → Searched address start now under → answer ≡ None
      → Tells (Best address o.part.low ((fork_over o).bit + 1) (In o.part)) answer → Reads now later ((fork_over o).bit + 1 - o.part.low + 1)
      → Searched address start later o.part
  miss_above {address} {whole} {under} {room} o s none tells more =
      let b = o.beneath in
      let told = subst (Tells (Best address o.part.low (b.at.bit + 1) (In o.part))) none tells in
      let rises = (fork_is (fork_over o)).0.rises in
      record {
        none = listed_miss (side_of b) o.part.low (subst (λ n. Best address n 34 (In under) None) b.low s.none) told;
        rises = omega arith;
        few = omega (arith, b.low, s.few);
      }
