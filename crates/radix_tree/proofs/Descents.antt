-- Walks down a tree, from its root and from a node that is near.
use Rattle.radix_tree.proofs.{Climbs.used, Climbs.node_at, Climbs.Climb, Climbs.Over, Climbs.fork_over, Climbs.ended, Climbs.Steps, Climbs.step_risen}
use Rattle.radix_tree.proofs.{Parts.fork_named, Parts.leaf_named, Parts.fork_is, Parts.zero_part, Parts.one_part, Parts.zero_beneath, Parts.one_beneath}
use Rattle.radix_tree.proofs.{Parts.among_leaf, Parts.in_leaf, Parts.way_inside, Parts.way_leads, Parts.fork_name, TreeMembers.chain_key}
use Rattle.radix_tree.proofs.Words.{◌≡◌, ℕ, ◌+◌, ◌≤◌, List, [], ◌∷◌, Option, Some, None, refl, sym, ◌∙◌, subst, arith, Counter, Id, BitNode, Node, LeafOf}
use Rattle.radix_tree.proofs.Words.{BitOf, IsBitNode, Reads, ReadsOnce, IsBitNodeOf, Part, name_of, Tells, Finds, HasPair, In, LedTo, Way, bit_at, IsAmong}
use Rattle.radix_tree.proofs.Words.{Lodged, inside, none_some, ◌<◌, ◌++◌, ap, inl, inr, Has, Seen, get, leaf_in, number_of, IsIn, Leaf, LeafPart, Placed}
use Rattle.radix_tree.proofs.Words.{leaves_in, place_of, places_in}
use Rattle.radix_tree.specs.Searches.{IsOnWay}

module _ {V : Type 0} {m : Lodged V} where
  -- a walk down that has come to a node, by as many reads as there are bits above it at most
  pub record Down (address : ℕ) (whole : Part m) (at : Node) (start now : Counter) : Type 0 where
    pub part : Part m
    pub named : name_of part.tree ≡ at
    pub ups : List (Part m)
    pub way : Way address whole part ups
    pub reads : Reads start now part.low

  pub begun : {address : ℕ} {p : Part m} {from : Node} (v : Counter) → name_of p.tree ≡ from → Down address p from v v
  begun {p = p} v named = record { part = p; named = named; ups = []; way = refl; reads = grind arith }

  pub used_at : {address : ℕ} {whole : Part m} {at : Node} {room : Id} {start now : Counter} → Down address whole at start now → at ≡ BitOf room
      → IsBitNode m room
  used_at {room = room} d is = used (fork_named d.part (d.named ∙ is))

  -- from a bit node it goes on to the side of the address's bit
  pub record Parted (address : ℕ) (whole : Part m) (n : BitNode) (start later : Counter) : Type 0 where
    pub within : n.bit ≤ 31
    pub soon : later.count ≤ start.count + 32
    pub zero : bit_at n.bit address ≡ 0 → Down address whole n.zero start later
    pub one : bit_at n.bit address ≡ 1 → Down address whole n.one start later

  pub parted : {address : ℕ} {whole : Part m} {at : Node} {room : Id} {start now later : Counter} {n : BitNode} → Down address whole at start now
      → at ≡ BitOf room → IsBitNodeOf m room n → ReadsOnce now later → Parted address whole n start later
  parted {address} {whole} {at} {room} {start} {now} {later} {n} d is said more =
      let f = fork_named d.part (d.named ∙ is) in
      let same = node_at f said in
      let tree = (fork_is f).0 in
      let bit = same.bit in
      let reads : Reads start later (f.bit + 1) = record { turn = more.turn ∙ d.reads.turn; rises = omega arith; bound = omega arith } in
      record {
        within = omega arith;
        soon = omega arith;
        zero = λ clear. record {
          part = zero_part f;
          named = sym same.zero;
          ups = d.part ∷ d.ups;
          way = (zero_beneath f address (subst (λ b. bit_at b address ≡ 0) bit clear), d.way);
          reads = reads;
        };
        one = λ set. record {
          part = one_part f;
          named = sym same.one;
          ups = d.part ∷ d.ups;
          way = (one_beneath f address (subst (λ b. bit_at b address ≡ 1) bit set), d.way);
          reads = reads;
        };
      }

  module _ {address : ℕ} {whole : Part m} {at : Node} {start now : Counter} (d : Down address whole at start now) where
    pub led : {room : Id} → at ≡ LeafOf room → LedTo address whole room
    led {room = room} is = record { part = d.part; leaf = leaf_named d.part (d.named ∙ is); ups = d.ups; way = d.way }

  -- a pair that is found at the leaf to which its key leads, or not there, is found so in the whole tree
  pub pair_led : (rank : ℕ) {key : ℕ} {whole : Part m} {room : Id} (l : LedTo key whole room) (o : Option Id)
      → Tells (Finds (HasPair key rank) (λ y. IsAmong y (l.leaf.first ∷ l.leaf.rest))) o → Tells (Finds (HasPair key rank) (In whole)) o
  pair_led rank {key} {whole = whole} {room} l None none = λ y is has. none y (among_leaf l.leaf y (way_leads m whole l.part l.ups l.way y is has.0)) has
  pair_led rank {key} {whole = whole} {room} l (Some i) found =
      (found.0, found.1, (way_inside m key whole l.part l.ups l.way found.0 (in_leaf l.leaf found.0 found.2.0), found.2.1))

-- -------- a way down that begins near: at a node on the way up from the leaf of another key
module _ {V : Type 0} where
  -- a room that has a place is in the map
  lodged_there : (m : Lodged V) (room : Id) (k : ℕ) (o : Option (Seen V)) → get m (number_of room) ≡ o → place_of (leaf_in o) ≡ Some (room.block, k) → Has m room
  lodged_there m room k None at is = absurd (none_some is)
  lodged_there m room k (Some s) at is = record { room = s; at = at; block = ap (λ q. q.0) (inside is) }

  pub has_place : (m : Lodged V) (room : Id) (k : ℕ) → places_in m (number_of room) ≡ Some (room.block, k) → Has m room
  has_place m room k is = lodged_there m room k (get m (number_of room)) refl is

  module _ {m : Lodged V} where
    -- the way of a key to a part is that of each address with the same bits before the part's
    way_turned : (key address : ℕ) (whole part : Part m) (ups : List (Part m)) → ((c : ℕ) → c < part.low → bit_at c address ≡ bit_at c key)
        → Way key whole part ups → Way address whole part ups
    way_turned key address whole part [] same way = way
    way_turned key address whole part (p ∷ ps) same way =
        let b = way.0 in
        let here = same b.at.bit (omega (arith, b.low)) in
        let rises = (fork_is b.at).0.rises in (
          record {
            room = b.room;
            at = b.at;
            above = b.above;
            low = b.low;
            side = elim b.side [ inl zero ↦ inl (zero.0, here ∙ zero.1) | inr one ↦ inr (one.0, here ∙ one.1) ];
          },
          way_turned key address whole p ps (λ c before. same c (omega (arith, b.low, rises))) way.1,
        )

    -- a way goes on from a part on it
    way_on : (address : ℕ) (whole mid part : Part m) (ups more : List (Part m)) → Way address mid part ups → Way address whole mid more → Way address whole part (ups ++ more)
    way_on address whole mid part [] more way on = subst (λ p. Way address whole p more) (sym way) on
    way_on address whole mid part (p ∷ ps) more way on = (way.0, way_on address whole mid p ps more way.1 on)

    pub led_on : {address : ℕ} {whole : Part m} {at : Node} {room : Id} (o : IsOnWay address whole at) → LedTo address o.part room → LedTo address whole room
    led_on {address} {whole} o d = record { part = d.part; leaf = d.leaf; ups = d.ups ++ o.ups; way = way_on address whole o.part d.part d.ups o.ups d.way o.way }

    -- the root is on the way of each address
    pub whole_on_way : {address : ℕ} (whole : Part m) {at : Node} → name_of whole.tree ≡ at → IsOnWay address whole at
    whole_on_way whole named = record { part = whole; named = named; ups = []; way = refl }

    -- and a leaf is on that of its key
    pub leaf_on_way : {key address : ℕ} {whole : Part m} {room : Id} → LedTo key whole room → address ≡ key → IsOnWay address whole (LeafOf room)
    leaf_on_way {whole = whole} {room} d same = record {
      part = d.part;
      named = ap name_of d.leaf.is ∙ ap LeafOf d.leaf.room_is;
      ups = d.ups;
      way = subst (λ k. Way k whole d.part d.ups) (sym same) d.way;
    }

    -- what is read of the leaf to which a route's key leads is that key
    pub led_key : {whole : Part m} {room : Id} {f : Leaf} (y : Placed V) → IsIn y whole.tree → (d : LedTo y.entry.key whole room)
        → ((p : LeafPart V) → leaves_in m (number_of room) ≡ Some p → f ≡ p.leaf) → f.key ≡ y.entry.key
    led_key {whole} {room} {f} y is d said = search (arith, way_leads, chain_key)

    -- ---- the way up
    -- a part of this name
    pub record Named (below : Node) (start now : Counter) (part : Part m) : Type 0 where
      pub named : name_of part.tree ≡ below
      pub steps : Steps start now part

    pub leaf_begins : {key : ℕ} {whole : Part m} {room : Id} {start now : Counter} (d : LedTo key whole room) → ReadsOnce start now → Named (LeafOf room) start now d.part
    leaf_begins d once = grind arith

    pub over_named : {key : ℕ} {whole under : Part m} {room : Id} {below : Node} {start now later : Counter} (o : Over key whole under room) → Named below start now under
        → ReadsOnce now later → Named (BitOf room) start later o.part
    over_named o is once = record { named = fork_name (fork_over o); steps = step_risen o is.steps once }

    turned : (key address bit : ℕ) {whole : Part m} {at : Node} → ((c : ℕ) → c < bit → bit_at c address ≡ bit_at c key) → (part : Part m) (ups : List (Part m))
        → name_of part.tree ≡ at → part.low ≤ bit → Way key whole part ups → IsOnWay address whole at
    turned key address bit {whole} same part ups named low way = record {
      part = part;
      named = named;
      ups = ups;
      way = way_turned key address whole part ups (λ c before. same c (omega (arith, low))) way;
    }

    module _ {key address bit : ℕ} {whole : Part m} (same : (c : ℕ) → c < bit → bit_at c address ≡ bit_at c key) where
      -- beneath a bit node whose bit comes before
      pub stopped : {below : Node} {room : Id} {start now : Counter} {above : Option Id} {n : BitNode} (c : Climb key whole (Named below start now) above)
          → Over key whole c.part room → IsBitNodeOf m room n → n.bit < bit → IsOnWay address whole below
      stopped c o is before = turned key address bit same c.part c.ups c.holds.named (omega (arith, (node_at (fork_over o) is).bit, o.beneath.low)) c.way

      -- at one that has the very bit
      pub met : {under : Part m} {room : Id} {n : BitNode} (o : Over key whole under room) → IsBitNodeOf m room n → n.bit ≡ bit → IsOnWay address whole (BitOf room)
      met o is here = turned key address bit same o.part o.ups (fork_name (fork_over o)) (omega (arith, (node_at (fork_over o) is).bit, (fork_is o.beneath.at).0.rises)) o.way

      -- or at the root
      pub topped : {below : Node} {start now : Counter} {above : Option Id} → Climb key whole (Named below start now) above → above ≡ None → IsOnWay address whole below
      topped c none = whole_on_way whole (ended c none).named
