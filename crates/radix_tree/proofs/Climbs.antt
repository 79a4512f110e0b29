-- Walks up a tree, from a leaf of a key: to the home of a mask, and to the spot of a new key.
use Rattle.radix_tree.proofs.{RoomReads.IsNode, RoomReads.node_said, Facts.zero_or_one, PartRooms.one_value}
use Rattle.radix_tree.proofs.Parts.{bit_part_of, fork_stands, fork_is, fork_name}
use Rattle.radix_tree.proofs.Words.{inside, none_some, ◌≡◌, ℕ, ◌+◌, ◌≤◌, List, [], ◌∷◌, Option, Some, None, sym, ap, ◌∙◌, subst, arith, Counter, Id, BitNode}
use Rattle.radix_tree.proofs.Words.{Leaf, IsBitNode, IsBitNodeOf, ReadsOnce, LeafPart, Part, leaves_in, ForkAt, LedTo, Beneath, Way, fork, Lodged, number_of}
use Rattle.radix_tree.proofs.Words.{◌<◌, refl, inl, inr, IsHome, HasHome, cases_eq, Node, LeafOf, BitOf, AreOnce, IsNew, IsSpot, Differs, name_of, bit_at}
use Rattle.radix_tree.proofs.Words.{HaveBit, IsTree}

module _ {V : Type 0} {m : Lodged V} where
  -- a walk up that has come to what is above a part, of which something holds
  pub record Climb (key : ℕ) (whole : Part m) (Holds : Part m → Type 0) (at : Option Id) : Type 0 where
    pub part : Part m
    pub above : part.above ≡ at
    pub ups : List (Part m)
    pub way : Way key whole part ups
    pub holds : Holds part

  -- from the leaf to which a key leads
  pub begun : {key : ℕ} {whole : Part m} {room : Id} {f : Leaf} {Holds : Part m → Type 0} (l : LedTo key whole room)
      → ((p : LeafPart V) → leaves_in m (number_of room) ≡ Some p → f ≡ p.leaf) → Holds l.part → Climb key whole Holds f.above
  begun {room = room} l said holds = record { part = l.part; above = grind arith; ups = l.ups; way = l.way; holds = holds }

  -- the bit node above a part
  pub record Over (key : ℕ) (whole under : Part m) (room : Id) : Type 0 where
    pub part : Part m
    pub beneath : Beneath key under part
    pub room_is : beneath.room ≡ room
    pub ups : List (Part m)
    pub way : Way key whole part ups

  over_of : (key : ℕ) {whole under : Part m} {room : Id} (ups : List (Part m)) → Way key whole under ups → whole.above ≡ None → under.above ≡ Some room
      → Over key whole under room
  over_of key [] way top is = grind arith
  over_of key (p ∷ ps) way top is = record { part = p; beneath = way.0; room_is = inside (sym way.0.above ∙ is); ups = ps; way = way.1 }

  pub over : {key : ℕ} {whole : Part m} {Holds : Part m → Type 0} {at : Option Id} {room : Id} → whole.above ≡ None → (c : Climb key whole Holds at)
      → at ≡ Some room → Over key whole c.part room
  over {key} top c is = over_of key c.ups c.way top (c.above ∙ is)

  abbrev pub fork_over : {key : ℕ} {whole under : Part m} {room : Id} (o : Over key whole under room) → ForkAt o.part room
  fork_over o = let f = o.beneath.at in
      record { bit = f.bit; zero = f.zero; one = f.one; is = f.is ∙ ap (λ i. fork i f.bit f.zero f.one) o.room_is }

  pub used : {p : Part m} {room : Id} (f : ForkAt p room) → IsBitNode m room
  used {p} {room} f = grind arith

  -- what its room says is what the tree has there
  pub node_at : {p : Part m} {room : Id} {n : BitNode} (f : ForkAt p room) → IsBitNodeOf m room n → IsNode n (bit_part_of f)
  node_at {p} {room} f is = node_said is.said (fork_stands f).0

  -- and on from there
  pub risen : {key : ℕ} {whole under : Part m} {room : Id} {n : BitNode} {Holds : Part m → Type 0} (o : Over key whole under room) → IsBitNodeOf m room n
      → Holds o.part → Climb key whole Holds n.above
  risen o is holds = record { part = o.part; above = sym (node_at (fork_over o) is).above; ups = o.ups; way = o.way; holds = holds }

  -- where there is none, the part is the whole
  topped : (key : ℕ) {whole part : Part m} (Holds : Part m → Type 0) (ups : List (Part m)) → Way key whole part ups → part.above ≡ None → Holds part
      → Holds whole
  topped key Holds [] way none holds = subst Holds way holds
  topped key Holds (p ∷ ps) way none holds = absurd (none_some (sym none ∙ way.0.above))

  pub ended : {key : ℕ} {whole : Part m} {Holds : Part m → Type 0} {at : Option Id} → Climb key whole Holds at → at ≡ None → Holds whole
  ended {key} {Holds = Holds} c is = grind (arith, topped)

  -- ---- a read for each bit node
  pub record Steps (start now : Counter) (part : Part m) : Type 0 where
    pub rises : start.count ≤ now.count
    pub few : now.count + part.low ≤ start.count + 33

  module _ {key : ℕ} {whole under : Part m} {room : Id} {start now : Counter} (o : Over key whole under room) (s : Steps start now under) where
    pub step_risen : {later : Counter} → ReadsOnce now later → Steps start later o.part
    step_risen once = grind arith

  -- -------- a walk up from a leaf to the bit node at which a mask is listed
  -- past bit nodes whose bits are all at or past the rank, of which the last one is told
  abbrev IsLast : (key rank : ℕ) (part : Part m) → Option Id → Type 0
  IsLast key rank part None = HasHome key rank part.tree → ⊥
  IsLast key rank part (Some room) = (f : ForkAt part room) × (rank ≤ f.bit)

  pub record HomePassed (key rank : ℕ) (last : Option Id) (start now : Counter) (part : Part m) : Type 0 where
    pub last_is : IsLast key rank part last
    pub steps : Steps start now part

  pub none_passed : (rank : ℕ) {key : ℕ} {whole : Part m} {room : Id} {start now : Counter} (l : LedTo key whole room) → ReadsOnce start now
      → HomePassed key rank None start now l.part
  none_passed rank {key} l once = grind arith

  -- a bit node above whose bit is at or past the rank
  pub home_passed : {key rank : ℕ} {last : Option Id} {whole under : Part m} {room : Id} {start now later : Counter}
      {n : BitNode} (o : Over key whole under room) → HomePassed key rank last start now under → IsBitNodeOf m room n
      → rank ≤ n.bit → ReadsOnce now later → HomePassed key rank (Some room) start later o.part
  home_passed {n = n} o p is past once = record { last_is = (fork_over o, omega (arith, (node_at (fork_over o) is).bit)); steps = step_risen o p.steps once }

  -- where no bit node above a part is at or past the rank, a home is beneath
  no_home : (key rank : ℕ) (whole under : Part m) (ups : List (Part m)) → Way key whole under ups → under.low ≤ rank → (HasHome key rank under.tree → ⊥)
      → HasHome key rank whole.tree → ⊥
  no_home key rank whole under [] way low none home = none (subst (λ p. HasHome key rank p.tree) (sym way) home)
  no_home key rank whole under (p ∷ ps) way low none home = search (arith, no_home key rank whole p ps way.1)

  home_told : (key rank : ℕ) (whole part : Part m) (ups : List (Part m)) (last : Option Id) → Way key whole part ups → IsLast key rank part last
      → part.low ≤ rank → IsHome m key rank whole last
  home_told key rank whole part ups None way last low = no_home key rank whole part ups way low last
  home_told key rank whole part ups (Some room) way last low = record { part = part; at = last.0; ups = ups; way = way; past = low; within = last.1 }

  -- the next bit node above is before the rank
  pub home_stopped : {key rank : ℕ} {last : Option Id} {whole : Part m} {at : Option Id} {room : Id} {start now : Counter} {n : BitNode}
      (c : Climb key whole (HomePassed key rank last start now) at) (o : Over key whole c.part room) → IsBitNodeOf m room n
      → n.bit < rank → IsHome m key rank whole last
  home_stopped {key} {rank} {last} {whole} {n = n} c o is before = grind (arith, home_told)

  -- or there is none
  pub home_topped : {key rank : ℕ} {last : Option Id} {whole : Part m} {at : Option Id} {start now : Counter} → whole.low ≡ 0
      → Climb key whole (HomePassed key rank last start now) at → at ≡ None → IsHome m key rank whole last
  home_topped {key} {rank} {last} {whole} low c is = home_told key rank whole whole [] last refl (ended c is).last_is (omega arith)

  -- -------- a walk up from a leaf to the spot at which a route of a new key comes in
  -- a value that all keys of a part have at a bit before the node's above is that of all beneath the node
  agree_up : {key : ℕ} (c value : ℕ) {under over : Part m} (b : Beneath key under over) → c < b.at.bit → HaveBit c value under.tree
      → HaveBit c value over.tree
  agree_up c value b before have = grind (arith, one_value, (fork_is b.at).0.agree c before)

  -- beneath a bit node on a key's side all keys have the key's bit
  own_side : (key : ℕ) {under over : Part m} (b : Beneath key under over) → HaveBit b.at.bit (bit_at b.at.bit key) under.tree
  own_side key b = grind (arith, (fork_is b.at).0)

  raised : {over : Part m} {room : Id} (f : ForkAt over room) (bit : ℕ) → bit < f.bit → IsTree (bit + 1) over.tree
  raised f bit past = grind (arith, fork_is f)

  -- a part of this name, all of whose bits are past that one
  pub record Past (key other bit : ℕ) (below : Node) (start now : Counter) (part : Part m) : Type 0 where
    pub named : name_of part.tree ≡ below
    pub past : IsTree (bit + 1) part.tree
    pub agree : (c : ℕ) → c < bit → HaveBit c (bit_at c key) part.tree
    pub here : HaveBit bit (bit_at bit other) part.tree
    pub steps : Steps start now part

  -- the leaf is one
  pub leaf_past : {key bit : ℕ} {whole : Part m} {room : Id} {start now : Counter} (d : LedTo key whole room) → Differs key d.leaf.first.entry.key bit
      → ReadsOnce start now → Past key d.leaf.first.entry.key bit (LeafOf room) start now d.part
  leaf_past {bit = bit} d differs once = grind arith

  -- and so is that of a bit node above whose bit is past it
  pub over_past : {key other bit : ℕ} {below : Node} {whole under : Part m} {room : Id} {start now later : Counter} {n : BitNode}
      (o : Over key whole under room) → Past key other bit below start now under → IsBitNodeOf m room n
      → bit < n.bit → ReadsOnce now later → Past key other bit (BitOf room) start later o.part
  over_past {key} {other} {bit} {under = under} {room} {n = n} o r is past once =
      let b = o.beneath in
      let same = (node_at (fork_over o) is).bit in
      let further : bit < b.at.bit = omega arith in
      record {
        named = fork_name (fork_over o);
        past = raised b.at bit further;
        agree = λ c before. agree_up c (bit_at c key) b (omega arith) (r.agree c before);
        here = agree_up bit (bit_at bit other) b further r.here;
        steps = step_risen o r.steps once;
      }

  spot_of : {key other bit : ℕ} {above : Option Id} {below : Node} {whole : Part m} {start now : Counter}
      (c : Climb key whole (Past key other bit below start now) above) → whole.above ≡ None → AreOnce whole.tree → Differs key other bit
      → c.part.low ≤ bit → IsSpot m key bit whole above below
  spot_of {other = other} {bit} c top once differs low =
      record {
        at = c.part;
        ups = c.ups;
        way = c.way;
        top = top;
        once = once;
        place = grind (arith, zero_or_one);
        above_is = c.above;
        named = c.holds.named;
      }

  -- the spot is beneath the first bit node whose bit is not past the one at which the keys differ
  pub spot_stopped : {key bit : ℕ} {leaf room : Id} {below : Node} {start now : Counter} {n : BitNode} (w : IsNew m key bit leaf) {above : Option Id}
      (c : Climb key w.whole (Past key w.led.leaf.first.entry.key bit below start now) above)
      → Over key w.whole c.part room → IsBitNodeOf m room n → n.bit ≤ bit → IsSpot m key bit w.whole above below
  spot_stopped {key} {bit} {n = n} w c o is before =
      let other = w.led.leaf.first.entry.key in
      let b = o.beneath in
      let same = (node_at (fork_over o) is).bit in
      let other_bit : b.at.bit ≡ bit → ⊥ = λ e. w.differs.at
      (one_value bit (bit_at bit key) (bit_at bit other) c.part.tree (subst (λ k. HaveBit k (bit_at k key) c.part.tree) e (own_side key b))
      c.holds.here) in
      spot_of c w.top w.once w.differs (elim (cases_eq b.at.bit bit) [ inl e ↦ absurd (other_bit e) | inr ne ↦ omega (arith, b.low) ])

  -- or above the whole tree
  pub spot_topped : {key bit : ℕ} {leaf : Id} {below : Node} {start now : Counter} (w : IsNew m key bit leaf) {above : Option Id}
      → Climb key w.whole (Past key w.led.leaf.first.entry.key bit below start now) above → above ≡ None → IsSpot m key bit w.whole above below
  spot_topped {key} w c is =
      spot_of (record { part = w.whole; above = w.top ∙ sym is; ups = []; way = refl; holds = ended c is }) w.top w.once w.differs (omega (arith, w.low))
