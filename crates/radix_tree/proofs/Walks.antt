-- A walk over a tree: what stands behind a part of it, the first route beneath a part, and where the next route is.
use Rattle.radix_tree.proofs.{Facts.zero_or_one, Facts.zero_not_one, TreeMembers.bit_beneath, Scans.chain_most, WholeRoutes.beneath_is, WholeRoutes.chain_is}
use Rattle.radix_tree.proofs.Parts.{fork_is, fork_stands, leaf_run, leaf_begins, Has-fork, one_part}
use Rattle.radix_tree.proofs.RoomReads.{Has-leaf_at, AreLinks, bit_read, bit_used, Has-leaf}
use Rattle.radix_tree.proofs.Words.{inside, ◌≡◌, ℕ, zero, suc, ◌+◌, ◌-◌, ◌%◌, ◌^◌, ◌≤◌, ◌==◌, Bool, true, false, if◌then◌else◌, List, [], ◌∷◌, ◌++◌, map, Some}
use Rattle.radix_tree.proofs.Words.{None, refl, sym, ap, ◌∙◌, subst, inl, inr, arith, eqb-true, append_assoc, Id, Placed, Tree, IsIn, IsTree, routes_of, Leaves}
use Rattle.radix_tree.proofs.Words.{Bits, Part, Run, leaves_in, bits_in, leaf_part, first_room, name_of, ForkAt, LeafAt, Way, LedTo, side_behind, chain_behind}
use Rattle.radix_tree.proofs.Words.{ahead, Under, IsBefore, IsFirst, IsAt, chain_shown, beneath_shown, Entry, Place, Lodged, number_of, ◌⊎◌, Option, Has}
use Rattle.radix_tree.proofs.Words.{leaf_of, bit_node_of, BitNode, Leaf, Links, levels, IsChain, ChainStands, IsOn, chain_from, none_some}
use Rattle.radix_tree.specs.Tree.{bit_at}
use Rattle.std.proofs.Math.Nat.{zero-div}
use Rattle.radix_tree.specs.Walks.{up_behind}

zero_bit : (b : ℕ) → bit_at b 0 ≡ 0
unfolding bit_at
zero_bit b = ap (λ n. n % 2) (zero-div (2 ^ (31 - b)))

at_zero : {A : Type 0} {v : ℕ} (x y : A) → v ≡ 0 → (if v == 1 then x else y) ≡ y
at_zero {v = v} x y e = ap (λ v. if v == 1 then x else y) e

at_one : {A : Type 0} {v : ℕ} (x y : A) → v ≡ 1 → (if v == 1 then x else y) ≡ x
at_one {v = v} x y e = ap (λ v. if v == 1 then x else y) e

-- the side on which a key is, as it was tested
pub on_zero : (b key : ℕ) {t : Bool} → t ≡ (bit_at b key == 1) → t ≡ false → bit_at b key ≡ 0
on_zero b key is fails = grind (arith, zero_or_one)

pub on_one : (b key : ℕ) {t : Bool} → t ≡ (bit_at b key == 1) → t ≡ true → bit_at b key ≡ 1
on_one b key is holds = eqb-true (bit_at b key) 1 (sym is ∙ holds)

abbrev pub at_first : Id → Place
at_first room = record { first = room; room = room }

abbrev pub beside : Place → Id → Place
beside place next = record { first = place.first; room = next }

module _ {V : Type 0} where
  -- a route beneath a side has its bit
  pub side_zero : {m : Lodged V} {over : Part m} {room : Id} (f : ForkAt over room) {under : Tree V} (x : Placed V) → under ≡ f.zero → IsIn x under
      → bit_at f.bit x.entry.key ≡ 0
  side_zero f x e at = grind (arith, bit_beneath, fork_is f)

  pub side_one : {m : Lodged V} {over : Part m} {room : Id} (f : ForkAt over room) {under : Tree V} (x : Placed V) → under ≡ f.one → IsIn x under
      → bit_at f.bit x.entry.key ≡ 1
  side_one f x e at = grind (arith, bit_beneath, fork_is f)

  pub under_inside : {m : Lodged V} {right : List (Entry V)} {under over : Part m} (u : Under right under over) (x : Placed V) → IsIn x under.tree
      → IsIn x over.tree
  under_inside u x at = grind arith

  one_shown : (m : Lodged V) {over : Part m} (room : Id) (f : ForkAt over room) → beneath_shown 33 (leaves_in m) (bits_in m) (name_of f.one) ≡ routes_of f.one
  one_shown m room f = beneath_is 33 (f.bit + 1) (leaves_in m) (bits_in m) (Some room) f.one (fork_is f).2 (fork_stands f).2 (omega arith)

  right_is : (m : Lodged V) {right : List (Entry V)} {under over : Part m} (u : Under right under over) (x : Placed V) → IsIn x under.tree
      → (if bit_at u.at.bit x.entry.key == 1 then [] else beneath_shown 33 (leaves_in m) (bits_in m) (name_of u.at.one)) ≡ right
  right_is m u x at = elim u.side [
    | inl e ↦ search (at_zero, side_zero, one_shown, u.at, e.0, u.room, e.1)
    | inr e ↦ at_one [] _ (side_one u.at x e.0 at) ∙ sym e.1
  ]

  -- the bit node above a part
  up_from : (m : Lodged V) (n : ℕ) (key : ℕ) {over : Part m} {room : Id} (f : ForkAt over room) → up_behind (suc n) (leaves_in m) (bits_in m) key (Some room)
      ≡ (if bit_at f.bit key == 1 then [] else beneath_shown 33 (leaves_in m) (bits_in m) (name_of f.one))
      ++ up_behind n (leaves_in m) (bits_in m) key over.above
  unfolding up_behind
  up_from m n key f = ap (λ o. side_behind key (beneath_shown 33 (leaves_in m) (bits_in m)) (up_behind n (leaves_in m) (bits_in m) key) o) (fork_stands f).0

  up_none : (n key : ℕ) (L : Leaves V) (B : Bits) → up_behind (suc n) L B key None ≡ []
  unfolding up_behind
  up_none n key L B = refl

  pub up_is : (m : Lodged V) (n : ℕ) (whole at : Part m) (behind : List (Entry V)) (ups : List (Part m)) (x : Placed V) → IsIn x at.tree
      → IsBefore whole at behind ups → whole.above ≡ None → at.low ≤ n → up_behind (suc n) (leaves_in m) (bits_in m) x.entry.key at.above ≡ behind
  up_is m n whole at behind [] x inside before top low = search (up_none, before.0, before.1, top)
  up_is m zero whole at behind (over ∷ ups) x inside before top low = absurd (omega arith)
  up_is m (suc n) whole at behind (over ∷ ups) x inside before top low =
      let u = before.2 in
      ap (λ a. up_behind (suc (suc n)) (leaves_in m) (bits_in m) x.entry.key a) u.above ∙ up_from m (suc n) x.entry.key u.at
      ∙ ap (λ es. es ++ up_behind (suc n) (leaves_in m) (bits_in m) x.entry.key over.above) (right_is m u x inside)
      ∙ ap (λ es. before.0 ++ es) (up_is m n whole over before.1 ups x (under_inside u x inside) before.3 top
      (omega (arith, (fork_is u.at).0.rises))) ∙ sym before.4

  -- ---- the first route beneath a part
  record Lowest (m : Lodged V) (whole sub at : Part m) (behind : List (Entry V)) : Type 0 where
    later : List (Entry V)
    ups : List (Part m)
    before : IsBefore whole at later ups
    same : routes_of at.tree ++ later ≡ routes_of sub.tree ++ behind

  lowest : (m : Lodged V) (whole sub at : Part m) (us : List (Part m)) (behind : List (Entry V)) (vs : List (Part m)) → Way 0 sub at us
      → IsBefore whole sub behind vs → Lowest m whole sub at behind
  lowest m whole sub at [] behind vs way before = grind arith
  lowest m whole sub at (over ∷ us) behind vs way before =
      let r = lowest m whole sub over us behind vs way.1 before in
      let b = way.0 in
      let f = b.at in
      let left : at.tree ≡ f.zero = grind (arith, zero_bit) in
      record {
        later = routes_of f.one ++ r.later;
        ups = over ∷ r.ups;
        before = (routes_of f.one, r.later, record { room = b.room; at = f; above = b.above; low = b.low; side = inl (left, refl) }, r.before, refl);
        same = search (arith, append_assoc);
      }

  module _ {m : Lodged V} {p : Part m} {room : Id} (f : LeafAt p room) where
    pub first_in : IsIn f.first p.tree
    first_in = subst (IsIn f.first) (sym f.is) (inl refl)

    pub leaf_low : p.low ≤ 32
    leaf_low = (subst (IsTree p.low) f.is p.is).0

  pub first_behind : (m : Lodged V) {key : ℕ} {first : Id} (f : IsFirst m key first)
      → chain_behind (leaves_in m) (bits_in m) (leaves_in m (number_of first)) ≡ f.behind
  first_behind m f = grind (arith, up_is)

  pub run_shown : (m : Lodged V) (r : Run m) → chain_shown 34 (leaves_in m) (first_room r.members) ≡ map (λ (p : Placed V). p.entry) r.members
  run_shown m r = search (chain_is, chain_most)

  -- a walk that is there has all beneath the part to give, and what is behind it
  pub record Begins (m : Lodged V) (room : Id) (es : List (Entry V)) : Type 0 where
    pub on : IsAt m (at_first room)
    pub rest : ahead (leaves_in m) (bits_in m) (Some (at_first room)) ≡ es

  pub first_on : (m : Lodged V) (whole sub : Part m) (behind : List (Entry V)) (vs : List (Part m)) {room : Id} → whole.above ≡ None → LedTo 0 sub room
      → IsBefore whole sub behind vs → Begins m room (routes_of sub.tree ++ behind)
  first_on m whole sub behind vs {room = room} top l before =
      let r = lowest m whole sub l.part l.ups behind vs l.way before in
      let run = leaf_run m l.leaf in
      let first : IsFirst m l.leaf.first.entry.key room =
      record { whole = whole; top = top; part = l.part; leaf = l.leaf; own = refl; behind = r.later; ups = r.ups; before = r.before } in
      record {
        on = record { key = l.leaf.first.entry.key; first = first; run = run; begins = leaf_begins l.leaf; of_key = refl };
        rest = ap (λ es. chain_shown 34 (leaves_in m) (Some room) ++ es) (first_behind m first)
            ∙ ap (λ es. es ++ r.later) (ap (chain_shown 34 (leaves_in m)) (sym (leaf_begins l.leaf)) ∙ run_shown m run
            ∙ ap routes_of (sym l.leaf.is)) ∙ r.same;
      }

  -- -------- a walk over a tree: where the next route is, within a chain and on the way up
  -- ---- within a chain
  -- what the room of a place says
  pub record IsHere (m : Lodged V) (place : Place) (a : IsAt m place) : Type 0 where
    pub route : Placed V
    pub rest : List (Placed V)
    pub is : a.run.members ≡ route ∷ rest
    pub room_is : route.room ≡ place.room
    pub said : leaves_in m (number_of place.room) ≡ Some (leaf_part route a.run.above a.run.previous (first_room rest))
    pub chain : IsChain a.run.key a.run.top (route ∷ rest)
    pub stands : ChainStands (leaves_in m) a.run.above a.run.previous (route ∷ rest)

  module _ (m : Lodged V) {place : Place} (a : IsAt m place) where
    here_of : (ms : List (Placed V)) → a.run.members ≡ ms → first_room ms ≡ Some place.room → IsHere m place a
    here_of [] is begins = absurd (none_some begins)
    here_of (x ∷ xs) is begins =
        let stands = subst (ChainStands (leaves_in m) a.run.above a.run.previous) is a.run.stands in
        record {
          route = x;
          rest = xs;
          is = is;
          room_is = inside begins;
          said = search;
          chain = subst (IsChain a.run.key a.run.top) is a.run.is;
          stands = stands;
        }

    pub here : IsHere m place a
    here = here_of a.run.members refl a.begins

    pub Has-here : Has m place.room
    Has-here = let h = here in Has-leaf m place.room h.said (ap (λ i. i.block) h.room_is)

    pub here_read : (links : Links) {l : Leaf} → AreLinks m place.room links → l ≡ leaf_of links
        → let h = here in l ≡ (leaf_part h.route a.run.above a.run.previous (first_room h.rest)).leaf
    here_read links are is = grind arith

  abbrev pub behind_of : (m : Lodged V) → Id → List (Entry V)
  behind_of m first = chain_behind (leaves_in m) (bits_in m) (leaves_in m (number_of first))

  chain_rest : (m : Lodged V) (place : Place) (a : IsAt m place) (h : IsHere m place a)
      → ahead (leaves_in m) (bits_in m) (Some place) ≡ (h.route.entry ∷ map (λ (p : Placed V). p.entry) h.rest) ++ behind_of m place.first
  chain_rest m place a h = grind (arith, run_shown)

  -- what is told from a place on is its route, and then what is told from the next one on
  abbrev pub FollowedBy : Lodged V → Place → Option Place → Type 0
  FollowedBy m place next =
      ahead (leaves_in m) (bits_in m) (Some place) ≡ chain_from (leaves_in m (number_of place.room)) (λ _. ahead (leaves_in m) (bits_in m) next)

  followed : (m : Lodged V) (place : Place) (a : IsAt m place) (h : IsHere m place a) (next : Option Place)
      → map (λ (p : Placed V). p.entry) h.rest ++ behind_of m place.first ≡ ahead (leaves_in m) (bits_in m) next → FollowedBy m place next
  followed m place a h next rest = chain_rest m place a h ∙ ap (λ es. h.route.entry ∷ es) rest
      ∙ ap (λ o. chain_from o (λ _. ahead (leaves_in m) (bits_in m) next)) (sym h.said)

  pub record Follows (m : Lodged V) (place : Place) (next : Option Place) : Type 0 where
    pub on : IsOn m next
    pub rest : FollowedBy m place next

  pub next_on : {m : Lodged V} {place : Place} (a : IsAt m place) (links : Links) {l : Leaf} {next : Id} → AreLinks m place.room links → l ≡ leaf_of links
      → l.next ≡ Some next → Follows m place (Some (beside place next))
  next_on {m = m} {place = place} a links {l = l} {next = next} are is some =
      let h = here m a in
      let begins = sym (ap (λ l. l.next) (here_read m a links are is)) ∙ some in
      let run : Run m =
      record {
        members = h.rest;
        key = a.run.key;
        top = h.route.entry.rank;
        above = None;
        previous = Some h.route.room;
        is = h.chain.3;
        stands = h.stands.1;
      } in
      record {
        on = record { key = a.key; first = a.first; run = run; begins = begins; of_key = a.of_key };
        rest = followed m place a h (Some (beside place next)) (ap (λ es. es ++ behind_of m place.first)
            (sym (run_shown m run) ∙ ap (chain_shown 34 (leaves_in m)) begins));
      }

  pub last_of : {m : Lodged V} (place : Place) (a : IsAt m place) (links : Links) {l : Leaf} (next : Option Place) → AreLinks m place.room links
      → l ≡ leaf_of links → l.next ≡ None → ahead (leaves_in m) (bits_in m) next ≡ behind_of m place.first → FollowedBy m place next
  last_of {m = m} place a links {l = l} next are is none rest = followed m place a (here m a) next (grind arith)

  pub first_of_key : {m : Lodged V} (place : Place) (a : IsAt m place) (links : Links) {l : Leaf} → AreLinks m place.room links → l ≡ leaf_of links
      → IsFirst m l.key place.first
  first_of_key {m = m} place a links {l = l} are is = subst (λ k. IsFirst m k place.first) (grind arith) a.first

  -- ---- the way up
  -- a walk up from that leaf, at a node beneath this one, behind which stands what stands behind the leaf
  pub record Upward (m : Lodged V) (key : ℕ) (first : Id) (above : Option Id) (steps : ℕ) : Type 0 where
    pub whole : Part m
    pub top : whole.above ≡ None
    pub part : Part m
    pub above_is : part.above ≡ above
    pub route : Placed V
    pub inside : IsIn route part.tree
    pub own : route.entry.key ≡ key
    pub behind : List (Entry V)
    pub ups : List (Part m)
    pub before : IsBefore whole part behind ups
    pub same : behind ≡ chain_behind (leaves_in m) (bits_in m) (leaves_in m (number_of first))
    pub few : steps + part.low ≤ levels

  pub climb_begun : {m : Lodged V} {key : ℕ} (first : Id) (f : IsFirst m key first) (links : Links) {l : Leaf} (steps : ℕ) → AreLinks m first links
      → l ≡ leaf_of links → steps ≡ 1 → Upward m key first l.above steps
  climb_begun {m = m} first f links {l = l} steps are is one =
      record {
        whole = f.whole;
        top = f.top;
        part = f.part;
        above_is = grind arith;
        route = f.leaf.first;
        inside = first_in f.leaf;
        own = f.own;
        behind = f.behind;
        ups = f.ups;
        before = f.before;
        same = sym (first_behind m f);
        few = omega (arith, leaf_low f.leaf);
      }

  pub Has-first : {m : Lodged V} {key : ℕ} (first : Id) → IsFirst m key first → Has m first
  Has-first {m = m} first f = Has-leaf_at f.leaf

  -- the bit node above
  pub record Overhead (m : Lodged V) (whole at : Part m) (behind : List (Entry V)) (up : Id) : Type 0 where
    pub over : Part m
    pub ups : List (Part m)
    pub right : List (Entry V)
    pub later : List (Entry V)
    pub at_up : ForkAt over up
    pub under : Under right at over
    pub bit : under.at.bit ≡ at_up.bit
    pub side : ((at.tree ≡ at_up.zero) × (right ≡ routes_of at_up.one)) ⊎ ((at.tree ≡ at_up.one) × (right ≡ []))
    pub before : IsBefore whole over later ups
    pub is : behind ≡ right ++ later

  overhead_at : {m : Lodged V} (whole : Part m) {at : Part m} {behind : List (Entry V)} (up : Id) (over : Part m) (ups : List (Part m))
      (right later : List (Entry V)) (u : Under right at over) {room : Id} → room ≡ up → u.room ≡ room → IsBefore whole over later ups
      → behind ≡ right ++ later → Overhead m whole at behind up
  overhead_at whole up over ups right later u same own before is =
      record {
        over = over;
        ups = ups;
        right = right;
        later = later;
        at_up = grind (arith, u.at.bit, u.at.zero, u.at.one, u.at.is, same);
        under = u;
        bit = refl;
        side = u.side;
        before = before;
        is = is;
      }

  overhead_of : (m : Lodged V) (whole at : Part m) (behind : List (Entry V)) (up : Id) (ups : List (Part m)) → whole.above ≡ None → at.above ≡ Some up
      → IsBefore whole at behind ups → Overhead m whole at behind up
  overhead_of m whole at behind up [] top above before = grind arith
  overhead_of m whole at behind up (over ∷ ups) top above before =
      overhead_at whole up over ups before.0 before.1 before.2 refl (inside (sym before.2.above ∙ above)) before.3 before.4

  module _ {m : Lodged V} {key : ℕ} {first : Id} {above : Option Id} {steps : ℕ} (c : Upward m key first above steps) where
    pub overhead : (up : Id) → above ≡ Some up → Overhead m c.whole c.part c.behind up
    overhead up some = grind (arith, overhead_of)

    pub Has-over : (up : Id) → above ≡ Some up → Has m up
    Has-over up some = Has-fork (overhead up some).at_up

    pub used_over : (up : Id) (links : Links) → above ≡ Some up → AreLinks m up links → bit_node_of links ≡ None → ⊥
    used_over up links some are none = bit_used m up links (fork_stands (overhead up some).at_up).0 refl are none

  -- the bit that is read is the node's
  pub record Read (m : Lodged V) (key : ℕ) (first : Id) (n : BitNode) (steps later : ℕ) : Type 0 where
    pub within : n.bit ≤ 31
    pub few : steps ≤ 32
    pub up : bit_at n.bit key ≡ 1 → Upward m key first n.above later
    pub named : (p : Part m) × (name_of p.tree ≡ n.one)
    pub turn : bit_at n.bit key ≡ 0 → (room : Id) → ((p : Part m) → name_of p.tree ≡ n.one → LedTo 0 p room) → Begins m room (behind_of m first)

  pub read_over : {m : Lodged V} (key : ℕ) {first : Id} {above : Option Id} {steps : ℕ} (later : ℕ) (up : Id) (links : Links) {n : BitNode}
      → Upward m key first above steps → above ≡ Some up → AreLinks m up links → bit_node_of links ≡ Some n → later ≡ steps + 1
      → Read m key first n steps later
  read_over {m = m} key {above = above} later up links {n = n} c some are node soon =
      let o = overhead c up some in
      let f = o.at_up in
      let is = fork_is f in
      let same = bit_read m up links (fork_stands f).0 refl are node in
      let within = is.0.within in
      let low = o.under.low ∙ ap (λ b. b + 1) o.bit in
      let few = c.few in
      let key_bit = ap (λ b. bit_at b key) same.bit ∙ ap (bit_at f.bit) (sym c.own) in
      record {
        within = omega arith;
        few = omega arith;
        up = λ one.
            let nothing : o.right ≡ [] = elim o.side [
              | inl e ↦ absurd (zero_not_one (side_zero f c.route e.0 c.inside) (sym key_bit ∙ one))
              | inr e ↦ e.1
            ] in
            record {
              whole = c.whole;
              top = c.top;
              part = o.over;
              above_is = sym same.above;
              route = c.route;
              inside = under_inside o.under c.route c.inside;
              own = c.own;
              behind = o.later;
              ups = o.ups;
              before = o.before;
              same = sym (o.is ∙ ap (λ es. es ++ o.later) nothing) ∙ c.same;
              few = omega arith;
            };
        named = (one_part f, sym same.one);
        turn = λ zero_bit_is room led.
            let sub = one_part f in
            let right : o.right ≡ routes_of f.one = elim o.side [
              | inl e ↦ e.1
              | inr e ↦ absurd (zero_not_one (sym key_bit ∙ zero_bit_is) (side_one f c.route e.0 c.inside))
            ] in
            let b = first_on m c.whole sub o.later (o.over ∷ o.ups) c.top (led sub (sym same.one))
            ([], o.later, record { room = up; at = f; above = refl; low = refl; side = inr (refl, refl) }, o.before, refl) in
            record { on = b.on; rest = b.rest ∙ ap (λ es. es ++ o.later) (sym right) ∙ sym o.is ∙ c.same };
      }

  ended_at : (m : Lodged V) (whole at : Part m) (behind : List (Entry V)) (ups : List (Part m)) → at.above ≡ None → IsBefore whole at behind ups → behind ≡ []
  ended_at m whole at behind [] none before = before.1
  ended_at m whole at behind (over ∷ ups) none before = search

  pub climb_ended : {m : Lodged V} {key : ℕ} {first : Id} {above : Option Id} {steps : ℕ} → Upward m key first above steps → above ≡ None
      → [] ≡ behind_of m first
  climb_ended {m = m} c none = grind (arith, ended_at)

  module _ {m : Lodged V} (place : Place) {es : List (Entry V)} (b : Begins m place.first es) where
    -- a place at the first room of its chain
    pub begins_on : place.room ≡ place.first → IsAt m place
    begins_on same = grind arith

    pub begins_rest : place.room ≡ place.first → ahead (leaves_in m) (bits_in m) (Some place) ≡ es
    begins_rest same = grind arith
