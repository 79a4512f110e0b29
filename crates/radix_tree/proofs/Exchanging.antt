-- A part of a tree is exchanged for another, and so the whole.
use Rattle.radix_tree.proofs.Parts.{fork_is, fork_stands}
use Rattle.radix_tree.proofs.PartRooms.{said, zero_turned, one_turned, elsewhere, frame, Keeps, fork_forks, fork_leaves, same_turned, way_counts, way_once}
use Rattle.radix_tree.proofs.PartRooms.{beneath_counts, spine_out}
use Rattle.radix_tree.proofs.Words.{◌≡◌, ℕ, ◌+◌, ◌<◌, ◌≤◌, List, [], ◌∷◌, Option, Some, None, refl, sym, ap, ◌∙◌, subst, inl, inr, arith, Id, Node, BitOf, fork}
use Rattle.radix_tree.proofs.Words.{bit_at, HaveBit, IsTree, BitPart, Part, leaves_in, bits_in, name_of, ForkAt, Beneath, Way, leaves_at, forks_at, with_child}
use Rattle.radix_tree.proofs.Words.{name_child, root_after, AreOnce, on_zero, on_one, low_past, IsExchange, Exchanged, Lodged, number_of}

-- the bit node above a place says what it said in all other rooms, and in its own names the other node
pub turn_misses : {above : Option Id} (over : Id) (key n : ℕ) (to : Node) (said : Option BitPart) → above ≡ Some over → (n ≡ number_of over → ⊥)
    → name_child above key to n said ≡ said
turn_misses over key n to said is other = grind arith

pub turn_hits : {above : Option Id} (over : Id) (key : ℕ) (to : Node) (said : Option BitPart) → above ≡ Some over
    → name_child above key to (number_of over) said ≡ with_child key to said
turn_hits over key to said is = grind arith

module _ {V : Type 0} where
  -- the part above one in which the exchange is made; on the bits before its own its keys agree as they did
  record Climbed (m new : Lodged V) (key : ℕ) (over at : Part m) (under : Part new) (name : Node) : Type 0 where
    pub made : Exchanged m new key over at under name
    pub keys : (c value : ℕ) → c < over.low → HaveBit c value over.tree → HaveBit c value made.part.tree

  zero_climbed : (m new : Lodged V) {key : ℕ} {at : Part m} {under : Part new} {mid : Part m} (over : Part m) {name : Node} (room : Id)
      (f : ForkAt over room) → mid.tree ≡ f.zero → bit_at f.bit key ≡ 0 → mid.low ≡ f.bit + 1 → mid.above ≡ Some room → Climbed m new key mid at under name
      → bits_in new (number_of room) ≡ Some (said room f.bit name (name_of f.one) over.above)
      → ((n : ℕ) → 1 ≤ leaves_at n f.one → leaves_in new n ≡ leaves_in m n) → ((n : ℕ) → 1 ≤ forks_at n f.one → bits_in new n ≡ bits_in m n)
      → Climbed m new key over at under (BitOf room)
  zero_climbed m new over room f tree side low above g spine leaves forks =
      let e = g.made in
      let is = fork_is f in
      let rises = is.0.rises in
      let keys : (c value : ℕ) → c < f.bit + 1 → HaveBit c value f.zero → HaveBit c value e.part.tree =
      λ c value before have. g.keys c value (omega arith) (subst (HaveBit c value) (sym tree) have) in
      record {
        made = record {
          frames = on_zero room f.bit f.one ∷ e.frames;
          was = f.is ∙ ap (λ t. fork room f.bit t f.one) (sym tree ∙ e.was);
          lead = (side, e.lead);
          lowest = e.lowest ∙ ap (λ n. low_past n e.frames) low;
          part = record {
            tree = fork room f.bit e.part.tree f.one;
            low = over.low;
            above = over.above;
            is = (
              record {
                rises = is.0.rises;
                within = is.0.within;
                agree = λ c before. let a = is.0.agree c before in
                    (a.0, keys c a.0 (omega arith) a.1, a.2);
                zeros = keys f.bit 0 (omega arith) is.0.zeros;
                ones = is.0.ones;
              },
              subst (λ n. IsTree n e.part.tree) (e.low ∙ low) e.part.is,
              is.2,
            );
            stands = search (arith, frame, fork_stands);
          };
          is_now = ap (λ t. fork room f.bit t f.one) e.is_now;
          low = refl;
          above = refl;
          named = refl;
        };
        keys = λ c value before have. let h = subst (HaveBit c value) f.is have in (keys c value (omega arith) h.0, h.1);
      }

  one_climbed : (m new : Lodged V) {key : ℕ} {at : Part m} {under : Part new} {mid : Part m} (over : Part m) {name : Node} (room : Id) (f : ForkAt over room)
      → mid.tree ≡ f.one → bit_at f.bit key ≡ 1 → mid.low ≡ f.bit + 1 → mid.above ≡ Some room → Climbed m new key mid at under name
      → bits_in new (number_of room) ≡ Some (said room f.bit (name_of f.zero) name over.above)
      → ((n : ℕ) → 1 ≤ leaves_at n f.zero → leaves_in new n ≡ leaves_in m n) → ((n : ℕ) → 1 ≤ forks_at n f.zero → bits_in new n ≡ bits_in m n)
      → Climbed m new key over at under (BitOf room)
  one_climbed m new over room f tree side low above g spine leaves forks =
      let e = g.made in
      let is = fork_is f in
      let rises = is.0.rises in
      let keys : (c value : ℕ) → c < f.bit + 1 → HaveBit c value f.one → HaveBit c value e.part.tree =
      λ c value before have. g.keys c value (omega arith) (subst (HaveBit c value) (sym tree) have) in
      record {
        made = record {
          frames = on_one room f.bit f.zero ∷ e.frames;
          was = f.is ∙ ap (fork room f.bit f.zero) (sym tree ∙ e.was);
          lead = (side, e.lead);
          lowest = e.lowest ∙ ap (λ n. low_past n e.frames) low;
          part = record {
            tree = fork room f.bit f.zero e.part.tree;
            low = over.low;
            above = over.above;
            is = (
              record {
                rises = is.0.rises;
                within = is.0.within;
                agree = λ c before. let a = is.0.agree c before in
                    (a.0, a.1, keys c a.0 (omega arith) a.2);
                zeros = is.0.zeros;
                ones = keys f.bit 1 (omega arith) is.0.ones;
              },
              is.1,
              subst (λ n. IsTree n e.part.tree) (e.low ∙ low) e.part.is,
            );
            stands = search (arith, frame, fork_stands);
          };
          is_now = ap (fork room f.bit f.zero) e.is_now;
          low = refl;
          above = refl;
          named = refl;
        };
        keys = λ c value before have. let h = subst (HaveBit c value) f.is have in (h.0, keys c value (omega arith) h.1);
      }

  climbed : (m new : Lodged V) (key : ℕ) (at : Part m) {under : Part new} (mid over : Part m) {name : Node} (b : Beneath key mid over)
      → Climbed m new key mid at under name → AreOnce over.tree
      → ((n : ℕ) → leaves_at n mid.tree ≡ 0 → 1 ≤ leaves_at n over.tree → leaves_in new n ≡ leaves_in m n)
      → ((n : ℕ) → (n ≡ number_of b.room → ⊥) → forks_at n mid.tree ≡ 0 → 1 ≤ forks_at n over.tree → bits_in new n ≡ bits_in m n)
      → bits_in new (number_of b.room) ≡ with_child key name (bits_in m (number_of b.room)) → Climbed m new key over at under (BitOf b.room)
  climbed m new key at mid over {name = name} b g once leaves forks spine =
      let f = b.at in
      let old = (fork_stands f).0 in
      let all_forks = fork_forks f in
      let all_leaves = fork_leaves f in
      elim b.side [
        | inl e ↦ zero_climbed m new over b.room f e.0 e.1 b.low b.above g
            (spine ∙ ap (with_child key name) old ∙ zero_turned key name (said b.room f.bit (name_of f.zero) (name_of f.one) over.above) e.1)
            (λ n some. let most = once.leaves n in let same = ap (leaves_at n) e.0 in leaves n (omega arith) (omega arith))
            (λ n some. let most = once.forks n in let same = ap (forks_at n) e.0 in
            forks n (elsewhere b.room n (forks_at n f.one) some (omega arith)) (omega arith) (omega arith))
        | inr e ↦ one_climbed m new over b.room f e.0 e.1 b.low b.above g
            (spine ∙ ap (with_child key name) old ∙ one_turned key name (said b.room f.bit (name_of f.zero) (name_of f.one) over.above) e.1)
            (λ n some. let most = once.leaves n in let same = ap (leaves_at n) e.0 in leaves n (omega arith) (omega arith))
            (λ n some. let most = once.forks n in let same = ap (forks_at n) e.0 in
            forks n (elsewhere b.room n (forks_at n f.zero) some (omega arith)) (omega arith) (omega arith))
      ]

  -- above that all keep their names
  way_climbed : (m new : Lodged V) (key : ℕ) (at : Part m) (under : Part new) (whole mid : Part m) (ups : List (Part m)) → Way key whole mid ups
      → AreOnce whole.tree → Keeps m new mid.tree whole.tree
      → Climbed m new key mid at under (name_of mid.tree) → Climbed m new key whole at under (name_of whole.tree)
  way_climbed m new key at under whole mid [] way once keeps g = grind arith
  way_climbed m new key at under whole mid (p ∷ ps) way once keeps g =
      let b = way.0 in
      let once_p = way_once key whole p ps way.1 once in
      let out = spine_out m b once_p in
      let in_whole : (n : ℕ) → (leaves_at n p.tree ≤ leaves_at n whole.tree) × (forks_at n p.tree ≤ forks_at n whole.tree) =
      λ n. way_counts m key whole p ps n way.1 in
      let near : (n : ℕ) → (leaves_at n mid.tree ≤ leaves_at n p.tree) × (forks_at n mid.tree ≤ forks_at n p.tree) = λ n. beneath_counts m n b in
      let next = climbed m new key at mid p b g once_p (λ n none some. keeps.leaves n none (omega (arith, (in_whole n).0)))
      (λ n other none some. keeps.forks n none (omega (arith, (in_whole n).1))) (let le = (in_whole (number_of b.room)).1 in
      keeps.forks (number_of b.room) out.0 (omega arith) ∙ same_turned key p (name_of mid.tree) b refl) in
      way_climbed m new key at under whole p ps way.1 once (record {
        leaves = λ n none some. keeps.leaves n (omega (arith, (near n).0)) some;
        forks = λ n none some. keeps.forks n (omega (arith, (near n).1)) some;
      }) (subst (Climbed m new key p at under) (sym (ap name_of b.at.is)) next)

  -- ---- the whole
  here : {m new : Lodged V} {key : ℕ} {whole at : Part m} (under : Part new) → IsExchange m new key whole at under
      → Climbed m new key at at under (name_of under.tree)
  here under e = record {
    made = record { frames = []; was = refl; lead = tt; lowest = refl; part = under; is_now = refl; low = e.low; above = e.above; named = refl };
    keys = e.keys;
  }

  renamed : (m new : Lodged V) (key : ℕ) (whole at : Part m) (under : Part new) {name root : Node} → name ≡ root → Exchanged m new key whole at under name
      → Exchanged m new key whole at under root
  renamed m new key whole at under same e = grind arith

  pub exchanged : (m new : Lodged V) {key : ℕ} (whole at : Part m) (ups : List (Part m)) {under : Part new} → Way key whole at ups → whole.above ≡ None
      → AreOnce whole.tree → IsExchange m new key whole at under
      → Exchanged m new key whole at under (root_after at.above (name_of under.tree) (name_of whole.tree))
  exchanged m new {key = key} whole at [] {under = under} way top once e = renamed m new key whole at under
      (search)
      (subst (λ p. Exchanged m new key p at under (name_of under.tree)) way (here under e).made)
  exchanged m new {key = key} whole at (p ∷ ps) {under = under} way top once e =
      let b = way.0 in
      let once_p = way_once key whole p ps way.1 once in
      let out = spine_out m b once_p in
      let in_whole : (n : ℕ) → (leaves_at n p.tree ≤ leaves_at n whole.tree) × (forks_at n p.tree ≤ forks_at n whole.tree) =
      λ n. way_counts m key whole p ps n way.1 in
      let near : (n : ℕ) → (leaves_at n at.tree ≤ leaves_at n p.tree) × (forks_at n at.tree ≤ forks_at n p.tree) = λ n. beneath_counts m n b in
      let next = climbed m new key at at p b (here under e) once_p (λ n none some. e.leaves n none (omega (arith, (in_whole n).0)))
      (λ n other none some. let le = (in_whole n).1 in
      e.bits n none (omega arith) ∙ turn_misses b.room key n (name_of under.tree) (bits_in m n) b.above other) (let le = (in_whole (number_of b.room)).1 in
      e.bits (number_of b.room) out.0 (omega arith) ∙ turn_hits b.room key (name_of under.tree) (bits_in m (number_of b.room)) b.above) in
      renamed m new key whole at under (sym (ap (λ o. root_after o (name_of under.tree) (name_of whole.tree)) b.above))
      (way_climbed m new key at under whole p ps way.1 once (record {
        leaves = λ n none some. e.leaves n (omega (arith, (near n).0)) some;
        forks = λ n none some. let le = (near n).1 in search (arith, turn_misses);
      }) (subst (Climbed m new key p at under) (sym (ap name_of b.at.is)) next)).made
