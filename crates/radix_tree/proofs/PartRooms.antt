-- The rooms of a tree that stay, the bit node above a part, how often a room is in both, and a new bit node.
use Rattle.radix_tree.proofs.Words.{◌≡◌, ℕ, ◌+◌, ◌≤◌, ◌==◌, List, [], ◌∷◌, Option, Some, None, refl, ap, arith, eq-eqb, Id, Node, Placed, Tree, leaf, fork}
use Rattle.radix_tree.proofs.Words.{bit_at, BitPart, Leaves, Bits, Part, leaves_in, bits_in, name_of, ChainStands, Stands, ForkAt, Beneath, Way, one_if}
use Rattle.radix_tree.proofs.Words.{members_at, leaves_at, forks_at, with_child, AreOnce, Lodged, number_of, false, sym, ◌∙◌, IsRoute, HaveBit, IsTree, IsPlace}
use Rattle.radix_tree.proofs.Words.{lift_leaf, lift_bit}

pub one_if_same : (n : ℕ) → one_if (n == n) ≡ 1
one_if_same n = ap one_if (eq-eqb n n refl)

abbrev pub said : Id → ℕ → Node → Node → Option Id → BitPart
said room b zero one above = record { block = room.block; bit = b; zero = zero; one = one; above = above }

-- the bit node above names another node
pub zero_turned : (address : ℕ) (name : Node) (p : BitPart) → bit_at p.bit address ≡ 0 → with_child address name (Some p) ≡ Some (record p { zero = name })
zero_turned address name p clear = search

pub one_turned : (address : ℕ) (name : Node) (p : BitPart) → bit_at p.bit address ≡ 1 → with_child address name (Some p) ≡ Some (record p { one = name })
one_turned address name p set = search

-- no other bit node of the tree is in its room
pub elsewhere : (room : Id) (n many : ℕ) → 1 ≤ many → one_if (number_of room == n) + many ≤ 1 → n ≡ number_of room → ⊥
elsewhere room n many some few same = grind arith

module _ {V : Type 0} where
  -- ---- rooms that stay
  pub chain_frame : (L M : Leaves V) (above previous : Option Id) (c : List (Placed V)) → ((n : ℕ) → 1 ≤ members_at n c → M n ≡ L n)
      → ChainStands L above previous c → ChainStands M above previous c
  chain_frame L M above previous [] same stands = tt
  chain_frame L M above previous (x ∷ c) same stands = search (arith, chain_frame L M None (Some x.room) c)

  pub frame : (L M : Leaves V) (B C : Bits) (above : Option Id) (t : Tree V) → ((n : ℕ) → 1 ≤ leaves_at n t → M n ≡ L n)
      → ((n : ℕ) → 1 ≤ forks_at n t → C n ≡ B n) → Stands L B above t → Stands M C above t
  frame L M B C above (leaf x xs) leaves forks stands = search (chain_frame)
  frame L M B C above (fork room b zero one) leaves forks stands =
      search (arith, one_if_same, frame L M B C (Some room) zero, frame L M B C (Some room) one)

  -- outside a part the rooms say what they said
  pub record Keeps (m new : Lodged V) (under over : Tree V) : Type 0 where
    pub leaves : (n : ℕ) → leaves_at n under ≡ 0 → 1 ≤ leaves_at n over → leaves_in new n ≡ leaves_in m n
    pub forks : (n : ℕ) → forks_at n under ≡ 0 → 1 ≤ forks_at n over → bits_in new n ≡ bits_in m n

  -- how often a room is in a bit node's tree
  pub fork_forks : {m : Lodged V} {over : Part m} {room : Id} (f : ForkAt over room) (n : ℕ)
      → forks_at n over.tree ≡ one_if (number_of room == n) + (forks_at n f.zero + forks_at n f.one)
  fork_forks f n = ap (forks_at n) f.is

  pub fork_leaves : {m : Lodged V} {over : Part m} {room : Id} (f : ForkAt over room) (n : ℕ)
      → leaves_at n over.tree ≡ leaves_at n f.zero + leaves_at n f.one
  fork_leaves f n = ap (leaves_at n) f.is

  -- to name it as before changes nothing
  pub same_turned : {m : Lodged V} (address : ℕ) {under : Part m} (over : Part m) (name : Node) (b : Beneath address under over) → name ≡ name_of under.tree
      → bits_in m (number_of b.room) ≡ with_child address name (bits_in m (number_of b.room))
  same_turned address over name b is = grind arith

  -- ---- all the way up
  pub beneath_counts : (m : Lodged V) {address : ℕ} {under over : Part m} (n : ℕ) → Beneath address under over
      → (leaves_at n under.tree ≤ leaves_at n over.tree) × (forks_at n under.tree ≤ forks_at n over.tree)
  beneath_counts m n b = grind arith

  pub way_counts : (m : Lodged V) (address : ℕ) (whole at : Part m) (ups : List (Part m)) (n : ℕ) → Way address whole at ups
      → (leaves_at n at.tree ≤ leaves_at n whole.tree) × (forks_at n at.tree ≤ forks_at n whole.tree)
  way_counts m address whole at [] n way = grind arith
  way_counts m address whole at (p ∷ ps) n way = grind (arith, way_counts m address whole p ps n way.1)

  pub way_once : {m : Lodged V} (address : ℕ) (whole at : Part m) (ups : List (Part m)) → Way address whole at ups → AreOnce whole.tree → AreOnce at.tree
  way_once {m = m} address whole at ups way once = record {
    leaves = λ n. omega (arith, (way_counts m address whole at ups n way).0);
    forks = λ n. omega (arith, (way_counts m address whole at ups n way).1);
  }

  -- the room of the bit node above is not beneath it
  pub spine_out : (m : Lodged V) {address : ℕ} {under over : Part m} (b : Beneath address under over) → AreOnce over.tree
      → (forks_at (number_of b.room) under.tree ≡ 0) × (1 ≤ forks_at (number_of b.room) over.tree)
  spine_out m {address = address} b once =
      let one = one_if_same (number_of b.room) in
      let forks = fork_forks b.at (number_of b.room) in search arith

-- -------- a new bit node above a part of a tree, with the new leaf on the side of its key
not_same : (room : Id) (n many : ℕ) → 1 ≤ many → one_if (number_of room == n) + many ≤ 1 → (n == number_of room) ≡ false
not_same room n many some few = grind arith

module _ {V : Type 0} where
  -- all keys of a tree have one value at most at a bit
  pub one_value : (c v w : ℕ) (t : Tree V) → HaveBit c v t → HaveBit c w t → v ≡ w
  one_value c v w (leaf x xs) have too = sym have ∙ too
  one_value c v w (fork room b zero one) have too = one_value c v w zero have.0 too.0

  -- ---- the new bit node
  pub zero_fork_is : {low bit : ℕ} (x : Placed V) (room : Id) {t : Tree V} → IsRoute x.entry → IsPlace x.entry.key low bit t → bit_at bit x.entry.key ≡ 0
      → IsTree low (fork room bit (leaf x []) t)
  zero_fork_is x room route p clear = grind arith

  pub one_fork_is : {low bit : ℕ} (x : Placed V) (room : Id) {t : Tree V} → IsRoute x.entry → IsPlace x.entry.key low bit t → bit_at bit x.entry.key ≡ 1
      → IsTree low (fork room bit t (leaf x []))
  one_fork_is x room route p set = grind arith

  -- ---- the part beneath it
  -- it is the same with another bit node above
  pub lifted : (L M : Leaves V) (B C : Bits) (above new : Option Id) (t : Tree V) → ((n : ℕ) → 1 ≤ leaves_at n t → M n ≡ lift_leaf (name_of t) new n (L n))
      → ((n : ℕ) → 1 ≤ forks_at n t → C n ≡ lift_bit (name_of t) new n (B n)) → AreOnce t → Stands L B above t → Stands M C new t
  lifted L M B C above new (leaf x xs) leaves forks once stands = search (arith, eq-eqb, chain_frame, not_same)
  lifted L M B C above new (fork room b zero one) leaves forks once stands = search (arith, eq-eqb, frame, not_same)

  -- ---- rooms of a part are in the map
  pub chain_there : (L : Leaves V) (above previous : Option Id) (c : List (Placed V)) (n : ℕ) → ChainStands L above previous c → L n ≡ None → members_at n c ≡ 0
  chain_there L above previous [] n stands none = refl
  chain_there L above previous (x ∷ c) n stands none = grind (arith, chain_there L None (Some x.room) c n stands.1 none)

  pub leaves_there : (L : Leaves V) (B : Bits) (above : Option Id) (t : Tree V) (n : ℕ) → Stands L B above t → L n ≡ None → leaves_at n t ≡ 0
  leaves_there L B above (leaf x xs) n stands none = search (chain_there)
  leaves_there L B above (fork room b zero one) n stands none =
      omega (arith, leaves_there L B (Some room) zero n stands.1 none, leaves_there L B (Some room) one n stands.2 none)

  pub forks_there : (L : Leaves V) (B : Bits) (above : Option Id) (t : Tree V) (n : ℕ) → Stands L B above t → B n ≡ None → forks_at n t ≡ 0
  forks_there L B above (leaf x xs) n stands none = refl
  forks_there L B above (fork room b zero one) n stands none =
      grind (arith, forks_there L B (Some room) zero n stands.1 none, forks_there L B (Some room) one n stands.2 none)
