-- A part of a tree is exchanged for another: the bit nodes above it stay, and the lowest of them names the other part.
use Rattle.std.specs.Prelude.{◌≡◌, ℕ, ◌+◌, ◌<◌, ◌≤◌, List, [], ◌∷◌}
use Rattle.radix_nodes.specs.declared.id.Id.{Id}
use Rattle.radix_nodes.specs.declared.links.Node.{Node}
use Rattle.radix_tree.specs.Tree.{Tree, fork, bit_at, HaveBit}
use Rattle.radix_tree.specs.Rooms.{Part, leaves_in, bits_in, name_of, Lodged}
use Rattle.radix_tree.specs.Whole.{leaves_at, forks_at}
use Rattle.radix_tree.specs.Growth.{name_child}

-- a bit node above a part: the part is on its side of zeros or on that of ones, and this is on the other side
pub data Frame (V : Type 0) : Type 0 where
  on_zero : Id → ℕ → Tree V → Frame V
  on_one : Id → ℕ → Tree V → Frame V

module _ {V : Type 0} where
  abbrev pub over : Frame V → Tree V → Tree V
  over (on_zero room b one) t = fork room b t one
  over (on_one room b zero) t = fork room b zero t

  abbrev pub bit_of : Frame V → ℕ
  bit_of (on_zero room b one) = b
  bit_of (on_one room b zero) = b

  -- a part beneath bit nodes, of which the first is the highest
  abbrev pub plug : List (Frame V) → Tree V → Tree V
  plug [] t = t
  plug (f ∷ fs) t = over f (plug fs t)

  -- the least bit of a part beneath them
  abbrev pub low_past : ℕ → List (Frame V) → ℕ
  low_past low [] = low
  low_past low (f ∷ fs) = low_past (bit_of f + 1) fs

  -- a key's bits lead to the part
  abbrev pub IsOnSide : ℕ → Frame V → Type 0
  IsOnSide key (on_zero room b one) = bit_at b key ≡ 0
  IsOnSide key (on_one room b zero) = bit_at b key ≡ 1

  abbrev pub Lead : ℕ → List (Frame V) → Type 0
  Lead key [] = Unit {0}
  Lead key (f ∷ fs) = IsOnSide key f × Lead key fs

  -- the part in the rooms of now can stand in the place of that in the rooms of before; outside of it the rooms say
  -- what they said, but for the bit node above, which names it
  pub record IsExchange (m new : Lodged V) (key : ℕ) (whole at : Part m) (under : Part new)
      : Type 0 where
    pub low : under.low ≡ at.low
    pub above : under.above ≡ at.above
    pub keys : (c value : ℕ) → c < at.low → HaveBit c value at.tree → HaveBit c value under.tree
    pub leaves : (n : ℕ) → leaves_at n at.tree ≡ 0 → 1 ≤ leaves_at n whole.tree → leaves_in new n ≡ leaves_in m n
    pub bits : (n : ℕ) → forks_at n at.tree ≡ 0 → 1 ≤ forks_at n whole.tree
        → bits_in new n ≡ name_child at.above key (name_of under.tree) n (bits_in m n)

  -- the whole, with the other part in that one's place
  pub record Exchanged (m new : Lodged V) (key : ℕ) (whole at : Part m) (under : Part new)
      (root : Node) : Type 0 where
    pub frames : List (Frame V)
    pub was : whole.tree ≡ plug frames at.tree
    pub lead : Lead key frames
    pub lowest : at.low ≡ low_past whole.low frames
    pub part : Part new
    pub is_now : part.tree ≡ plug frames under.tree
    pub low : part.low ≡ whole.low
    pub above : part.above ≡ whole.above
    pub named : name_of part.tree ≡ root
