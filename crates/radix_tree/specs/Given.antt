-- The numbers that were given to the lodged rooms, each beside its room.
use Rattle.std.specs.Prelude.{◌≡◌, ℕ, ◌<◌, ◌≤◌, ◌==◌, not, List, [], ◌∷◌, map as each, filter, Option, None, Some, is_some, option_map}
use Rattle.std.specs.declared.snapshot.Snapshot.{Snapshot}
use Rattle.radix_tree.specs.Rooms.{leaves_in, Lodged}
use Rattle.radix_tree.specs.Table.{uses}
use Rattle.radix_tree.specs.Whole.{one_if}

-- of pairs of a room and its number those of the other rooms
abbrev pub beside : ℕ → List (ℕ × ℕ) → List (ℕ × ℕ)
beside room given = filter (λ e. not (e.0 == room)) given

-- the rooms, and the numbers that were given to them
abbrev pub rooms_in : List (ℕ × ℕ) → List ℕ
rooms_in given = each (λ e. e.0) given

abbrev pub numbers_in : List (ℕ × ℕ) → List ℕ
numbers_in given = each (λ e. e.1) given

-- a room came with its number, or went, where there is none
abbrev pub changed : ℕ → Option ℕ → List (ℕ × ℕ) → List (ℕ × ℕ)
changed room None given = beside room given
changed room (Some number) given = (room, number) ∷ given

-- what stands after such changes, of which the last comes first
abbrev pub standing : List (ℕ × Option ℕ) → List (ℕ × ℕ)
standing [] = []
standing (c ∷ cs) = changed c.0 c.1 (standing cs)

abbrev room_in : Option (Snapshot ℕ) → ℕ
room_in None = 0
room_in (Some room) = room.value

-- the changes up to one; where none was before it, there is none yet
abbrev pub history : Option (Snapshot (List (ℕ × Option ℕ))) → Option (Snapshot ℕ) → Option (Snapshot ℕ)
    → List (ℕ × Option ℕ)
history None room number = []
history (Some before) room number = (room_in room, option_map (λ s. s.value) number) ∷ before.value

-- each lodged room has a number once, no other room has one, no two have the same, and none is past the last one
pub record AreGiven {V : Type 0} (m : Lodged V) (given : List (ℕ × ℕ)) (last : ℕ) : Type 0 where
  pub rooms : (n : ℕ) → uses n (rooms_in given) ≡ one_if (is_some (leaves_in m n))
  pub once : (n : ℕ) → uses n (numbers_in given) ≤ 1
  pub made : (n : ℕ) → last < n → uses n (numbers_in given) ≡ 0
