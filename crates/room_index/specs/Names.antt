-- Which rooms an index has for which pairs.
use Rattle.std.specs.Prelude.{◌≡◌, ℕ, ◌<◌, ◌⊎◌, Bool, true, false, [], List, length, None, Some}
use Rattle.radix_nodes.specs.declared.id.Id.{Id}
use Rattle.room_index.specs.Places.{standing, IsHome, IsIn, IsTable}
use Rattle.room_index.specs.Ranges.{AreTold, Has, IsByRange}
use Rattle.room_index.specs.Filed.{Filed}
use Rattle.room_index.specs.declared.index.Vacancy.{Vacancy}
use Rattle.room_index.specs.declared.places.Places.{Places}
use Rattle.room_index.specs.declared.ranges.Ranges.{Ranges}

-- an index as contracts see it: whether it has a room for each pair that was entered since it was made, or began anew, and
-- not struck out; and its places
pub record Held : Type 0 where
  pub whole : Bool
  pub bits : ℕ
  pub tags : List ℕ
  pub entries : List Filed

-- it has the room of a pair
pub record Names (h : Held) (pair : ℕ) (room : Id) : Type 0 where
  pub place : ℕ
  pub stands : standing h.tags h.entries place ≡ Some (record { pair = pair; room = room })

-- each room that it has for a pair is known as such
abbrev pub AreKnown : (Filed → Type 0) → Held → Type 0
AreKnown known h = (k : ℕ) (room : Id) → Names h k room → known (record { pair = k; room = room })

-- its places are a table, or none where it was given up, and what it has by ranges of keys stands there
pub record IsIndex {P : Type 0} (p : Places P) (r : Ranges P) (given_up : Bool) : Type 0 where
  pub table : IsTable p
  pub none : given_up ≡ true → p.tags.items ≡ []
  pub by_range : IsByRange r
  pub within : (e : Filed) → Has r e → IsIn p e
  pub told : AreTold r p

-- a place is kept for the room of a pair
pub record IsKeptFor (h : Held) (pair : ℕ) (v : Vacancy) : Type 0 where
  pub within : v.place < length h.tags
  pub free : standing h.tags h.entries v.place ≡ None
  pub home : IsHome h.bits v.place pair

-- The next four say what a change of an index leaves: what it names then is no more than is said, in any case; and all
-- of that where it is still whole, as it isn't once it was given up.

-- it has what it had; or it was given up
pub record Keeps (old new : Held) : Type 0 where
  pub fewer : (k : ℕ) (r : Id) → Names new k r → Names old k r
  pub kept : new.whole ≡ true → (old.whole ≡ true) × ((k : ℕ) (r : Id) → Names old k r → Names new k r)

-- it has the room of one pair more; or it was given up
pub record Enters (old new : Held) (pair : ℕ) (room : Id) : Type 0 where
  pub only : (k : ℕ) (r : Id) → Names new k r → ((k ≡ pair) × (r ≡ room)) ⊎ Names old k r
  pub more : new.whole ≡ true → (old.whole ≡ true) × Names new pair room
      × ((k : ℕ) (r : Id) → Names old k r → Names new k r)

-- it has none for a pair any more; or it was given up
pub record Loses (old new : Held) (pair : ℕ) : Type 0 where
  pub fewer : (k : ℕ) (r : Id) → Names new k r → Names old k r × (k ≡ pair → ⊥)
  pub kept : new.whole ≡ true → (old.whole ≡ true) × ((k : ℕ) (r : Id) → (k ≡ pair → ⊥) → Names old k r → Names new k r)

-- the same of a strike, which is told whether a rest of pairs is left: without one the index begins anew and is whole
pub record Strikes (old new : Held) (pair : ℕ) (rest : Bool) : Type 0 where
  pub fewer : (k : ℕ) (r : Id) → Names new k r → Names old k r × (k ≡ pair → ⊥)
  pub loses : rest ≡ true → Loses old new pair
  pub begins : rest ≡ false → new.whole ≡ true
