-- What stands in the places of a table, and where.
use Rattle.std.specs.Prelude.{◌≡◌, ℕ, ◌*◌, ◌/◌, ◌^◌, ◌<◌, ◌≤◌, ◌==◌, ◌⊎◌, if◌then◌else◌, List, length, slice_get, slice_index, count_by, not, Option, Some, None}
use Rattle.room_index.specs.Homes.{first_home, second_home, tag_of}
use Rattle.room_index.specs.Filed.{Filed}
use Rattle.room_index.specs.declared.places.Places.{Places}

-- an entry stands in a place whose tag isn't 0
abbrev pub standing : List ℕ → List Filed → ℕ → Option Filed
standing tags entries n = if slice_index tags n == 0 then None else slice_get entries n

module _ {P : Type 0} where
  abbrev pub stands : Places P → ℕ → Option Filed
  stands p n = standing p.tags.items p.entries.items n

  abbrev pub IsIn : Places P → Filed → Type 0
  IsIn p e = (n : ℕ) × (stands p n ≡ Some e)

  -- each entry that stands there is such
  abbrev pub AllAre : (Filed → Type 0) → Places P → Type 0
  AllAre such p = (e : Filed) → IsIn p e → such e

-- there are two homes to a pair, of eight places each
abbrev pub IsHome : ℕ → ℕ → ℕ → Type 0
IsHome bits n pair = (n / 8 ≡ first_home bits pair) ⊎ (n / 8 ≡ second_home bits pair)

module _ {P : Type 0} where
  -- each entry stands where its pair may, under its tag, and no other has its pair
  pub record AreFiled (p : Places P) (may : ℕ → ℕ → Type 0) : Type 0 where
    pub places : (n : ℕ) (e : Filed) → stands p n ≡ Some e → may n e.pair
    pub tags : (n : ℕ) (e : Filed) → stands p n ≡ Some e → slice_index p.tags.items n ≡ tag_of e.pair
    pub once : (n m : ℕ) (e f : Filed) → stands p n ≡ Some e → stands p m ≡ Some f → e.pair ≡ f.pair → n ≡ m

  -- there are as many places as 2^bits buckets have, or none
  pub record HasSize (p : Places P) : Type 0 where
    pub even : length p.entries.items ≡ length p.tags.items
    pub size : 0 < length p.tags.items → length p.tags.items ≡ 8 * 2 ^ p.bits
    pub few : p.bits ≤ 24

-- in how many of the places an entry stands
abbrev pub used_in : List ℕ → ℕ
used_in tags = count_by (λ tag. not (tag == 0)) tags

module _ {P : Type 0} where
  abbrev pub IsCounted : Places P → Type 0
  IsCounted p = p.used ≡ used_in p.tags.items

  -- no place of a bucket is free
  abbrev pub IsFull : Places P → ℕ → Type 0
  IsFull p bucket = (n : ℕ) → n / 8 ≡ bucket → slice_index p.tags.items n ≡ 0 → ⊥

  -- a table of pairs at home
  pub record IsTable (p : Places P) : Type 0 where
    pub size : HasSize p
    pub used : IsCounted p
    pub filed : AreFiled p (IsHome p.bits)

  -- the place is free for a pair, in one of its homes
  pub record IsFreeFor (p : Places P) (n pair : ℕ) : Type 0 where
    pub within : n < length p.tags.items
    pub free : stands p n ≡ None
    pub home : IsHome p.bits n pair

-- the tag of what stands in a place
abbrev pub tag_in : Option Filed → ℕ
tag_in None = 0
tag_in (Some e) = tag_of e.pair

module _ {P : Type 0} where
  -- the table has as many places
  pub record HasSamePlaces (old new : Places P) : Type 0 where
    pub tags : length new.tags.items ≡ length old.tags.items
    pub entries : length new.entries.items ≡ length old.entries.items
    pub bits : new.bits ≡ old.bits

  -- it has so many places, and in each what stood there
  pub record HasPlaces (old new : Places P) (size : ℕ) : Type 0 where
    pub tags : length new.tags.items ≡ size
    pub entries : length new.entries.items ≡ size
    pub bits : new.bits ≡ old.bits
    pub stand : (n : ℕ) → stands new n ≡ stands old n
    pub same : (n : ℕ) (e : Filed) → stands old n ≡ Some e → slice_index new.tags.items n ≡ slice_index old.tags.items n

  -- all stands where it stood, under its tag
  pub record StandAsBefore (old new : Places P) : Type 0 where
    pub same : HasSamePlaces old new
    pub stand : (n : ℕ) → stands new n ≡ stands old n
    pub tags : new.tags.items ≡ old.tags.items

  -- one place has something else
  pub record Changes (old new : Places P) (place : ℕ) (now : Option Filed) : Type 0 where
    pub same : HasSamePlaces old new
    pub stand : (n : ℕ) → stands new n ≡ (if n == place then now else stands old n)
    pub tags : (n : ℕ) → slice_index new.tags.items n ≡ (if n == place then tag_in now else slice_index old.tags.items n)

  -- what stood in one place stands in another one
  pub record Moves (old new : Places P) (from to : ℕ) : Type 0 where
    pub same : HasSamePlaces old new
    pub stand : (n : ℕ) → stands new n ≡ (if n == to then stands old from else if n == from then None else stands old n)
    pub tags : (n : ℕ) → slice_index new.tags.items n ≡ (if n == to then slice_index old.tags.items from else if n == from then 0 else slice_index old.tags.items n)

  -- both have the same entries
  pub record HaveSame (old new : Places P) : Type 0 where
    pub kept : (e : Filed) → IsIn old e → IsIn new e
    pub had : (e : Filed) → IsIn new e → IsIn old e

  -- the new table has one entry more
  pub record Adds (old new : Places P) (entry : Filed) : Type 0 where
    pub own : IsIn new entry
    pub kept : (e : Filed) → IsIn old e → IsIn new e
    pub had : (e : Filed) → IsIn new e → (e ≡ entry) ⊎ IsIn old e

  -- it has none of a pair any more
  pub record Loses (old new : Places P) (pair : ℕ) : Type 0 where
    pub fewer : (e : Filed) → IsIn new e → IsIn old e × (e.pair ≡ pair → ⊥)
    pub kept : (e : Filed) → IsIn old e → (e.pair ≡ pair → ⊥) → IsIn new e
