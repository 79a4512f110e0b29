-- What is known of ranges of keys.
use Rattle.std.specs.Prelude.{◌≡◌, ℕ, ◌+◌, ◌-◌, ◌*◌, ◌/◌, ◌%◌, ◌^◌, ◌<◌, ◌≤◌, ◌==◌, ◌⊎◌, if◌then◌else◌, slice_get, slice_index, length, Option, Some, None}
use Rattle.std.specs.Global.{Vec}
use Rattle.mask_table.specs.Agreeing.{masked}
use Rattle.mask_table.specs.RankSets.{HasRank}
use Rattle.room_index.specs.Homes.{pair}
use Rattle.room_index.specs.Places.{IsIn}
use Rattle.room_index.specs.Filed.{Filed}
use Rattle.room_index.specs.declared.places.Places.{Places}
use Rattle.room_index.specs.declared.ranges.Ranges.{Ranges}

-- the range of a pair among 2^bits, by the first bits of its key
abbrev pub range_of : ℕ → ℕ → ℕ
range_of bits pair = pair / 2 ^ (38 - bits)

-- what a slot has, where there is one
abbrev pub entry_of : Option (Option Filed) → Option Filed
entry_of None = None
entry_of (Some last) = last

module _ {P : Type 0} where
  -- ---- the entry that is near
  -- the slot of a pair: of the first bits of its key, `finer` more than number a range, the last ones, but for the very last
  abbrev pub slot_of : Ranges P → ℕ → ℕ
  slot_of r pair = pair / 2 ^ (38 - (r.bits + r.finer)) % 2 ^ r.bits / 2

  abbrev pub last_in : Ranges P → ℕ → Option Filed
  last_in r n = entry_of (slice_get r.last.items n)

  -- one of them has this entry
  abbrev pub Has : Ranges P → Filed → Type 0
  Has r e = (n : ℕ) × (last_in r n ≡ Some e)

  abbrev pub HasNone : Ranges P → Type 0
  HasNone r = (e : Filed) → Has r e → ⊥

  -- each has an entry of its own pairs, or none
  pub record IsByRange (r : Ranges P) : Type 0 where
    pub few : r.bits ≤ 24
    pub finer : r.bits + r.finer ≤ 32
    pub own : (n : ℕ) (e : Filed) → last_in r n ≡ Some e → slot_of r e.pair ≡ n

  -- each other has the entry that it had
  abbrev pub KeepsOthers : Ranges P → Ranges P → ℕ → Type 0
  KeepsOthers old new pair = (n : ℕ) → (n ≡ slot_of old pair → ⊥) → last_in new n ≡ last_in old n

  pub record HasSameLast (old new : Ranges P) : Type 0 where
    pub last : new.last.items ≡ old.last.items
    pub bits : new.bits ≡ old.bits
    pub finer : new.finer ≡ old.finer

  -- ---- the ranks of a range
  -- a rank is told of the range of an address, or beside all ranges; or there is no such range
  abbrev pub TellsRank : Ranges P → ℕ → ℕ → Type 0
  TellsRank r address rank = (length r.ranks.items ≤ range_of r.bits (pair address 0)) ⊎ HasRank r.short rank
      ⊎ HasRank (slice_index r.ranks.items (range_of r.bits (pair address 0))) rank

  -- the rank of a pair is told of each address that its network has
  abbrev pub IsTold : Ranges P → ℕ → Type 0
  IsTold r of =
      of % 64 ≤ 33 → (address : ℕ) → address < 2 ^ 32 → masked (of % 64) address ≡ of / 64 → TellsRank r address (of % 64)

  -- that of each entry is
  abbrev pub AreTold : Ranges P → Places P → Type 0
  AreTold r p = (e : Filed) → IsIn p e → IsTold r e.pair

  -- what was told is told
  pub record TellsMore (old new : Ranges P) : Type 0 where
    pub bits : new.bits ≡ old.bits
    pub many : length new.ranks.items ≡ length old.ranks.items
    pub short : (rank : ℕ) → HasRank old.short rank → HasRank new.short rank
    pub ranks : (n rank : ℕ) → HasRank (slice_index old.ranks.items n) rank → HasRank (slice_index new.ranks.items n) rank

-- ---- how many there are
-- twice as many, or so many at first
abbrev pub more_of : {T : Type 0} → ℕ → Vec T → ℕ
more_of first known = if length known.items == 0 then first else 2 * length known.items
