-- How the table of places becomes larger and smaller.
use Rattle.std.specs.Prelude.{ℕ, ◌+◌, ◌<◌, ◌≤◌, ◌==◌, if◌then◌else◌, length, vec_capacity}
use Rattle.room_index.specs.Places.{IsHome}
use Rattle.room_index.specs.declared.places.Places.{Places}

module _ {P : Type 0} where
  -- how many places more a larger table has
  abbrev pub more_places : Places P → ℕ
  more_places p = if length p.tags.items == 0 then 32 else length p.tags.items

  -- there is memory for these
  pub record IsReserved (p : Places P) : Type 0 where
    pub tags : length p.tags.items + more_places p ≤ vec_capacity p.tags
    pub entries : length p.entries.items + more_places p ≤ vec_capacity p.entries

-- while a table becomes larger: before a place all is at home among twice as many buckets, and so is what has moved on
-- by as many places as there were; behind it all is where it was
pub record Parts (bits many place n pair : ℕ) : Type 0 where
  pub parted : n < place → IsHome (bits + 1) n pair
  pub left : place ≤ n → n < many → IsHome bits n pair
  pub moved : many ≤ n → (n < many + place) × IsHome (bits + 1) n pair

-- while it becomes smaller: in the lower half all is at home among half as many buckets, and in the upper one nothing
-- is left before a place
pub record Folds (bits half place n pair : ℕ) : Type 0 where
  pub lower : n < half → IsHome bits n pair
  pub upper : half ≤ n → (place ≤ n) × IsHome (bits + 1) n pair
