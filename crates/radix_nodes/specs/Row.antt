-- The row of the lodged rooms, from the one that was lodged last: each names the one that was lodged after it and the
-- one before, of those that are in the map. So all rooms in the map are found from the last one, and can be freed.
use Rattle.std.specs.Prelude.{◌≡◌, ℕ, ◌==◌, if◌then◌else◌, List, [], ◌∷◌, Option, Some, None, option_map}
use Rattle.std.specs.Ordering.{nat_cmp}
use Rattle.std.specs.FinMap.{FinMap, get}
use denote.RawPtr.{Ptr}
use Rattle.radix_nodes.specs.declared.id.Id.{Id}
use Rattle.radix_nodes.specs.declared.room.Full.{Full}
use Rattle.radix_nodes.specs.Naming.{number_of}

-- the room that was lodged last, once a room is out that named these as lodged after it and before it
abbrev pub newest_after : Option Id → Option Id → Option Id → Option Id
newest_after None older newest = older
newest_after (Some a) older newest = newest

module _ {V : Type 0} where
  -- what number n says once the room of another number is out
  abbrev pub without : (ℕ → Option (Ptr × Full V)) → ℕ → ℕ → Option (Ptr × Full V)
  without cells out n = if n == out then None else cells n

  -- what number n says once this room, where there is one, names another as the newer one
  abbrev pub put_newer : Option Id → Option Id → ℕ → Option (Ptr × Full V) → Option (Ptr × Full V)
  put_newer None newer n said = said
  put_newer (Some at) newer n said = if n == (number_of at)
      then option_map (λ (c : Ptr × Full V). (c.0, record c.1 { newer = newer })) said else said

  -- and once it names another as the older one
  abbrev pub put_older : Option Id → Option Id → ℕ → Option (Ptr × Full V) → Option (Ptr × Full V)
  put_older None older n said = said
  put_older (Some at) older n said = if n == (number_of at)
      then option_map (λ (c : Ptr × Full V). (c.0, record c.1 { older = older })) said else said

  -- the rooms of the list, and no others, are a row behind the room `newer`: `first` is the first of them
  abbrev pub IsRow : (ℕ → Option (Ptr × Full V)) → Option Id → Option Id → List Id → Type 0
  IsRow cells newer first [] = (first ≡ None) × ((n : ℕ) → cells n ≡ None)
  IsRow cells newer first (room ∷ rooms) = (first ≡ Some room) × (full : Full V)
      × (cells (number_of room) ≡ Some (room.block, full)) × (full.newer ≡ newer)
      × IsRow (without cells (number_of room)) (Some room) full.older rooms

  -- all rooms are a row
  abbrev pub AreRow : FinMap nat_cmp (Ptr × Full V) → Option Id → Option Id → Type 0
  AreRow cells newer first = (rooms : List Id) × IsRow (get cells) newer first rooms
