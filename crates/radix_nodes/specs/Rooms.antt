-- The rooms of a tree as contracts see them: a finite map from a room's number to its block, value and links. A room is
-- in the map while it is lodged.
use Rattle.std.specs.Prelude.{◌≡◌, ℕ, map as each, Option, Some, None, refl}
use Rattle.std.specs.Ordering.{nat_cmp}
use Rattle.std.specs.FinMap.{FinMap, code, get, insert, entries, from_entries}
use Rattle.std.specs.Coded.{Coded, code_by, coded×, coded_ℕ}
use denote.RawPtr.{Ptr, coded_ptr}
use Rattle.radix_nodes.specs.declared.id.Id.{Id}
use Rattle.radix_nodes.specs.declared.links.Links.{Links}
use Rattle.radix_nodes.specs.declared.room.Full.{Full}
use Rattle.radix_nodes.specs.contracts.links.Links.{the_row as links_row}
use Rattle.radix_nodes.specs.Naming.{number_of}

-- a lodged room
pub record Seen (V : Type 0) : Type 0 where
  pub block : Ptr
  pub value : V
  pub links : Links

-- the lodged rooms by their numbers, and the turn, which a counter of visits has to be of
pub record Rooms (V : Type 0) : Type 0 where
  pub lodged : FinMap nat_cmp (Seen V)
  pub turn : ℕ

-- both are stored as tuples of their fields
abbrev seen_code : {V : Type 0} → Coded V → Coded (Seen V)
seen_code {V} v = code_by (Ptr × (V × Links)) (coded× coded_ptr (coded× v links_row.coded))
    (λ s. (s.block, (s.value, s.links))) (λ p. record { block = p.0; value = p.1.0; links = p.1.1 }) (λ _. refl)

abbrev pub rooms_code : {V : Type 0} → Coded V → Coded (Rooms V)
rooms_code {V} v = code_by (FinMap nat_cmp (Seen V) × ℕ) (coded× (code coded_ℕ (seen_code v)) coded_ℕ)
    (λ r. (r.lodged, r.turn)) (λ p. record { lodged = p.0; turn = p.1 }) (λ _. refl)

module _ {V : Type 0} where
  abbrev pub seen : Ptr → V → Links → Seen V
  seen block value links = record { block = block; value = value; links = links }

  -- the map has the room of this number with this block
  pub record Has (m : FinMap nat_cmp (Seen V)) (id : Id) : Type 0 where
    pub room : Seen V
    pub at : get m (number_of id) ≡ Some room
    pub block : room.block ≡ id.block

  -- the map with this room
  abbrev pub put_room : FinMap nat_cmp (Seen V) → Id → V → Links → FinMap nat_cmp (Seen V)
  put_room m id value links = insert m (number_of id) (seen id.block value links)

  abbrev put_links_in : FinMap nat_cmp (Seen V) → Id → Links → Option (Seen V) → FinMap nat_cmp (Seen V)
  put_links_in m id links None = m
  put_links_in m id links (Some s) = put_room m id s.value links

  -- the map with other links of this room
  abbrev pub put_links : FinMap nat_cmp (Seen V) → Id → Links → FinMap nat_cmp (Seen V)
  put_links m id links = put_links_in m id links (get m (number_of id))

  abbrev put_value_in : FinMap nat_cmp (Seen V) → Id → V → Option (Seen V) → FinMap nat_cmp (Seen V)
  put_value_in m id value None = m
  put_value_in m id value (Some s) = put_room m id value s.links

  -- the map with another value of this room
  abbrev pub put_value : FinMap nat_cmp (Seen V) → Id → V → FinMap nat_cmp (Seen V)
  put_value m id value = put_value_in m id value (get m (number_of id))

  -- what a contract sees of a block
  abbrev pub seen_of : Ptr × Full V → Seen V
  seen_of c = seen c.0 c.1.value c.1.links

  abbrev pub seen_all : FinMap nat_cmp (Ptr × Full V) → FinMap nat_cmp (Seen V)
  seen_all cells = from_entries (each (λ e. (e.0, seen_of e.1)) (entries cells))
