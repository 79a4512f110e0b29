-- One address in the layout of another system: a link-layer address may be cut there, a mask may have more bytes, the
-- number of an interface stands in the other order, and zeros make it whole words.
use Rattle.std.specs.Prelude.{ℕ, ◌+◌, ◌-◌, ◌*◌, ◌/◌, ◌≤◌, max, nat_lt, nat_le, ◌==◌, Bool, ◌&&◌, ◌||◌, not, if◌then◌else◌, List, ◌∷◌, ◌++◌, length, take, drop, replicate, slice_index}
use Rattle.std.specs.List.{list_all}
use Rattle.sock_addrs.specs.declared.families.TheConstants.{AF_LINK}
use Rattle.route_msgs.specs.declared.places.TheConstants.{RTAX_GENMASK, RTAX_NETMASK}
use Rattle.route_layouts.specs.declared.change.Change.{Change}

-- the bytes that an address takes whose length byte is this: whole words, and at least one
abbrev pub rounded_to : ℕ → ℕ → ℕ
rounded_to word n = (max n 1 + word - 1) / word * word

-- the place of an address among the eight is that of a mask
abbrev pub is_mask : ℕ → Bool
is_mask k = k == RTAX_NETMASK || k == RTAX_GENMASK

-- ---- how long it is there

-- the bytes of a link-layer address that tell something: eight and its name, its address and its selector, and no fewer
-- than `struct sockaddr_dl` has
abbrev pub link_size : List ℕ → ℕ
link_size s = max 20 (8 + slice_index s 5 + slice_index s 6 + slice_index s 7)

-- a link-layer address
abbrev pub is_link : List ℕ → Bool
is_link s = slice_index s 1 == AF_LINK

-- one of more than so many bytes
abbrev pub is_long : ℕ → List ℕ → Bool
is_long most s = is_link s && nat_lt most (length s)

-- zeros alone are behind what it tells, which is no more than that
abbrev pub is_loose : ℕ → List ℕ → Bool
is_loose most s = nat_le (link_size s) most && list_all (λ byte. byte == 0) (drop (link_size s) s)

-- its length byte there: a link-layer address that is too long is cut behind what it tells, and a mask of five bytes
-- and more has at least so many
unfoldable pub length_as : Change → ℕ → List ℕ → ℕ
length_as c k s =
    if is_mask k
    then (if nat_le 5 (slice_index s 0) then max (slice_index s 0) c.least_mask else slice_index s 0)
    else (if is_long c.most_link s && is_loose c.most_link s then link_size s else slice_index s 0)

-- it isn't too long there, or can be cut
abbrev pub fits : Change → ℕ → List ℕ → Bool
fits c k s = is_mask k || not (is_long c.most_link s) || is_loose c.most_link s

-- ---- its bytes there

-- an address with another length byte: cut, or with zeros behind
abbrev pub sized : ℕ → List ℕ → List ℕ
sized n s = n ∷ take (n - 1) (drop 1 s) ++ replicate (n - length s) 0

-- a link-layer address with the number of its interface in the other order
abbrev pub swapped : List ℕ → List ℕ
swapped s = slice_index s 0 ∷ slice_index s 1 ∷ slice_index s 3 ∷ slice_index s 2 ∷ drop 4 s

abbrev pub has_number : List ℕ → Bool
has_number s = is_link s && nat_le 4 (length s)

abbrev pub turned : Bool → List ℕ → List ℕ
turned swaps s = if swaps && has_number s then swapped s else s

-- an address as the other layout has it
abbrev pub fitted : Change → ℕ → List ℕ → List ℕ
fitted c k s = turned (c.swaps && not (is_mask k)) (sized (length_as c k s) s)

-- an address that went to another layout and came back, or went on to a third, but for the order of a number: as both
-- have it
abbrev pub settled : Change → Change → ℕ → List ℕ → List ℕ
settled there on k s = let new = sized (length_as there k s) s in sized (length_as on k new) new

-- with zeros behind it to whole words
abbrev pub padded : ℕ → List ℕ → List ℕ
padded word s = s ++ replicate (rounded_to word (slice_index s 0) - length s) 0

abbrev pub address_as : Change → ℕ → List ℕ → List ℕ
address_as c k s = padded c.to_word (fitted c k s)

-- a change between layouts: words have 1 to 8 bytes, and no mask need have more
pub record IsChange (c : Change) : Type 0 where
  pub least_from : 1 ≤ c.from_word
  pub most_from : c.from_word ≤ 8
  pub least_to : 1 ≤ c.to_word
  pub most_to : c.to_word ≤ 8
  pub mask : c.least_mask ≤ 8
