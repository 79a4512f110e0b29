-- Where a pair of a key and a rank is at home: in two of 2^bits buckets, under a tag. All three are parts of one
-- number.
use Rattle.std.specs.Prelude.{ℕ, ◌+◌, ◌-◌, ◌*◌, ◌/◌, ◌%◌, ◌^◌, nat_lt, max, if◌then◌else◌, bit_xor}
use Rattle.room_index.specs.declared.homes.Homes.{Homes}

-- the number of a pair, whose rank is below 64
abbrev pub pair : ℕ → ℕ → ℕ
pair key rank = key * 64 + rank

-- its key
abbrev pub key_of : ℕ → ℕ
key_of pair = pair / 64 % 2 ^ 32

-- the last two bits of its key
abbrev side : ℕ → ℕ
side pair = pair / 64 % 4

-- the product with an odd number near 2^64 over the golden ratio, its upper half folded into the lower one
unfoldable pub folded : ℕ → ℕ
folded number = let product = number * 0x9E37_79B9_7F4A_7C15 % 2 ^ 64 in bit_xor product (product / 2 ^ 32)

-- hosts, whose ranks are 32 and 33, have homes whose numbers differ in their lowest two bits alone where the keys do
unfoldable pub spread : ℕ → ℕ
spread pair =
    if nat_lt (pair % 64) 32 then folded pair
    else bit_xor (folded (pair - side pair * 64)) (side pair * (2 ^ 24 + 1))

-- the tag, which isn't 0
abbrev pub tag_of : ℕ → ℕ
tag_of pair = max (spread pair / 2 ^ 56) 1

abbrev pub first_home : ℕ → ℕ → ℕ
first_home bits pair = spread pair % 2 ^ bits

abbrev pub second_home : ℕ → ℕ → ℕ
second_home bits pair = spread pair / 2 ^ 24 % 2 ^ bits

abbrev pub homes : ℕ → ℕ → Homes
homes bits pair = record { tag = tag_of pair; first = first_home bits pair; second = second_home bits pair }

-- a place of either home by its number, those of the first before those of the second
abbrev pub place_of : Homes → ℕ → ℕ
place_of h number = if nat_lt number 8 then 8 * h.first + number else 8 * h.second + (number - 8)
