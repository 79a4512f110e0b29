-- Bytes by their places: the number that a field holds, and bytes with a field in its place. Numbers are written
-- highest byte first.
use Rattle.std.specs.Prelude.{ℕ, ◌+◌, List, [], ◌∷◌, ◌++◌, take, drop}
use Rattle.byteorder.specs.Endian.{big_number, big_bytes}

-- a field: so many bytes from an offset on, and the number in them
pub record Field : Type 0 where
  pub offset : ℕ
  pub width : ℕ
  pub value : ℕ

abbrev pub field : ℕ → ℕ → ℕ → Field
field offset width value = record { offset = offset; width = width; value = value }

-- the number in so many bytes from an offset on
unfoldable pub number_at : ℕ → ℕ → List ℕ → ℕ
number_at offset width bytes = big_number width (drop offset bytes)

-- the bytes with the field's number in its place, and all else as it was
unfoldable pub with_field : Field → List ℕ → List ℕ
with_field f bytes = take f.offset bytes ++ big_bytes f.width f.value ++ drop (f.offset + f.width) bytes

-- the bytes with each of the fields in its place
abbrev pub with_fields : List Field → List ℕ → List ℕ
with_fields [] bytes = bytes
with_fields (f ∷ fs) bytes = with_fields fs (with_field f bytes)
