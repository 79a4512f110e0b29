-- A header in words, by a table: each row is a field by its offset and width, and how it is printed.
use Rattle.std.specs.Prelude.{ℕ, ◌==◌, ◌&&◌, Bool, true, false, if◌then◌else◌, List, [], ◌∷◌, ◌++◌, codes, decimal}
use Rattle.std.specs.Int.{w32, to_be_bytes}
use Rattle.hex.specs.Hex.{encode_lower}
use Rattle.route_msgs.specs.Layout.{number_at}
use Rattle.message_text.specs.Names.{Named, errno_name, kind_text, names}

-- a number is printed as a type, in decimal, or in eight hexadecimal digits
pub data Style : Type 0 where
  Kind : Style
  Decimal : Style
  Bits : Style

abbrev pub number_text : Style → ℕ → List ℕ
number_text Kind n = kind_text n
number_text Decimal n = decimal n
number_text Bits n = encode_lower (to_be_bytes w32 n)

-- a field: its name, its number, the byte that ends this, and what the number means in words. An optional one isn't
-- printed where it is 0.
pub record Row : Type 0 where
  pub offset : ℕ
  pub width : ℕ
  pub is_optional : Bool
  pub name : List ℕ
  pub style : Style
  pub stop : ℕ
  pub note : ℕ → List ℕ

abbrev pub row_text : Row → ℕ → List ℕ
row_text r n =
    if r.is_optional && n == 0 then []
    else r.name ++ number_text r.style n ++ r.stop ∷ r.note n

-- the fields of a message
unfoldable pub rows_text : List Row → List ℕ → List ℕ
rows_text [] m = []
rows_text (r ∷ rs) m = row_text r (number_at r.offset r.width m) ++ rows_text rs m

-- ---- the rows that there are

-- the type, which begins a message's text
abbrev pub kind_row : Row
kind_row = record {
  offset = 3;
  width = 1;
  is_optional = false;
  name = [];
  style = Kind;
  stop = 58;
  note = λ _. codes " ";
}

-- a number among those of the first line, and the last of them
abbrev pub number_row : ℕ → ℕ → List ℕ → Row
number_row offset width name = record {
  offset = offset;
  width = width;
  is_optional = false;
  name = name;
  style = Decimal;
  stop = 44;
  note = λ _. codes " ";
}

abbrev pub last_row : ℕ → ℕ → List ℕ → Row
last_row offset width name = record {
  offset = offset;
  width = width;
  is_optional = false;
  name = name;
  style = Decimal;
  stop = 10;
  note = λ _. [];
}

-- a number on a line of its own, where it isn't 0
abbrev pub number_line : ℕ → ℕ → List ℕ → Row
number_line offset width name = record {
  offset = offset;
  width = width;
  is_optional = true;
  name = name;
  style = Decimal;
  stop = 10;
  note = λ _. [];
}

-- the errno with its name, where it isn't 0
abbrev pub errno_line : ℕ → Row
errno_line offset = record {
  offset = offset;
  width = 4;
  is_optional = true;
  name = codes " errno ";
  style = Decimal;
  stop = 32;
  note = λ n. 40 ∷ errno_name n ++ codes ")\n";
}

-- bits by their names, on a line of their own; the same where one is set
abbrev pub bits_line : ℕ → List ℕ → List Named → Row
bits_line offset name bits = record {
  offset = offset;
  width = 4;
  is_optional = false;
  name = name;
  style = Bits;
  stop = 60;
  note = λ n. names bits n ++ codes ">\n";
}

abbrev pub some_bits_line : ℕ → List ℕ → List Named → Row
some_bits_line offset name bits = record {
  offset = offset;
  width = 4;
  is_optional = true;
  name = name;
  style = Bits;
  stop = 60;
  note = λ n. names bits n ++ codes ">\n";
}
