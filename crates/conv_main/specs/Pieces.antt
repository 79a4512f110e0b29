-- The pieces of a text, each of which is converted by itself: its lines, or the messages of a capture.
use Rattle.std.specs.Prelude.{◌≡◌, ◌≢◌, ℕ, ◌-◌, nat_le, ◌==◌, max, Bool, cond, List, [], ◌∷◌, ◌++◌, length, slice_index, flat_map, true, false}
use Rattle.std.specs.List.{All}
use Rattle.route_layouts.specs.Places.{number_of}
use Rattle.conv_main.specs.declared.way.Form.{Form}
use Rattle.conv_main.specs.declared.way.Form.TheVariants.{Lines, Raw}
use Rattle.conv_main.specs.declared.way.Way.{Way}

-- a line is whole with its newline
abbrev pub is_line : List ℕ → Bool
is_line piece = slice_index piece (length piece - 1) == 10

-- a message is whole with as many bytes as its first two say, and never with fewer than four
abbrev pub is_message : Way → List ℕ → Bool
is_message w piece = nat_le (max 4 (number_of w.from.order 2 piece)) (length piece)

-- a piece is whole
abbrev pub is_whole_in : Form → Way → List ℕ → Bool
is_whole_in Lines w piece = is_line piece
is_whole_in Raw w piece = is_message w piece

abbrev pub is_whole : Way → List ℕ → Bool
is_whole w piece = is_whole_in w.read w piece

-- the pieces that these bytes end, behind what has come of the first: each ends where it is whole, and there the next
-- begins
abbrev pub whole_pieces : Way → List ℕ → List ℕ → List (List ℕ)
whole_pieces w begun [] = []
whole_pieces w begun (b ∷ bs) =
    cond (is_whole w (begun ++ b ∷ [])) ((begun ++ b ∷ []) ∷ whole_pieces w [] bs) (whole_pieces w (begun ++ b ∷ []) bs)

-- what has come of a piece behind them
abbrev pub begun_piece : Way → List ℕ → List ℕ → List ℕ
begun_piece w begun [] = begun
begun_piece w begun (b ∷ bs) =
    cond (is_whole w (begun ++ b ∷ [])) (begun_piece w [] bs) (begun_piece w (begun ++ b ∷ []) bs)

-- what is left at the end of a text is a piece where it has a byte
abbrev pub last_piece : List ℕ → List (List ℕ)
last_piece [] = []
last_piece (b ∷ bs) = (b ∷ bs) ∷ []

-- the pieces of a text
abbrev pub pieces_of : Way → List ℕ → List (List ℕ)
pieces_of w text = whole_pieces w [] text ++ last_piece (begun_piece w [] text)

-- ---- what pieces are

-- it isn't whole, and no front of it is
abbrev pub IsBegun : Way → List ℕ → Type 0
IsBegun w piece = (front rest : List ℕ) → piece ≡ front ++ rest → front ≢ [] → is_whole w front ≡ false

-- it is whole, and no shorter front of it is
pub record IsPiece (w : Way) (piece : List ℕ) : Type 0 where
  pub whole : is_whole w piece ≡ true
  pub first : (front rest : List ℕ) → piece ≡ front ++ rest → front ≢ [] → rest ≢ [] → is_whole w front ≡ false

-- a text is its whole pieces one behind the other, and behind them what has come of the next
pub record IsCut (w : Way) (text : List ℕ) : Type 0 where
  pub pieces : All (IsPiece w) (whole_pieces w [] text)
  pub begun : IsBegun w (begun_piece w [] text)
  pub all : flat_map (λ piece. piece) (whole_pieces w [] text) ++ begun_piece w [] text ≡ text

abbrev pub TextsAreCut : Type 0
TextsAreCut = (w : Way) (text : List ℕ) → IsCut w text
