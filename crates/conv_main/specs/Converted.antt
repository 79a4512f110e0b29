-- A text with its messages in another layout, and what is told of those that have no counterpart there.
use Rattle.std.specs.Prelude.{ℕ, ◌+◌, cond, List, [], ◌∷◌, ◌++◌, length, flat_map, codes, decimal, Option, Some, None, is_some, Result, Ok, Err}
use Rattle.hex.specs.Hex.{encode_lower}
use Rattle.route_layouts.specs.Conversion.{counterpart}
use Rattle.route_layouts.specs.Faults.{text_of}
use Rattle.route_layouts.specs.Layouts.{IsLayout}
use Rattle.route_layouts.specs.declared.fault.Fault.{Fault}
use Rattle.conv_main.specs.Messages.{Message, message_in}
use Rattle.conv_main.specs.Pieces.{pieces_of, whole_pieces}
use Rattle.conv_main.specs.declared.way.Form.{Form}
use Rattle.conv_main.specs.declared.way.Form.TheVariants.{Lines, Raw}
use Rattle.conv_main.specs.declared.way.Place.{Place}
use Rattle.conv_main.specs.declared.way.Way.{Way}

-- both layouts are such
pub record IsWay (w : Way) : Type 0 where
  pub from : IsLayout w.from
  pub to : IsLayout w.to

-- ---- what is written

-- a piece without a message stays where lines are written, and is left out where messages alone are
abbrev pub kept_in : Form → List ℕ → List ℕ
kept_in Lines piece = piece
kept_in Raw piece = []

-- a message is written where it stood, in lower-case digits; where messages alone are written, as its bytes
abbrev pub written_in : Form → Message → List ℕ → List ℕ
written_in Lines m bytes = m.before ++ encode_lower bytes ++ m.behind
written_in Raw m bytes = bytes

-- a line whose message has no counterpart becomes a comment; what comes from a capture or goes into one is left out
abbrev pub refused_in : Form → Form → List ℕ → List ℕ
refused_in Lines Lines piece = codes "# " ++ piece
refused_in Lines Raw piece = []
refused_in Raw written piece = []

abbrev pub answered : Way → Message → List ℕ → Result (List ℕ) Fault → List ℕ
answered w m piece (Ok bytes) = written_in w.written m bytes
answered w m piece (Err why) = refused_in w.read w.written piece

abbrev pub written_of : Way → List ℕ → Option Message → List ℕ
written_of w piece None = kept_in w.written piece
written_of w piece (Some m) = answered w m piece (counterpart w.from w.to m.bytes)

-- what is written of a piece
abbrev pub converted_piece : Way → List ℕ → List ℕ
converted_piece w piece = written_of w piece (message_in w.read piece)

-- ---- what is told

-- of a message without a counterpart its number in the text, the place at which its piece begins, and why
abbrev pub line_about : Place → Fault → List ℕ
line_about p why =
    codes "routeconv: message " ++ decimal (p.messages + 1) ++ codes " at " ++ decimal p.offset ++ codes ": " ++ text_of why ++ 10 ∷ []

abbrev pub told_by : Place → Result (List ℕ) Fault → List ℕ
told_by p (Ok bytes) = []
told_by p (Err why) = line_about p why

abbrev pub told_of : Way → Place → Option Message → List ℕ
told_of w p None = []
told_of w p (Some m) = told_by p (counterpart w.from w.to m.bytes)

-- what is told of a piece
abbrev pub told_piece : Way → Place → List ℕ → List ℕ
told_piece w p piece = told_of w p (message_in w.read piece)

-- the place behind a piece
abbrev pub place_behind : Way → Place → List ℕ → Place
place_behind w p piece = record {
  messages = p.messages + cond (is_some (message_in w.read piece)) 1 0;
  offset = p.offset + length piece;
}

-- the place at which a text begins
abbrev pub first_place : Place
first_place = record { messages = 0; offset = 0 }

-- ---- of pieces one behind the other

abbrev pub converted : Way → List (List ℕ) → List ℕ
converted w pieces = flat_map (converted_piece w) pieces

abbrev pub told : Way → Place → List (List ℕ) → List ℕ
told w p [] = []
told w p (piece ∷ pieces) = told_piece w p piece ++ told w (place_behind w p piece) pieces

abbrev pub place_after : Way → Place → List (List ℕ) → Place
place_after w p [] = p
place_after w p (piece ∷ pieces) = place_after w (place_behind w p piece) pieces

-- ---- of a text

-- the text with each message in the other layout
abbrev pub converted_text : Way → List ℕ → List ℕ
converted_text w text = converted w (pieces_of w text)

-- a line about each message without a counterpart
abbrev pub told_text : Way → List ℕ → List ℕ
told_text w text = told w first_place (pieces_of w text)

-- the same of the pieces that are whole
abbrev pub converted_whole : Way → List ℕ → List ℕ
converted_whole w text = converted w (whole_pieces w [] text)

abbrev pub told_whole : Way → List ℕ → List ℕ
told_whole w text = told w first_place (whole_pieces w [] text)
