-- What a run with an outcome did to its reader, which had `before` and has `after` left, to its writer, which held
-- `old` and holds `new`, and to the writer that it tells of refused messages, which held `old_told` and holds
-- `new_told`.
use Rattle.std.specs.Prelude.{◌≡◌, ◌<◌, ◌≤◌, Bool, true, false, List, [], ◌∷◌, ◌++◌, ℕ, Option, ◌⊎◌, length}
use Rattle.std.specs.Io.KnownBytes.{Appends, Consumes, IsAtEnd}
use Rattle.program_ends.specs.declared.outcome.Outcome.{Outcome}
use Rattle.program_ends.specs.declared.outcome.Outcome.TheVariants.{Done, BadLine, ReadFault, WriteFault, NoMemory}
use Rattle.conv_main.specs.Converted.{converted, converted_text, converted_whole, first_place, told, told_text, told_whole}
use Rattle.conv_main.specs.Pieces.{whole_pieces}
use Rattle.conv_main.specs.declared.run.TheConstants.{READ_ROOM}
use Rattle.conv_main.specs.declared.way.Way.{Way}

-- something was told
abbrev pub has_line : List ℕ → Bool
has_line [] = false
has_line (b ∷ bs) = true

-- it wrote all that the reader had with each message in the other layout, and told of those that have no counterpart
-- there, of at least one or of none
pub record ConvertedAll (w : Way) (refused : Bool)
    (before after old new old_told new_told : Option (List ℕ)) : Type 0 where
  pub read : List ℕ
  pub consumes : Consumes before after read
  pub all : IsAtEnd after
  pub appends : Appends old new (converted_text w read)
  pub tells : Appends old_told new_told (told_text w read)
  pub refused_is : has_line (told_text w read) ≡ refused

-- it wrote and told the same of the pieces that were read to their ends
pub record ConvertedWhole (w : Way) (before after old new old_told new_told : Option (List ℕ)) : Type 0 where
  pub read : List ℕ
  pub consumes : Consumes before after read
  pub appends : Appends old new (converted_whole w read)
  pub tells : Appends old_told new_told (told_whole w read)

-- a writer took what stands before some unwritten rest of a text
pub record WroteFrontOf (text : List ℕ) (old new : Option (List ℕ)) : Type 0 where
  pub written : List ℕ
  pub unwritten : List ℕ
  pub appends : Appends old new written
  pub whole : text ≡ written ++ unwritten

-- of both texts a front was written
pub record Fronts (text lines : List ℕ) (old new old_told new_told : Option (List ℕ)) : Type 0 where
  pub out : WroteFrontOf text old new
  pub told : WroteFrontOf lines old_told new_told

-- it wrote and told a front of what it would have written and told of the pieces that were read to their ends, the last
-- at the end of the text
pub record ConvertedFront (w : Way) (before after old new old_told new_told : Option (List ℕ)) : Type 0 where
  pub read : List ℕ
  pub consumes : Consumes before after read
  pub front : Fronts (converted_whole w read) (told_whole w read) old new old_told new_told
      ⊎ (IsAtEnd after × Fronts (converted_text w read) (told_text w read) old new old_told new_told)

-- these are the first pieces of what was read, with all that ended before its last bytes: at most as many as one read
-- gives
pub record HasEarlier (w : Way) (read : List ℕ) (done : List (List ℕ)) : Type 0 where
  pub earlier : List ℕ
  pub last : List ℕ
  pub more : List (List ℕ)
  pub parts : read ≡ earlier ++ last
  pub few : length last ≤ READ_ROOM
  pub done_are : done ≡ whole_pieces w [] earlier ++ more

-- it wrote the first of the pieces that were read to their ends, each converted, and told of those of them that have no
-- counterpart, and nothing of the others, which end within those last bytes
pub record ConvertedFirst (w : Way) (before after old new old_told new_told : Option (List ℕ)) : Type 0 where
  pub read : List ℕ
  pub done : List (List ℕ)
  pub rest : List (List ℕ)
  pub consumes : Consumes before after read
  pub pieces : whole_pieces w [] read ≡ done ++ rest
  pub has_earlier : HasEarlier w read done
  pub appends : Appends old new (converted w done)
  pub tells : Appends old_told new_told (told w first_place done)

-- what a run with this outcome did
abbrev pub Ends : Outcome → Way → Option (List ℕ) → Option (List ℕ) → Option (List ℕ) → Option (List ℕ)
    → Option (List ℕ) → Option (List ℕ) → Type 0
Ends Done w before after old new old_told new_told = ConvertedAll w false before after old new old_told new_told
Ends BadLine w before after old new old_told new_told = ConvertedAll w true before after old new old_told new_told
Ends ReadFault w before after old new old_told new_told = ConvertedWhole w before after old new old_told new_told
Ends WriteFault w before after old new old_told new_told = ConvertedFront w before after old new old_told new_told
Ends NoMemory w before after old new old_told new_told = ConvertedFirst w before after old new old_told new_told

-- how often memory was refused before a run with this outcome, and after it. A want of memory ends the run, with its
-- own outcome, or as a write fault where what was made before it can't be written
abbrev pub EndsCounted : Outcome → ℕ → ℕ → Type 0
EndsCounted Done low high = high ≡ low
EndsCounted BadLine low high = high ≡ low
EndsCounted ReadFault low high = high ≡ low
EndsCounted WriteFault low high = low ≤ high
EndsCounted NoMemory low high = low < high
