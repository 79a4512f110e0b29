-- How far a text is converted.
use Rattle.std.specs.Prelude.{◌≡◌, ℕ, Bool, true, false, ◌||◌, List, [], ◌++◌, length, take, Option}
use Rattle.std.specs.Io.KnownBytes.{Appends, Consumes}
use Rattle.conv_main.specs.Converted.{converted, converted_whole, first_place, place_after, told, told_whole}
use Rattle.conv_main.specs.Ends.{Fronts, has_line}
use Rattle.conv_main.specs.Pieces.{begun_piece, last_piece, whole_pieces}
use Rattle.program_ends.specs.declared.outcome.Outcome.{Outcome}
use Rattle.program_ends.specs.declared.outcome.Outcome.TheVariants.{Done, BadLine, ReadFault, WriteFault, NoMemory}
use Rattle.conv_main.specs.declared.way.Place.{Place}
use Rattle.conv_main.specs.declared.way.Way.{Way}

-- a text has grown at its end
abbrev pub Begins : List ℕ → List ℕ → Type 0
Begins old new = take (length old) new ≡ old

-- of some pieces, the first of which begins at p, those were converted that stand before this rest, which begins at q:
-- what is written and told of them stands behind what was made before
pub record Took (w : Way) (p q : Place) (pieces rest : List (List ℕ))
    (old new old_told new_told : List ℕ) : Type 0 where
  pub done : List (List ℕ)
  pub whole : pieces ≡ done ++ rest
  pub place : q ≡ place_after w p done
  pub out : new ≡ old ++ converted w done
  pub lines : new_told ≡ old_told ++ told w p done

-- these bytes were read, the pieces that are whole among them were converted, whether or not something was told, and
-- the next has begun with `piece` at `place`
pub record Reached (w : Way) (refused : Bool) (before after old new old_told new_told : Option (List ℕ))
    (piece : List ℕ) (place : Place) : Type 0 where
  pub read : List ℕ
  pub consumes : Consumes before after read
  pub appends : Appends old new (converted_whole w read)
  pub tells : Appends old_told new_told (told_whole w read)
  pub refused_is : has_line (told_whole w read) ≡ refused
  pub piece_is : piece ≡ begun_piece w [] read
  pub place_is : place ≡ place_after w first_place (whole_pieces w [] read)

-- what is left at the end of a text, which begins at this place, was converted: whether something was told, then or
-- before
pub record Finished (w : Way) (refused told_before : Bool) (p : Place) (piece : List ℕ)
    (old new old_told new_told : Option (List ℕ)) : Type 0 where
  pub appends : Appends old new (converted w (last_piece piece))
  pub tells : Appends old_told new_told (told w p (last_piece piece))
  pub refused_is : (told_before || has_line (told w p (last_piece piece))) ≡ refused

-- a run with this left ended so
abbrev pub Finishes : Outcome → Way → Bool → Place → List ℕ → Option (List ℕ) → Option (List ℕ) → Option (List ℕ)
    → Option (List ℕ) → Type 0
Finishes Done w before p piece old new old_told new_told = Finished w false before p piece old new old_told new_told
Finishes BadLine w before p piece old new old_told new_told = Finished w true before p piece old new old_told new_told
Finishes ReadFault w before p piece old new old_told new_told = ⊥
Finishes WriteFault w before p piece old new old_told new_told =
    Fronts (converted w (last_piece piece)) (told w p (last_piece piece)) old new old_told new_told
Finishes NoMemory w before p piece old new old_told new_told = (new ≡ old) × (new_told ≡ old_told)
