-- The steps of a run, and how it ends.
use Rattle.std.proofs.Common.{◌≡◌, ◌≤◌, ◌||◌, ℕ, Bool, true, false, List, [], ◌++◌, Option, Result, refl, sym, ap, ◌∙◌, subst, append_assoc, append-nil, length, inl, inr, arith}
use Rattle.std.specs.Prelude.{OnErr, OnOk}
use Rattle.std.specs.Io.KnownBytes.{Appends, Consumes, IsAtEnd, Keeps}
use Rattle.std.proofs.KnownBytes.{Appends-nil, Appends-trans, Consumes-kept, Consumes-nil, Consumes-trans}
use Rattle.program_ends.specs.declared.outcome.Outcome.{Outcome}
use Rattle.program_ends.specs.declared.outcome.Outcome.TheVariants.{Done, BadLine, ReadFault, WriteFault, NoMemory}
use Rattle.conv_main.specs.Converted.{converted, converted_text, converted_whole, first_place, place_after, told, told_text, told_whole}
use Rattle.conv_main.specs.Ends.{ConvertedAll, ConvertedFirst, ConvertedFront, Ends, Fronts, WroteFrontOf, has_line}
use Rattle.conv_main.specs.Pieces.{begun_piece, last_piece, whole_pieces}
use Rattle.conv_main.specs.Progress.{Finished, Finishes, Reached, Took}
use Rattle.conv_main.specs.declared.run.TheConstants.{READ_ROOM}
use Rattle.conv_main.specs.declared.way.Place.{Place}
use Rattle.conv_main.specs.declared.way.Way.{Way}
use Rattle.conv_main.proofs.Taken.{Took-front, Took-front_lines, Took-lines, Took-out, Took-place, begun_piece-append, converted-append, either_took, has_line-append, place_after-append, told-append, whole_pieces-append}

-- ---- fronts

-- a front of a front
pub Front-longer : {text : List ℕ} {o n : Option (List ℕ)} (rest whole : List ℕ) → WroteFrontOf text o n → whole ≡ text ++ rest → WroteFrontOf whole o n
Front-longer rest whole p is = record {
  written = p.written;
  unwritten = p.unwritten ++ rest;
  appends = p.appends;
  whole = is ∙ ap (λ l. l ++ rest) p.whole ∙ append_assoc p.written p.unwritten rest;
}

-- ---- a run that reads

-- where it can't begin
pub First-none : (w : Way) (before old old_told : Option (List ℕ)) → ConvertedFirst w before before old old old_told old_told
First-none w before old old_told = record {
  read = [];
  done = [];
  rest = [];
  consumes = Consumes-nil before;
  pieces = refl;
  has_earlier = record { earlier = []; last = []; more = []; parts = refl; few = omega arith; done_are = refl };
  appends = Appends-nil old;
  tells = Appends-nil old_told;
}

pub Reached-start : (w : Way) (before old old_told : Option (List ℕ)) (piece : List ℕ) (place : Place) → piece ≡ [] → place ≡ first_place
    → Reached w false before before old old old_told old_told piece place
Reached-start w before old old_told piece place none first = record {
  read = [];
  consumes = Consumes-nil before;
  appends = Appends-nil old;
  tells = Appends-nil old_told;
  refused_is = refl;
  piece_is = none;
  place_is = first;
}

module _ {w : Way} {refused : Bool} {before mid c d e f : Option (List ℕ)} {piece : List ℕ} {place : Place} where
  -- what is made of more bytes
  converted_more : (bytes : List ℕ) (r : Reached w refused before mid c d e f piece place)
      → converted_whole w (r.read ++ bytes) ≡ converted_whole w r.read ++ converted w (whole_pieces w piece bytes)
  converted_more bytes r =
      ap (converted w) (whole_pieces-append w [] r.read bytes)
      ∙ converted-append w (whole_pieces w [] r.read) (whole_pieces w (begun_piece w [] r.read) bytes)
      ∙ ap (λ l. converted_whole w r.read ++ converted w (whole_pieces w l bytes)) (sym r.piece_is)

  told_more : (bytes : List ℕ) (r : Reached w refused before mid c d e f piece place)
      → told_whole w (r.read ++ bytes) ≡ told_whole w r.read ++ told w place (whole_pieces w piece bytes)
  told_more bytes r =
      ap (told w first_place) (whole_pieces-append w [] r.read bytes)
      ∙ told-append w first_place (whole_pieces w [] r.read) (whole_pieces w (begun_piece w [] r.read) bytes)
      ∙ ap (λ l. told_whole w r.read ++ told w (place_after w first_place (whole_pieces w [] r.read)) (whole_pieces w l bytes)) (sym r.piece_is)
      ∙ ap (λ p. told_whole w r.read ++ told w p (whole_pieces w piece bytes)) (sym r.place_is)

  converted_last : (r : Reached w refused before mid c d e f piece place)
      → converted_text w r.read ≡ converted_whole w r.read ++ converted w (last_piece piece)
  converted_last r =
      converted-append w (whole_pieces w [] r.read) (last_piece (begun_piece w [] r.read))
      ∙ ap (λ l. converted_whole w r.read ++ converted w (last_piece l)) (sym r.piece_is)

  told_last : (r : Reached w refused before mid c d e f piece place)
      → told_text w r.read ≡ told_whole w r.read ++ told w place (last_piece piece)
  told_last r =
      told-append w first_place (whole_pieces w [] r.read) (last_piece (begun_piece w [] r.read))
      ∙ ap (λ l. told_whole w r.read ++ told w (place_after w first_place (whole_pieces w [] r.read)) (last_piece l)) (sym r.piece_is)
      ∙ ap (λ p. told_whole w r.read ++ told w p (last_piece piece)) (sym r.place_is)

  pub Reached-read : (after g h : Option (List ℕ)) (bytes next : List ℕ) (there : Place) (said : Bool) → Reached w refused before mid c d e f piece place
      → Consumes mid after bytes → Appends d g (converted w (whole_pieces w piece bytes)) → Appends f h (told w place (whole_pieces w piece bytes))
      → said ≡ has_line (told w place (whole_pieces w piece bytes)) → next ≡ begun_piece w piece bytes
      → there ≡ place_after w place (whole_pieces w piece bytes) → Reached w (refused || said) before after c g e h next there
  Reached-read after g h bytes next there said r consumes appends tells is begun goes = record {
    read = r.read ++ bytes;
    consumes = Consumes-trans before mid after r.read bytes r.consumes consumes;
    appends = subst (Appends c g) (sym (converted_more bytes r)) (Appends-trans c d g (converted_whole w r.read) (converted w (whole_pieces w piece bytes)) r.appends appends);
    tells = subst (Appends e h) (sym (told_more bytes r)) (Appends-trans e f h (told_whole w r.read) (told w place (whole_pieces w piece bytes)) r.tells tells);
    refused_is = ap has_line (told_more bytes r) ∙ has_line-append (told_whole w r.read) (told w place (whole_pieces w piece bytes))
        ∙ ap (λ t. t || has_line (told w place (whole_pieces w piece bytes))) r.refused_is ∙ ap (λ t. refused || t) (sym is);
    piece_is = begun ∙ ap (λ l. begun_piece w l bytes) r.piece_is ∙ sym (begun_piece-append w [] r.read bytes);
    place_is = goes ∙ ap (λ p. place_after w p (whole_pieces w piece bytes)) r.place_is
        ∙ ap (λ l. place_after w (place_after w first_place (whole_pieces w [] r.read)) (whole_pieces w l bytes)) r.piece_is
        ∙ sym (place_after-append w first_place (whole_pieces w [] r.read) (whole_pieces w (begun_piece w [] r.read) bytes))
        ∙ ap (place_after w first_place) (sym (whole_pieces-append w [] r.read bytes));
  }

  -- ---- how a run ends

  pub Ends-read_fault : (after : Option (List ℕ)) → Reached w refused before mid c d e f piece place → Keeps mid after → Ends ReadFault w before after c d e f
  Ends-read_fault after r keeps = record {
    read = r.read;
    consumes = Consumes-kept before mid after r.read r.consumes keeps;
    appends = r.appends;
    tells = r.tells;
  }

  -- of what would be made of these bytes a front was written
  pub Front-of : (after g h : Option (List ℕ)) (bytes : List ℕ) → Reached w refused before mid c d e f piece place → Consumes mid after bytes
      → Fronts (converted w (whole_pieces w piece bytes)) (told w place (whole_pieces w piece bytes)) d g f h → ConvertedFront w before after c g e h
  Front-of after g h bytes r consumes p = record {
    read = r.read ++ bytes;
    consumes = Consumes-trans before mid after r.read bytes r.consumes consumes;
    front = inl (record {
      out = record {
        written = converted_whole w r.read ++ p.out.written;
        unwritten = p.out.unwritten;
        appends = Appends-trans c d g (converted_whole w r.read) p.out.written r.appends p.out.appends;
        whole = converted_more bytes r ∙ ap (λ l. converted_whole w r.read ++ l) p.out.whole ∙ sym (append_assoc (converted_whole w r.read) p.out.written p.out.unwritten);
      };
      told = record {
        written = told_whole w r.read ++ p.told.written;
        unwritten = p.told.unwritten;
        appends = Appends-trans e f h (told_whole w r.read) p.told.written r.tells p.told.appends;
        whole = told_more bytes r ∙ ap (λ l. told_whole w r.read ++ l) p.told.whole ∙ sym (append_assoc (told_whole w r.read) p.told.written p.told.unwritten);
      };
    });
  }

  -- a run that stopped behind these bytes, of which some pieces were converted
  pub Ends-stopped : {X E : Type 0} (result : Result X E) (q : Place) (old_out out old_lines lines : List ℕ) (after g h : Option (List ℕ)) (bytes : List ℕ)
      → Reached w refused before mid c d e f piece place → Consumes mid after bytes → old_out ≡ [] → old_lines ≡ []
      → OnOk result (Took w place q (whole_pieces w piece bytes) [] old_out out old_lines lines)
      → OnErr result ((left : List (List ℕ)) × Took w place q (whole_pieces w piece bytes) left old_out out old_lines lines)
      → Fronts out lines d g f h → ConvertedFront w before after c g e h
  Ends-stopped result q old_out out old_lines lines after g h bytes r consumes no_out no_lines ok err p =
      let t = either_took result w place q (whole_pieces w piece bytes) old_out out old_lines lines ok err in
      Front-of after g h bytes r consumes (record {
        out = Front-longer (converted w t.0) (converted w (whole_pieces w piece bytes)) p.out (Took-front t.0 t.1 no_out);
        told = Front-longer (told w q t.0) (told w place (whole_pieces w piece bytes)) p.told (Took-front_lines t.0 t.1 no_lines);
      })

  -- a run that found no memory behind these bytes, and wrote what was made
  pub Ends-short : (q : Place) (left : List (List ℕ)) (old_out out old_lines lines : List ℕ) (after g h : Option (List ℕ)) (bytes : List ℕ)
      → Reached w refused before mid c d e f piece place → Consumes mid after bytes → old_out ≡ [] → old_lines ≡ []
      → Took w place q (whole_pieces w piece bytes) left old_out out old_lines lines → Appends d g out → Appends f h lines
      → length bytes ≤ READ_ROOM → ConvertedFirst w before after c g e h
  Ends-short q left old_out out old_lines lines after g h bytes r consumes no_out no_lines t appends tells few =
      let out_is : out ≡ converted w t.done = t.out ∙ ap (λ l. l ++ converted w t.done) no_out in
      let lines_are : lines ≡ told w place t.done = t.lines ∙ ap (λ l. l ++ told w place t.done) no_lines in
      let whole = whole_pieces w [] r.read in
      record {
        read = r.read ++ bytes;
        done = whole ++ t.done;
        rest = left;
        consumes = Consumes-trans before mid after r.read bytes r.consumes consumes;
        pieces = whole_pieces-append w [] r.read bytes ∙ ap (λ l. whole ++ whole_pieces w l bytes) (sym r.piece_is)
            ∙ ap (λ l. whole ++ l) t.whole ∙ sym (append_assoc whole t.done left);
        has_earlier = record { earlier = r.read; last = bytes; more = t.done; parts = refl; few = few; done_are = refl };
        appends = subst (Appends c g) (sym (converted-append w whole t.done))
            (Appends-trans c d g (converted_whole w r.read) (converted w t.done) r.appends (subst (Appends d g) out_is appends));
        tells = subst (Appends e h) (sym (told-append w first_place whole t.done ∙ ap (λ p. told_whole w r.read ++ told w p t.done) (sym r.place_is)))
            (Appends-trans e f h (told_whole w r.read) (told w place t.done) r.tells (subst (Appends f h) lines_are tells));
      }

  -- a run that took all pieces of these bytes
  pub Reached-took : (q : Place) (old_out out old_lines lines next : List ℕ) (said : Bool) (after g h : Option (List ℕ)) (bytes : List ℕ)
      → Reached w refused before mid c d e f piece place → Consumes mid after bytes → old_out ≡ [] → old_lines ≡ []
      → Took w place q (whole_pieces w piece bytes) [] old_out out old_lines lines → Appends d g out → Appends f h lines → said ≡ has_line lines
      → next ≡ begun_piece w piece bytes → Reached w (refused || said) before after c g e h next q
  Reached-took q old_out out old_lines lines next said after g h bytes r consumes no_out no_lines t appends tells is begun =
      let out_is : out ≡ converted w (whole_pieces w piece bytes) = Took-out t ∙ ap (λ l. l ++ converted w (whole_pieces w piece bytes)) no_out in
      let lines_are : lines ≡ told w place (whole_pieces w piece bytes) = Took-lines t ∙ ap (λ l. l ++ told w place (whole_pieces w piece bytes)) no_lines in
      Reached-read after g h bytes next q said r consumes (subst (Appends d g) out_is appends) (subst (Appends f h) lines_are tells)
      (is ∙ ap has_line lines_are) begun (Took-place t)

  -- the same of what is left at the end of the text
  front_at_end : (after g h : Option (List ℕ)) → Reached w refused before mid c d e f piece place → Consumes mid after [] → IsAtEnd after
      → Fronts (converted w (last_piece piece)) (told w place (last_piece piece)) d g f h → ConvertedFront w before after c g e h
  front_at_end after g h r consumes end p = record {
    read = r.read;
    consumes = subst (Consumes before after) (append-nil r.read) (Consumes-trans before mid after r.read [] r.consumes consumes);
    front = inr (
      end,
      record {
        out = record {
          written = converted_whole w r.read ++ p.out.written;
          unwritten = p.out.unwritten;
          appends = Appends-trans c d g (converted_whole w r.read) p.out.written r.appends p.out.appends;
          whole = converted_last r ∙ ap (λ l. converted_whole w r.read ++ l) p.out.whole ∙ sym (append_assoc (converted_whole w r.read) p.out.written p.out.unwritten);
        };
        told = record {
          written = told_whole w r.read ++ p.told.written;
          unwritten = p.told.unwritten;
          appends = Appends-trans e f h (told_whole w r.read) p.told.written r.tells p.told.appends;
          whole = told_last r ∙ ap (λ l. told_whole w r.read ++ l) p.told.whole ∙ sym (append_assoc (told_whole w r.read) p.told.written p.told.unwritten);
        };
      },
    );
  }

  -- nothing of it was written or told
  none_at_end : (after g h : Option (List ℕ)) → Reached w refused before mid c d e f piece place → Consumes mid after [] → (g ≡ d) × (h ≡ f)
      → ConvertedFirst w before after c g e h
  none_at_end after g h r consumes (same, same_lines) = record {
    read = r.read;
    done = whole_pieces w [] r.read;
    rest = [];
    consumes = subst (Consumes before after) (append-nil r.read) (Consumes-trans before mid after r.read [] r.consumes consumes);
    pieces = sym (append-nil (whole_pieces w [] r.read));
    has_earlier = record {
      earlier = r.read;
      last = [];
      more = [];
      parts = sym (append-nil r.read);
      few = omega arith;
      done_are = sym (append-nil (whole_pieces w [] r.read));
    };
    appends = subst (λ n. Appends c n (converted_whole w r.read)) (sym same) r.appends;
    tells = subst (λ n. Appends e n (told_whole w r.read)) (sym same_lines) r.tells;
  }

  all_at_end : (some : Bool) (after g h : Option (List ℕ)) → Reached w refused before mid c d e f piece place → Consumes mid after [] → IsAtEnd after
      → Finished w some refused place piece d g f h → ConvertedAll w some before after c g e h
  all_at_end some after g h r consumes end p = record {
    read = r.read;
    consumes = subst (Consumes before after) (append-nil r.read) (Consumes-trans before mid after r.read [] r.consumes consumes);
    all = end;
    appends = subst (Appends c g) (sym (converted_last r)) (Appends-trans c d g (converted_whole w r.read) (converted w (last_piece piece)) r.appends p.appends);
    tells = subst (Appends e h) (sym (told_last r)) (Appends-trans e f h (told_whole w r.read) (told w place (last_piece piece)) r.tells p.tells);
    refused_is = ap has_line (told_last r) ∙ has_line-append (told_whole w r.read) (told w place (last_piece piece))
        ∙ ap (λ t. t || has_line (told w place (last_piece piece))) r.refused_is ∙ p.refused_is;
  }

  pub Ends-finish : (outcome : Outcome) (after g h : Option (List ℕ)) → Reached w refused before mid c d e f piece place → Consumes mid after [] → IsAtEnd after
      → Finishes outcome w refused place piece d g f h → Ends outcome w before after c g e h
  Ends-finish Done after g h r consumes end p = all_at_end false after g h r consumes end p
  Ends-finish BadLine after g h r consumes end p = all_at_end true after g h r consumes end p
  Ends-finish ReadFault after g h r consumes end p = absurd p
  Ends-finish WriteFault after g h r consumes end p = front_at_end after g h r consumes end p
  Ends-finish NoMemory after g h r consumes end p = none_at_end after g h r consumes p
