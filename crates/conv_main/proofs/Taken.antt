-- Pieces of texts, and what was taken of them.
use Rattle.std.proofs.Common.{◌≡◌, ◌||◌, ℕ, Bool, true, false, cond, List, [], ◌∷◌, ◌++◌, Result, Ok, Err, refl, sym, ap, ◌∙◌, subst, append_assoc, append-nil}
use Rattle.std.specs.Prelude.{OnErr, OnOk}
use Rattle.std.proofs.lemmas.Grind.{flat_map-append}
use Rattle.conv_main.specs.Converted.{converted, converted_piece, place_after, place_behind, told, told_piece}
use Rattle.conv_main.specs.Ends.{has_line}
use Rattle.conv_main.specs.Pieces.{begun_piece, is_whole, whole_pieces}
use Rattle.conv_main.specs.Progress.{Took}
use Rattle.conv_main.specs.declared.way.Place.{Place}
use Rattle.conv_main.specs.declared.way.Way.{Way}

-- ---- pieces

pub whole_pieces-append : (w : Way) (begun xs ys : List ℕ)
    → whole_pieces w begun (xs ++ ys) ≡ whole_pieces w begun xs ++ whole_pieces w (begun_piece w begun xs) ys
whole_pieces-append w begun [] ys = refl
whole_pieces-append w begun (b ∷ bs) ys = elim (is_whole w (begun ++ b ∷ [])) as (λ t.
    cond t ((begun ++ b ∷ []) ∷ whole_pieces w [] (bs ++ ys)) (whole_pieces w (begun ++ b ∷ []) (bs ++ ys))
    ≡ cond t ((begun ++ b ∷ []) ∷ whole_pieces w [] bs) (whole_pieces w (begun ++ b ∷ []) bs)
    ++ whole_pieces w (cond t (begun_piece w [] bs) (begun_piece w (begun ++ b ∷ []) bs)) ys) [
      | true ↦ ap (λ l. (begun ++ b ∷ []) ∷ l) (whole_pieces-append w [] bs ys)
      | false ↦ whole_pieces-append w (begun ++ b ∷ []) bs ys
    ]

pub begun_piece-append : (w : Way) (begun xs ys : List ℕ) → begun_piece w begun (xs ++ ys) ≡ begun_piece w (begun_piece w begun xs) ys
begun_piece-append w begun [] ys = refl
begun_piece-append w begun (b ∷ bs) ys = elim (is_whole w (begun ++ b ∷ [])) as (λ t.
    cond t (begun_piece w [] (bs ++ ys)) (begun_piece w (begun ++ b ∷ []) (bs ++ ys))
    ≡ begun_piece w (cond t (begun_piece w [] bs) (begun_piece w (begun ++ b ∷ []) bs)) ys) [
      | true ↦ begun_piece-append w [] bs ys
      | false ↦ begun_piece-append w (begun ++ b ∷ []) bs ys
    ]

pub place_after-append : (w : Way) (p : Place) (xs ys : List (List ℕ)) → place_after w p (xs ++ ys) ≡ place_after w (place_after w p xs) ys
place_after-append w p [] ys = refl
place_after-append w p (x ∷ xs) ys = place_after-append w (place_behind w p x) xs ys

pub told-append : (w : Way) (p : Place) (xs ys : List (List ℕ)) → told w p (xs ++ ys) ≡ told w p xs ++ told w (place_after w p xs) ys
told-append w p [] ys = refl
told-append w p (x ∷ xs) ys =
    ap (λ l. told_piece w p x ++ l) (told-append w (place_behind w p x) xs ys)
    ∙ sym (append_assoc (told_piece w p x) (told w (place_behind w p x) xs) (told w (place_after w (place_behind w p x) xs) ys))

pub converted-append : (w : Way) (xs ys : List (List ℕ)) → converted w (xs ++ ys) ≡ converted w xs ++ converted w ys
converted-append w xs ys = flat_map-append (converted_piece w) xs ys

pub has_line-append : (xs ys : List ℕ) → has_line (xs ++ ys) ≡ (has_line xs || has_line ys)
has_line-append [] ys = refl
has_line-append (x ∷ xs) ys = refl

-- ---- what was taken of some pieces

-- one piece more
pub Took-piece : {w : Way} {p q r : Place} {pieces rest : List (List ℕ)} {a b c d b2 d2 : List ℕ} (x : List ℕ) → Took w p q pieces (x ∷ rest) a b c d
    → r ≡ place_behind w q x → b2 ≡ b ++ converted_piece w x → d2 ≡ d ++ told_piece w q x → Took w p r pieces rest a b2 c d2
Took-piece {w} {p} {q} {r} {pieces} {rest} {a} {b} {c} {d} {b2} {d2} x t place out lines = record {
  done = t.done ++ x ∷ [];
  whole = t.whole ∙ sym (append_assoc t.done (x ∷ []) rest);
  place = place ∙ ap (λ o. place_behind w o x) t.place ∙ sym (place_after-append w p t.done (x ∷ []));
  out = out ∙ ap (λ l. l ++ converted_piece w x) t.out ∙ append_assoc a (converted w t.done) (converted_piece w x)
      ∙ ap (λ l. a ++ (converted w t.done ++ l)) (sym (append-nil (converted_piece w x)))
      ∙ ap (λ l. a ++ l) (sym (converted-append w t.done (x ∷ [])));
  lines = lines ∙ ap (λ l. l ++ told_piece w q x) t.lines ∙ append_assoc c (told w p t.done) (told_piece w q x)
      ∙ ap (λ o. c ++ (told w p t.done ++ told_piece w o x)) t.place
      ∙ ap (λ l. c ++ (told w p t.done ++ l)) (sym (append-nil (told_piece w (place_after w p t.done) x)))
      ∙ ap (λ l. c ++ l) (sym (told-append w p t.done (x ∷ [])));
}

-- the pieces that are taken, where none is left
pub all_done : {w : Way} {p q : Place} {pieces : List (List ℕ)} {a b c d : List ℕ} (t : Took w p q pieces [] a b c d) → t.done ≡ pieces
all_done t = sym (t.whole ∙ append-nil t.done)

pub Took-out : {w : Way} {p q : Place} {pieces : List (List ℕ)} {a b c d : List ℕ} → Took w p q pieces [] a b c d → b ≡ a ++ converted w pieces
Took-out {w} {a = a} t = t.out ∙ ap (λ l. a ++ converted w l) (all_done t)

pub Took-lines : {w : Way} {p q : Place} {pieces : List (List ℕ)} {a b c d : List ℕ} → Took w p q pieces [] a b c d → d ≡ c ++ told w p pieces
Took-lines {w} {p} {c = c} t = t.lines ∙ ap (λ l. c ++ told w p l) (all_done t)

pub Took-place : {w : Way} {p q : Place} {pieces : List (List ℕ)} {a b c d : List ℕ} → Took w p q pieces [] a b c d → q ≡ place_after w p pieces
Took-place {w} {p} t = t.place ∙ ap (place_after w p) (all_done t)

pub Took-same : {w : Way} {p q r : Place} {pieces rest : List (List ℕ)} {a b c d b2 d2 : List ℕ} → Took w p q pieces rest a b c d
    → r ≡ q → b2 ≡ b → d2 ≡ d → Took w p r pieces rest a b2 c d2
Took-same t place out lines = record { done = t.done; whole = t.whole; place = place ∙ t.place; out = out ∙ t.out; lines = lines ∙ t.lines }

-- what was taken, where there was an error
pub took_error : {X E : Type 0} (r : Result X E) {w : Way} {p q : Place} {pieces rest : List (List ℕ)} {a b c d : List ℕ} → Took w p q pieces rest a b c d
    → OnErr r ((left : List (List ℕ)) × Took w p q pieces left a b c d)
took_error (Ok x) t = tt
took_error (Err e) {rest = rest} t = (rest, t)

-- and in either case
pub either_took : {X E : Type 0} (r : Result X E) (w : Way) (p q : Place) (pieces : List (List ℕ)) (a b c d : List ℕ) → OnOk r (Took w p q pieces [] a b c d)
    → OnErr r ((left : List (List ℕ)) × Took w p q pieces left a b c d) → (left : List (List ℕ)) × Took w p q pieces left a b c d
either_took (Ok x) w p q pieces a b c d ok err = ([], ok)
either_took (Err e) w p q pieces a b c d ok err = err

-- a byte more
pieces-step : (w : Way) (begun : List ℕ) (b : ℕ) (bs : List ℕ) (t : Bool) → t ≡ is_whole w (begun ++ b ∷ [])
    → whole_pieces w begun (b ∷ bs) ≡ cond t ((begun ++ b ∷ []) ∷ whole_pieces w [] bs) (whole_pieces w (begun ++ b ∷ []) bs)
pieces-step w begun b bs t is = ap (λ u. cond u ((begun ++ b ∷ []) ∷ whole_pieces w [] bs) (whole_pieces w (begun ++ b ∷ []) bs)) (sym is)

begun-step : (w : Way) (begun : List ℕ) (b : ℕ) (bs : List ℕ) (t : Bool) → t ≡ is_whole w (begun ++ b ∷ [])
    → begun_piece w begun (b ∷ bs) ≡ cond t (begun_piece w [] bs) (begun_piece w (begun ++ b ∷ []) bs)
begun-step w begun b bs t is = ap (λ u. cond u (begun_piece w [] bs) (begun_piece w (begun ++ b ∷ []) bs)) (sym is)

-- it ends a piece
pub Took-ended : {w : Way} {p q r : Place} {pieces : List (List ℕ)} {a b c d b2 d2 : List ℕ} (begun pushed next bs : List ℕ) (byte : ℕ)
    → Took w p q pieces (whole_pieces w begun (byte ∷ bs)) a b c d → pushed ≡ begun ++ byte ∷ [] → is_whole w pushed ≡ true → next ≡ []
    → r ≡ place_behind w q pushed → b2 ≡ b ++ converted_piece w pushed → d2 ≡ d ++ told_piece w q pushed
    → Took w p r pieces (whole_pieces w next bs) a b2 c d2
Took-ended {w} {p} {q} {r} {pieces} {a} {b} {c} {d} {b2} {d2} begun pushed next bs byte t push whole none place out lines =
    let step = pieces-step w begun byte bs true (sym (ap (is_whole w) (sym push) ∙ whole)) in
    Took-piece (begun ++ byte ∷ []) (subst (λ l. Took w p q pieces l a b c d) (step ∙ ap (λ l. (begun ++ byte ∷ []) ∷ whole_pieces w l bs) (sym none)) t)
    (place ∙ ap (place_behind w q) push) (out ∙ ap (λ l. b ++ converted_piece w l) push) (lines ∙ ap (λ l. d ++ told_piece w q l) push)

pub begun-ended : (w : Way) (begun pushed next bs : List ℕ) (byte : ℕ) → pushed ≡ begun ++ byte ∷ [] → is_whole w pushed ≡ true → next ≡ []
    → begun_piece w begun (byte ∷ bs) ≡ begun_piece w next bs
begun-ended w begun pushed next bs byte push whole none =
    begun-step w begun byte bs true (sym (ap (is_whole w) (sym push) ∙ whole)) ∙ ap (λ l. begun_piece w l bs) (sym none)

-- or goes on with it
pub Took-going : {w : Way} {p q : Place} {pieces : List (List ℕ)} {a b c d : List ℕ} (begun pushed bs : List ℕ) (byte : ℕ)
    → Took w p q pieces (whole_pieces w begun (byte ∷ bs)) a b c d → pushed ≡ begun ++ byte ∷ [] → is_whole w pushed ≡ false
    → Took w p q pieces (whole_pieces w pushed bs) a b c d
Took-going {w} {p} {q} {pieces} {a} {b} {c} {d} begun pushed bs byte t push whole =
    let step = pieces-step w begun byte bs false (sym (ap (is_whole w) (sym push) ∙ whole)) in
    subst (λ l. Took w p q pieces l a b c d) (step ∙ ap (λ l. whole_pieces w l bs) (sym push)) t

pub begun-going : (w : Way) (begun pushed bs : List ℕ) (byte : ℕ) → pushed ≡ begun ++ byte ∷ [] → is_whole w pushed ≡ false
    → begun_piece w begun (byte ∷ bs) ≡ begun_piece w pushed bs
begun-going w begun pushed bs byte push whole =
    begun-step w begun byte bs false (sym (ap (is_whole w) (sym push) ∙ whole)) ∙ ap (λ l. begun_piece w l bs) (sym push)

-- what was made of some pieces is a front of what is made of all
pub Took-front : {w : Way} {p q : Place} {pieces : List (List ℕ)} {a b c d : List ℕ} (rest : List (List ℕ)) → Took w p q pieces rest a b c d → a ≡ []
    → converted w pieces ≡ b ++ converted w rest
Took-front {w} {b = b} rest t none =
    let is = t.out ∙ ap (λ l. l ++ converted w t.done) none in
    ap (converted w) t.whole ∙ converted-append w t.done rest ∙ ap (λ l. l ++ converted w rest) (sym is)

pub Took-front_lines : {w : Way} {p q : Place} {pieces : List (List ℕ)} {a b c d : List ℕ} (rest : List (List ℕ)) → Took w p q pieces rest a b c d → c ≡ []
    → told w p pieces ≡ d ++ told w q rest
Took-front_lines {w} {p} {q} {d = d} rest t none =
    let is = t.lines ∙ ap (λ l. l ++ told w p t.done) none in
    ap (told w p) t.whole ∙ told-append w p t.done rest ∙ ap (λ o. told w p t.done ++ told w o rest) (sym t.place) ∙ ap (λ l. l ++ told w q rest) (sym is)
