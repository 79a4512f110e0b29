-- Texts that grow at their end.
use Rattle.std.proofs.Common.{◌≡◌, ◌∙◌, ℕ, suc, ◌+◌, ◌≤◌, ◌<◌, false, List, [], ◌∷◌, ◌++◌, Result, Ok, Err, slice_index, length, take, drop, take-append-drop, ap, sym, subst, arith}
use Rattle.std.specs.Prelude.{OnErr, OnOk, is_err}
use Rattle.std.proofs.lemmas.Bool.{true≢false}
use Rattle.std.proofs.lemmas.List.{length-take, take-append-le}
use Rattle.std.proofs.Math.Seq.{drop-cons, take-add, take-length}
use Rattle.conv_main.specs.Progress.{Begins}

pub begins_self : (old : List ℕ) → Begins old old
begins_self old = take-length old

no_longer : (old new : List ℕ) → Begins old new → length old ≤ length new
no_longer old new begins =
    let size = ap length begins in let least = length-take (length old) new in omega (arith, size, least)

pub begins_more : (old new more : List ℕ) → Begins old new → Begins old (new ++ more)
begins_more old new more begins = take-append-le (length old) new more (no_longer old new begins) ∙ begins

pub begins_on : (old mid new : List ℕ) → Begins old mid → Begins mid new → Begins old new
begins_on old mid new begins goes_on =
    let parts : mid ++ drop (length mid) new ≡ new = ap (λ l. l ++ drop (length mid) new) (sym goes_on) ∙ take-append-drop (length mid) new in
    subst (Begins old) parts (begins_more old mid (drop (length mid) new) begins)

-- a text from a place on, and up to one
pub dropped_one : (text : List ℕ) (i : ℕ) → i < length text → drop i text ≡ slice_index text i ∷ drop (i + 1) text
dropped_one text i within =
    let one : suc i ≡ i + 1 = omega arith in drop-cons text i 0 within ∙ ap (λ n. slice_index text i ∷ drop n text) one

pub taken_one : (text : List ℕ) (i : ℕ) → i < length text → take i text ++ slice_index text i ∷ [] ≡ take (i + 1) text
taken_one text i within =
    sym (take-add i 1 text ∙ ap (λ l. take i text ++ take 1 l) (dropped_one text i within))

-- ---- what holds of an error

pub begins_too : {X E : Type 0} (r : Result X E) (old mid new : List ℕ) → Begins old mid → OnErr r (Begins mid new) → OnErr r (Begins old new)
begins_too (Ok x) old mid new begins p = tt
begins_too (Err e) old mid new begins p = begins_on old mid new begins p

-- and of what is none
pub from_ok : {X E : Type 0} (r : Result X E) (P : Type 0) → is_err r ≡ false → OnOk r P → P
from_ok (Ok x) P fine p = p
from_ok (Err e) P fine p = absurd (true≢false fine)
