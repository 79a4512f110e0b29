-- How what was read is parted into lines.
use Rattle.std.proofs.Common.{◌≡◌, ◌≢◌, ◌∙◌, ◌||◌, ◌==◌, ◌+◌, ◌-◌, ◌^◌, ◌<◌, ◌≤◌, ℕ, suc, Bool, true, false, List, [], ◌∷◌, ◌++◌, Option, Some, None, length, take, drop, refl, sym, ap, subst, append_assoc, append-nil, length-append, length-take-le, take-append-drop, arith}
use Rattle.std.specs.Prelude.{position}
use Rattle.std.proofs.lemmas.List.{drop-drop, drop-take, length-take}
use Rattle.std.specs.Io.KnownBytes.{Consumes, Keeps}
use Rattle.std.proofs.KnownBytes.{Consumes-kept, Consumes-nil, Consumes-trans}
use Rattle.event_file.specs.Lines.{first_line, has_newline, is_newline}
use Rattle.event_file.proofs.LineLemmas.{first_line-no_newline, has_newline-append, newline_at, take-first_line}
use Rattle.program_ends.specs.Reads.{HasRead}
use Rattle.line_reader.specs.Given.{Needed, Parted, Spent, TookLine}
use Rattle.line_reader.specs.declared.reader.TheConstants.{READ_ROOM}

both_lack : (xs ys : List ℕ) → has_newline xs ≡ false → has_newline ys ≡ false → has_newline (xs ++ ys) ≡ false
both_lack xs ys p q = has_newline-append xs ys ∙ ap (λ t. t || has_newline ys) p ∙ q

-- the line goes on up to a newline
pub Parted-line : {a b : Option (List ℕ)} {old line behind : List ℕ} (front rest : List ℕ) → Parted a b old line behind
    → behind ≡ front ++ 10 ∷ rest → has_newline front ≡ false → Parted a b old (line ++ front) (10 ∷ rest)
Parted-line {line = line} front rest p is none = record {
  read = p.read;
  consumes = p.consumes;
  parts = p.parts ∙ ap (λ x. line ++ x) is ∙ sym (append_assoc line front (10 ∷ rest));
  whole = both_lack line front p.whole none;
}

-- all that was read is of the line
pub Parted-all : {a b : Option (List ℕ)} {old line behind : List ℕ} → Parted a b old line behind → has_newline behind ≡ false
    → Parted a b old (line ++ behind) []
Parted-all {line = line} {behind = behind} p none = record {
  read = p.read;
  consumes = p.consumes;
  parts = p.parts ∙ sym (append-nil (line ++ behind));
  whole = both_lack line behind p.whole none;
}

-- by what was taken
pub Parted-ended : {a b : Option (List ℕ)} {old line behind : List ℕ} (ended : Bool) (next new : List ℕ) → ended ≡ true → TookLine ended behind next line new
    → Parted a b old line behind → Parted a b old new (10 ∷ next)
Parted-ended {a} {b} {old} true next new is (front, parts, none, new_is) p =
    subst (λ l. Parted a b old l (10 ∷ next)) (sym new_is) (Parted-line front next p parts none)
Parted-ended false next new is took p = absurd (cc)

pub Parted-unended : {a b : Option (List ℕ)} {old line behind : List ℕ} (ended : Bool) (next new : List ℕ) → ended ≡ false → TookLine ended behind next line new
    → Parted a b old line behind → Parted a b old new []
Parted-unended {a} {b} {old} false next new is (new_is, none, empty) p = subst (λ l. Parted a b old l []) (sym new_is) (Parted-all p none)
Parted-unended true next new is took p = absurd (cc)

-- more is read
pub Parted-more : {a b c : Option (List ℕ)} {old line : List ℕ} (new : List ℕ) → Parted a b old line [] → Consumes b c new → Parted a c old line new
Parted-more {a} {b} {c} {old} {line} new p consumes = record {
  read = p.read ++ new;
  consumes = Consumes-trans a b c p.read new p.consumes consumes;
  parts = sym (append_assoc old p.read new) ∙ ap (λ x. x ++ new) (p.parts ∙ append-nil line);
  whole = p.whole;
}

pub Parted-kept : {a b c : Option (List ℕ)} {old line behind : List ℕ} → Parted a b old line behind → Keeps b c → Parted a c old line behind
Parted-kept {a} {b} {c} p keeps = record { read = p.read; consumes = Consumes-kept a b c p.read p.consumes keeps; parts = p.parts; whole = p.whole }

-- a read is needed where all that has come is of the line
pub Needed-read : {a b c : Option (List ℕ)} {old line : List ℕ} (new : List ℕ) → Parted a b old line [] → Consumes b c new → length new ≤ READ_ROOM
    → Needed a c old
Needed-read {b = b} {line = line} new p consumes few = record {
  mid = b;
  early = p.read;
  last = new;
  first = p.consumes;
  then = consumes;
  none = ap has_newline (p.parts ∙ append-nil line) ∙ p.whole;
  one_read = few;
}

-- one that failed brought nothing
pub Needed-failed : {a b c : Option (List ℕ)} {old line : List ℕ} → Parted a b old line [] → Keeps b c → Needed a c old
Needed-failed {a} {b} {c} p keeps = Needed-read [] p (Consumes-kept b b c [] (Consumes-nil b) keeps) (omega arith)

-- at least one byte more was read
pub HasRead-one : {n : ℕ} {a b c : Option (List ℕ)} (new : List ℕ) → HasRead n a b → Consumes b c new → 1 ≤ length new → HasRead (n + 1) a c
HasRead-one {n} {a} {b} {c} new p consumes some = record {
  read = p.read ++ new;
  consumes = Consumes-trans a b c p.read new p.consumes consumes;
  many = omega (arith, p.many, length-append p.read new, some);
}

-- all reads of a call were made
pub HasRead-last : {a b : Option (List ℕ)} (n : ℕ) → 2 ^ 64 - 1 ≤ n → n ≤ 2 ^ 64 - 1 → HasRead n a b → Spent a b
HasRead-last {a} {b} n low high p = record { read = p.read; consumes = p.consumes; many = omega (arith, p.many, low) }

-- ---- what stands in a chunk from a place on

-- behind so many bytes more
pub ahead_after : (chunk : List ℕ) (at end n : ℕ) → n ≤ end - at → drop n (take (end - at) (drop at chunk)) ≡ take (end - (at + n)) (drop (at + n) chunk)
ahead_after chunk at end n within =
    let parts : end - at ≡ n + (end - (at + n)) = omega (arith, within) in
    ap (λ k. drop n (take k (drop at chunk))) parts ∙ drop-take n (end - (at + n)) (drop at chunk) ∙ ap (take (end - (at + n))) (drop-drop n at chunk)

-- a first newline cuts bytes
pub cut_at : (bytes : List ℕ) (place : ℕ) → position is_newline bytes ≡ Some place
    → (place < length bytes) × (has_newline (take place bytes) ≡ false) × (bytes ≡ take place bytes ++ 10 ∷ drop (place + 1) bytes)
cut_at bytes place found =
    let p = newline_at bytes (Some place) (sym found) in
    let len : length (first_line bytes) ≡ place = ap length p.2 ∙ length-take-le place bytes (omega (arith, p.0)) in
    let front : take (suc place) bytes ≡ take place bytes ++ 10 ∷ [] =
    ap (λ n. take (suc n) bytes) (sym len) ∙ take-first_line bytes p.1 ∙ ap (λ l. l ++ 10 ∷ []) p.2 in
    let next : suc place ≡ place + 1 = omega arith in (
      p.0,
      ap has_newline (sym p.2) ∙ first_line-no_newline bytes,
      sym (take-append-drop (suc place) bytes) ∙ ap (λ l. l ++ drop (suc place) bytes) front
          ∙ append_assoc (take place bytes) (10 ∷ []) (drop (suc place) bytes) ∙ ap (λ n. take place bytes ++ 10 ∷ drop n bytes) next,
    )

-- and those of a chunk from a place on
pub line_cut : (chunk bytes : List ℕ) (at end place : ℕ) → bytes ≡ take (end - at) (drop at chunk) → position is_newline bytes ≡ Some place
    → (has_newline (take place bytes) ≡ false) × (bytes ≡ take place bytes ++ 10 ∷ take (end - (at + place + 1)) (drop (at + place + 1) chunk))
line_cut chunk bytes at end place is found =
    let cut = cut_at bytes place found in
    let size : length bytes ≤ end - at = omega (arith, ap length is, length-take (end - at) (drop at chunk)) in
    let sum : at + (place + 1) ≡ at + place + 1 = omega arith in
    let rest : drop (place + 1) bytes ≡ take (end - (at + place + 1)) (drop (at + place + 1) chunk) =
    ap (drop (place + 1)) is ∙ ahead_after chunk at end (place + 1) (omega (arith, cut.0, size)) ∙ ap (λ n. take (end - n) (drop n chunk)) sum in
    (cut.1, cut.2 ∙ ap (λ l. take place bytes ++ 10 ∷ l) rest)

pub line_uncut : (bytes : List ℕ) → position is_newline bytes ≡ None → has_newline bytes ≡ false
line_uncut bytes none = (newline_at bytes None (sym none)).0

pub nothing_ahead : (chunk : List ℕ) (end : ℕ) → take (end - end) (drop end chunk) ≡ []
nothing_ahead chunk end = let none : end - end ≡ 0 = omega arith in ap (λ n. take n (drop end chunk)) none

-- ---- what one read brings

pub nothing_new : (xs : List ℕ) (n : ℕ) → n ≡ length xs → n ≡ 0 → xs ≡ []
nothing_new [] n is none = refl
nothing_new (x ∷ xs) n is none = absurd (omega (arith, is, none))

pub is_begun : (xs : List ℕ) → (length xs == 0) ≡ false → xs ≢ []
is_begun [] none empty = absurd (cc)
is_begun (x ∷ xs) none empty = absurd (cc)
