-- How what is shown of the parts of a text is put together, and the steps of a run.
use Rattle.std.proofs.Common.{◌≡◌, ◌⊎◌, ◌||◌, ℕ, true, false, cond, List, [], ◌∷◌, ◌++◌, Option, Some, None, Result, Ok, Err, refl, sym, ap, ◌∙◌, subst, append_assoc, append-nil, inl, inr, ◌+◌, length, length-take-le, take, drop, take-append-drop, length-append, suc, ◌<◌, ◌≤◌, arith}
use Rattle.std.specs.Prelude.{IfErr, IfSome}
use Rattle.std.specs.Result.{IsErrAnd}
use Rattle.std.specs.Io.KnownBytes.{Appends, Consumes, IsAtEnd, Keeps}
use Rattle.std.proofs.KnownBytes.{Appends-nil, Appends-trans, Consumes-kept, Consumes-nil, Consumes-trans, Consumes-whole}
use Rattle.std.proofs.lemmas.Grind.{flat_map-append}
use Rattle.event_file.specs.Counts.{Counts}
use Rattle.event_file.specs.Lines.{begun_line, ended_lines, first_line, has_newline, lines_of}
use Rattle.event_file.specs.Output.{Wrote, WroteFront}
use Rattle.event_file.proofs.Fronts.{Wrote-then}
use Rattle.event_file.proofs.LineLemmas.{begun_line-end, begun_line-more, ended_lines-append, ended_lines-end, ended_lines-more, has_newline-append, lines_of-ended, lines_of-line, take-first_line}
use Rattle.program_ends.proofs.ReadLemmas.{Appends-kept}
use Rattle.program_ends.specs.declared.outcome.Outcome.{Outcome}
use Rattle.program_ends.specs.declared.outcome.Outcome.TheVariants.{Done, BadLine, ReadFault, WriteFault, NoMemory}
use Rattle.show_main.specs.declared.lines.Fault.{Fault}
use Rattle.show_main.specs.declared.lines.Fault.TheVariants as fault
use Rattle.show_main.specs.Ends.{Ends, EndsCounted, ShowedFirst, ShowedFrontOf, WroteFrontOf}
use Rattle.show_main.specs.Faults.{ShowedFront, ShowedLines, failures_of}
use Rattle.show_main.specs.Progress.{Finishes, Reached}
use Rattle.show_main.specs.Shown.{shown_ended, shown_line, shown_lines, shown_text, whole_lines}

-- ---- a text in parts

-- what has come of a line does not depend on the lines before it
pub begun_line-append : (xs ys : List ℕ) → begun_line (xs ++ ys) ≡ begun_line (begun_line xs ++ ys)
begun_line-append [] ys = refl
begun_line-append (b ∷ bs) ys = elim (has_newline (b ∷ bs)) as (λ t. has_newline (b ∷ bs) ≡ t
    → begun_line (b ∷ (bs ++ ys)) ≡ begun_line (cond t (begun_line bs) (b ∷ bs) ++ ys)) [
      | true ↦ λ has.
          ap (λ t. cond t (begun_line (bs ++ ys)) (b ∷ (bs ++ ys))) (has_newline-append (b ∷ bs) ys ∙ ap (λ t. t || has_newline ys) has)
          ∙ begun_line-append bs ys
      | false ↦ λ _. refl
    ] refl

-- the whole lines of two texts, one behind the other
pub whole_lines-append : (xs ys : List ℕ) → whole_lines (xs ++ ys) ≡ whole_lines xs ++ whole_lines (begun_line xs ++ ys)
whole_lines-append xs ys = ap lines_of (ended_lines-append xs ys) ∙ lines_of-ended xs (ended_lines (begun_line xs ++ ys))

-- bytes without a newline end no line
pub whole_lines-none : (xs : List ℕ) → has_newline xs ≡ false → whole_lines xs ≡ []
whole_lines-none xs none = ap lines_of (ended_lines-more [] xs none)

-- a line that ends, and those behind it
pub whole_lines-line : (line rest : List ℕ) → has_newline line ≡ false → whole_lines (line ++ 10 ∷ rest) ≡ line ∷ whole_lines rest
whole_lines-line line rest none =
    ap whole_lines (sym (append_assoc line (10 ∷ []) rest)) ∙ whole_lines-append (line ++ 10 ∷ []) rest
    ∙ ap (λ x. whole_lines (line ++ 10 ∷ []) ++ whole_lines (x ++ rest)) (begun_line-end line)
    ∙ ap (λ ls. ls ++ whole_lines rest) (ap lines_of (ended_lines-end line) ∙ lines_of-line line [] none)

-- lines are shown alike whatever follows
shown_lines-append : (ls ms : List (List ℕ)) → shown_lines (ls ++ ms) ≡ shown_lines ls ++ shown_lines ms
shown_lines-append ls ms = flat_map-append (λ line. shown_line line (10 ∷ [])) ls ms

pub shown_ended-append : (xs ys : List ℕ) → shown_ended (xs ++ ys) ≡ shown_ended xs ++ shown_ended (begun_line xs ++ ys)
shown_ended-append xs ys = ap shown_lines (whole_lines-append xs ys) ∙ shown_lines-append (whole_lines xs) (whole_lines (begun_line xs ++ ys))

pub begun_line-line : (line rest : List ℕ) → begun_line (line ++ 10 ∷ rest) ≡ begun_line rest
begun_line-line line rest =
    ap begun_line (sym (append_assoc line (10 ∷ []) rest)) ∙ begun_line-append (line ++ 10 ∷ []) rest
    ∙ ap (λ x. begun_line (x ++ rest)) (begun_line-end line)

pub begun_line-all : (xs : List ℕ) → has_newline xs ≡ false → begun_line xs ≡ xs
begun_line-all xs none = begun_line-more [] xs none

pub no_newline-append : (xs ys : List ℕ) → has_newline xs ≡ false → has_newline ys ≡ false → has_newline (xs ++ ys) ≡ false
no_newline-append xs ys p q = has_newline-append xs ys ∙ ap (λ t. t || has_newline ys) p ∙ q

-- bytes that end the line that has begun, in their parts
pub whole_lines-parted : (line front bytes behind : List ℕ) → bytes ≡ front ++ 10 ∷ behind → has_newline line ≡ false → has_newline front ≡ false
    → whole_lines (line ++ bytes) ≡ (line ++ front) ∷ whole_lines behind
whole_lines-parted line front bytes behind is begun first =
    ap (λ x. whole_lines (line ++ x)) is ∙ ap whole_lines (sym (append_assoc line front (10 ∷ behind)))
    ∙ whole_lines-line (line ++ front) behind (no_newline-append line front begun first)

pub shown_ended-parted : (line front bytes behind : List ℕ) → bytes ≡ front ++ 10 ∷ behind → has_newline line ≡ false → has_newline front ≡ false
    → shown_ended (line ++ bytes) ≡ shown_line (line ++ front) (10 ∷ []) ++ shown_ended behind
shown_ended-parted line front bytes behind is begun first = ap shown_lines (whole_lines-parted line front bytes behind is begun first)

pub begun_line-parted : (line front bytes behind : List ℕ) → bytes ≡ front ++ 10 ∷ behind → begun_line (line ++ bytes) ≡ begun_line behind
begun_line-parted line front bytes behind is =
    ap (λ x. begun_line (line ++ x)) is ∙ ap begun_line (sym (append_assoc line front (10 ∷ behind))) ∙ begun_line-line (line ++ front) behind

-- ---- a writer that stops

module _ {T : Type 0} {contents : T → Option (List ℕ)} where
  pub ShowedFront-none : (f : Fault) (a b : Counts T) (t : List ℕ) → a ≡ b → failures_of f ≡ 0 → ShowedFront f contents a b t
  ShowedFront-none f a b t same none = record {
    written = [];
    unwritten = t;
    whole = refl;
    appends = subst (λ w. Appends (contents a.inner) (contents w.inner) []) same (Appends-nil (contents a.inner));
    failures = let e = ap (λ w. w.failures) same in omega (arith, e, none);
  }

  pub ShowedFront-stopped : (f : Fault) {a b : Counts T} {t : List ℕ} → f ≡ fault.Stopped → WroteFront contents a b t → ShowedFront f contents a b t
  ShowedFront-stopped f {a} {b} {t} is p = record {
    written = p.written;
    unwritten = p.unwritten;
    whole = p.whole;
    appends = p.appends;
    failures = p.failures ∙ ap (λ x. a.failures + failures_of x) (sym is);
  }

  -- text that would have come after it doesn't undo a stop
  pub ShowedFront-more : {f : Fault} {a b : Counts T} {t : List ℕ} (u : List ℕ) → ShowedFront f contents a b t → ShowedFront f contents a b (t ++ u)
  ShowedFront-more u p = record {
    written = p.written;
    unwritten = p.unwritten ++ u;
    whole = ap (λ l. l ++ u) p.whole ∙ append_assoc p.written p.unwritten u;
    appends = p.appends;
    failures = p.failures;
  }

  pub ShowedFront-then : {f : Fault} {a b c : Counts T} {t u : List ℕ} → Wrote contents a b t → ShowedFront f contents b c u → ShowedFront f contents a c (t ++ u)
  ShowedFront-then {f} {a} {b} {c} {t} {u} p q = record {
    written = t ++ q.written;
    unwritten = q.unwritten;
    whole = ap (λ l. t ++ l) q.whole ∙ sym (append_assoc t q.written q.unwritten);
    appends = Appends-trans (contents a.inner) (contents b.inner) (contents c.inner) t q.written p.appends q.appends;
    failures = q.failures ∙ ap (λ n. n + failures_of f) p.failures;
  }

-- ---- a run that reads

pub Reached-start : (before old : Option (List ℕ)) (line : List ℕ) → line ≡ [] → Reached before before old old line
Reached-start before old line none = record { read = []; consumes = Consumes-nil before; appends = Appends-nil old; line_is = none }

-- the lines that some bytes end, behind what had come of the first
shown_after : {before mid c d : Option (List ℕ)} {line : List ℕ} (bytes : List ℕ) (r : Reached before mid c d line)
    → shown_ended (r.read ++ bytes) ≡ shown_ended r.read ++ shown_ended (line ++ bytes)
shown_after bytes r = shown_ended-append r.read bytes ∙ ap (λ l. shown_ended r.read ++ shown_ended (l ++ bytes)) (sym r.line_is)

pub Reached-read : {before mid c d : Option (List ℕ)} {line next : List ℕ} (after e f : Option (List ℕ)) (bytes : List ℕ) → Reached before mid c d line → Consumes mid after bytes
    → Appends d e (shown_ended (line ++ bytes)) → next ≡ begun_line (line ++ bytes) → Keeps e f → Reached before after c f next
Reached-read {before} {mid} {c} {d} {line} {next} after e f bytes r consumes appends begun keeps = record {
  read = r.read ++ bytes;
  consumes = Consumes-trans before mid after r.read bytes r.consumes consumes;
  appends = Appends-kept c e f (shown_ended (r.read ++ bytes)) (subst (Appends c e) (sym (shown_after bytes r))
      (Appends-trans c d e (shown_ended r.read) (shown_ended (line ++ bytes)) r.appends appends)) keeps;
  line_is = begun ∙ ap (λ l. begun_line (l ++ bytes)) r.line_is ∙ sym (begun_line-append r.read bytes);
}

-- ---- how a run ends

-- where it can't begin
pub First-none : (before old : Option (List ℕ)) → ShowedFirst before before old old
First-none before old = record { read = []; done = []; rest = []; consumes = Consumes-nil before; lines = refl; appends = Appends-nil old }

pub Ends-read_fault : {before mid after c d : Option (List ℕ)} {l : List ℕ} → Reached before mid c d l → Keeps mid after → Ends ReadFault before after c d
Ends-read_fault {before} {mid} {after} r keeps = record {
  read = r.read;
  consumes = Consumes-kept before mid after r.read r.consumes keeps;
  appends = r.appends;
}

-- the writer stopped within what these bytes are shown as
stopped_within : {T : Type 0} {contents : T → Option (List ℕ)} {f : Fault} {a b : Counts T} {before mid c : Option (List ℕ)} {line : List ℕ} (after e : Option (List ℕ)) (bytes : List ℕ)
    → Reached before mid c (contents a.inner) line → Consumes mid after bytes → ShowedFront f contents a b (shown_ended (line ++ bytes))
    → Keeps (contents b.inner) e → ShowedFrontOf before after c e
stopped_within {contents = contents} {a = a} {b = b} {before = before} {mid = mid} {c = c} after e bytes r consumes p keeps = record {
  read = r.read ++ bytes;
  consumes = Consumes-trans before mid after r.read bytes r.consumes consumes;
  front = inl (record {
    written = shown_ended r.read ++ p.written;
    unwritten = p.unwritten;
    appends = Appends-kept c (contents b.inner) e (shown_ended r.read ++ p.written)
        (Appends-trans c (contents a.inner) (contents b.inner) (shown_ended r.read) p.written r.appends p.appends) keeps;
    whole = shown_after bytes r ∙ ap (λ x. shown_ended r.read ++ x) p.whole ∙ sym (append_assoc (shown_ended r.read) p.written p.unwritten);
  });
}

-- memory ended behind some of the lines that these bytes end
short_behind : {T : Type 0} {contents : T → Option (List ℕ)} {a b : Counts T} {before mid c : Option (List ℕ)} {line : List ℕ} (after e : Option (List ℕ)) (bytes : List ℕ)
    (rest : List (List ℕ)) → Reached before mid c (contents a.inner) line → Consumes mid after bytes → ShowedLines contents a b (line ++ bytes) rest
    → Keeps (contents b.inner) e → ShowedFirst before after c e
short_behind {contents = contents} {a = a} {b = b} {before = before} {mid = mid} {c = c} {line = line} after e bytes rest r consumes p keeps =
    let whole = whole_lines r.read in
    record {
      read = r.read ++ bytes;
      done = whole ++ p.done;
      rest = rest;
      consumes = Consumes-trans before mid after r.read bytes r.consumes consumes;
      lines = whole_lines-append r.read bytes ∙ ap (λ l. whole ++ whole_lines (l ++ bytes)) (sym r.line_is) ∙ ap (λ ls. whole ++ ls) p.lines
          ∙ sym (append_assoc whole p.done rest);
      appends = Appends-kept c (contents b.inner) e (shown_lines (whole ++ p.done)) (subst (Appends c (contents b.inner)) (sym (shown_lines-append whole p.done))
          (Appends-trans c (contents a.inner) (contents b.inner) (shown_ended r.read) (shown_lines p.done) r.appends p.wrote.appends)) keeps;
    }

pub Ends-stopped : {T : Type 0} {contents : T → Option (List ℕ)} {f : Fault} {a b : Counts T} {before mid c : Option (List ℕ)} {line : List ℕ} (outcome : Outcome) (after e : Option (List ℕ)) (bytes : List ℕ)
    → (outcome ≡ WriteFault) ⊎ (outcome ≡ NoMemory) → Reached before mid c (contents a.inner) line → Consumes mid after bytes
    → ShowedFront f contents a b (shown_ended (line ++ bytes)) → (outcome ≡ NoMemory → (rest : List (List ℕ)) × ShowedLines contents a b (line ++ bytes) rest)
    → Keeps (contents b.inner) e → Ends outcome before after c e
Ends-stopped {before = before} {c = c} outcome after e bytes (inl is) r consumes p first keeps =
    subst (λ (o : Outcome). Ends o before after c e) (sym is) (stopped_within after e bytes r consumes p keeps)
Ends-stopped {before = before} {c = c} outcome after e bytes (inr is) r consumes p first keeps =
    let f = first is in subst (λ (o : Outcome). Ends o before after c e) (sym is) (short_behind after e bytes f.0 r consumes f.1 keeps)

pub Ends-flush_fault : {before after c d : Option (List ℕ)} {l : List ℕ} → Reached before after c d l → Ends WriteFault before after c d
Ends-flush_fault r = record {
  read = r.read;
  consumes = r.consumes;
  front = inl (record { written = shown_ended r.read; unwritten = []; appends = r.appends; whole = sym (append-nil (shown_ended r.read)) });
}

-- what was written of the last line stands behind all lines before it
front_at_end : {before mid c d : Option (List ℕ)} {l : List ℕ} (after e : Option (List ℕ)) → Reached before mid c d l → Consumes mid after [] → IsAtEnd after
    → WroteFrontOf (shown_line l []) d e → ShowedFrontOf before after c e
front_at_end {before} {mid} {c} {d} after e r consumes end p = record {
  read = r.read;
  consumes = subst (Consumes before after) (append-nil r.read) (Consumes-trans before mid after r.read [] r.consumes consumes);
  front = inr (
    end,
    record {
      written = shown_ended r.read ++ p.written;
      unwritten = p.unwritten;
      appends = Appends-trans c d e (shown_ended r.read) p.written r.appends p.appends;
      whole = ap (λ x. shown_ended r.read ++ shown_line x []) (sym r.line_is) ∙ ap (λ x. shown_ended r.read ++ x) p.whole ∙ sym (append_assoc (shown_ended r.read) p.written p.unwritten);
    },
  );
}

-- nothing of it was written
first_at_end : {before mid c d : Option (List ℕ)} {l : List ℕ} (after e : Option (List ℕ)) → Reached before mid c d l → Consumes mid after [] → Keeps d e
    → ShowedFirst before after c e
first_at_end {before} {mid} {c} {d} after e r consumes keeps = record {
  read = r.read;
  done = whole_lines r.read;
  rest = [];
  consumes = subst (Consumes before after) (append-nil r.read) (Consumes-trans before mid after r.read [] r.consumes consumes);
  lines = sym (append-nil (whole_lines r.read));
  appends = Appends-kept c d e (shown_ended r.read) r.appends keeps;
}

pub Ends-finish : {before mid c d : Option (List ℕ)} {l : List ℕ} (outcome : Outcome) (after e : Option (List ℕ)) → Reached before mid c d l → Consumes mid after [] → IsAtEnd after
    → Finishes outcome d e l → Ends outcome before after c e
Ends-finish {before} {mid} {c} {d} {l} Done after e r consumes end p = record {
  read = r.read;
  consumes = subst (Consumes before after) (append-nil r.read) (Consumes-trans before mid after r.read [] r.consumes consumes);
  all = end;
  appends = subst (λ x. Appends c e (shown_ended r.read ++ shown_line x [])) r.line_is (Appends-trans c d e (shown_ended r.read) (shown_line l []) r.appends p);
}
Ends-finish BadLine after e r consumes end p = absurd p
Ends-finish ReadFault after e r consumes end p = absurd p
Ends-finish WriteFault after e r consumes end p = front_at_end after e r consumes end p
Ends-finish NoMemory after e r consumes end p = first_at_end after e r consumes p

-- how a run ends whose last line can't be shown
pub Finishes-stopped : {T : Type 0} {contents : T → Option (List ℕ)} {f : Fault} {a b : Counts T} (outcome : Outcome) (e : Option (List ℕ)) (line : List ℕ)
    → (outcome ≡ WriteFault) ⊎ (outcome ≡ NoMemory) → ShowedFront f contents a b (shown_line line []) → (outcome ≡ NoMemory → b ≡ a) → Keeps (contents b.inner) e
    → Finishes outcome (contents a.inner) e line
Finishes-stopped {contents = contents} {a = a} {b = b} outcome e line (inl is) p same keeps =
    subst (λ (o : Outcome). Finishes o (contents a.inner) e line) (sym is) (record {
      written = p.written;
      unwritten = p.unwritten;
      appends = Appends-kept (contents a.inner) (contents b.inner) e p.written p.appends keeps;
      whole = p.whole;
    })
Finishes-stopped {contents = contents} {a = a} outcome e line (inr is) p same keeps =
    subst (λ (o : Outcome). Finishes o (contents a.inner) e line) (sym is) (subst (λ (w : Counts _). Keeps (contents w.inner) e) (same is) keeps)

pub shown_of_all : (outcome : Outcome) (before after old new : Option (List ℕ)) → Ends outcome before after old new → outcome ≡ Done
    → IfSome before (λ text. Appends old new (shown_text text))
shown_of_all outcome before after old new p is =
    let q = subst (λ (o : Outcome). Ends o before after old new) is p in
    Consumes-whole before after q.read (λ text. Appends old new (shown_text text)) q.consumes q.all q.appends

-- ---- a line that is shown

-- the line that ended was shown
pub ShowedLines-line : {T : Type 0} {contents : T → Option (List ℕ)} {a b d : Counts T} {text : List ℕ} (line front bytes behind : List ℕ) → ShowedLines contents a b text (whole_lines (line ++ bytes))
    → bytes ≡ front ++ 10 ∷ behind → has_newline line ≡ false → has_newline front ≡ false → Wrote contents b d (shown_line (line ++ front) (10 ∷ []))
    → ShowedLines contents a d text (whole_lines behind)
ShowedLines-line {contents = contents} {a = a} {d = d} line front bytes behind p is begun first wrote =
    let shown = shown_line (line ++ front) (10 ∷ []) in
    record {
      done = p.done ++ (line ++ front) ∷ [];
      lines = p.lines ∙ ap (λ ls. p.done ++ ls) (whole_lines-parted line front bytes behind is begun first) ∙ sym (append_assoc p.done ((line ++ front) ∷ []) (whole_lines behind));
      wrote = subst (Wrote contents a d) (ap (λ t. shown_lines p.done ++ t) (sym (append-nil shown)) ∙ sym (shown_lines-append p.done ((line ++ front) ∷ [])))
          (Wrote-then p.wrote wrote);
    }

-- no more lines end
pub ShowedLines-all : {T : Type 0} {contents : T → Option (List ℕ)} {a b : Counts T} {text : List ℕ} (rest : List ℕ) → ShowedLines contents a b text (whole_lines rest) → has_newline rest ≡ false
    → Wrote contents a b (shown_ended text)
ShowedLines-all {contents = contents} {a = a} {b = b} rest p none =
    subst (Wrote contents a b) (ap shown_lines (sym (p.lines ∙ ap (λ ls. p.done ++ ls) (whole_lines-none rest none) ∙ append-nil p.done))) p.wrote

-- the rest was shown in part
pub ShowedLines-stopped : {T : Type 0} {contents : T → Option (List ℕ)} {f : Fault} {a b d : Counts T} {text : List ℕ} {rest : List (List ℕ)} → ShowedLines contents a b text rest
    → ShowedFront f contents b d (shown_lines rest) → ShowedFront f contents a d (shown_ended text)
ShowedLines-stopped {contents = contents} {f = f} {a = a} {d = d} {rest = rest} p q =
    subst (ShowedFront f contents a d) (sym (ap shown_lines p.lines ∙ shown_lines-append p.done rest)) (ShowedFront-then p.wrote q)

-- what holds of the error that `?` makes of another
pub by_error : {X E : Type 0} (r : Result X E) {P Q : E → Type 0} → IsErrAnd r P → ((e : E) → P e → Q e) → IfErr r Q
by_error (Ok x) p f = tt
by_error (Err e) p f = f e p

-- what stands behind a newline is no longer than the bytes
pub shorter : {bytes : List ℕ} {n : ℕ} (front behind : List ℕ) → bytes ≡ front ++ 10 ∷ behind → length bytes ≤ n → length behind ≤ n
shorter {bytes} {n} front behind is most =
    let long : length bytes ≡ length front + suc (length behind) = ap length is ∙ length-append front (10 ∷ behind) in
    omega (arith, long, most)

-- ---- memory that was refused

pub short_of : (outcome : Outcome) (failures low high : ℕ) → EndsCounted outcome low high → (outcome ≡ WriteFault → failures ≡ 1) → low < high
    → (outcome ≡ NoMemory) ⊎ ((outcome ≡ WriteFault) × (failures ≡ 1))
short_of Done failures low high counted fails less = absurd (omega (arith, counted, less))
short_of BadLine failures low high counted fails less = absurd counted
short_of ReadFault failures low high counted fails less = absurd (omega (arith, counted, less))
short_of WriteFault failures low high counted fails less = inr (refl, fails refl)
short_of NoMemory failures low high counted fails less = inl refl

if_some : (text : Option (List ℕ)) {P Q : List ℕ → Type 0} → ((t : List ℕ) → P t → Q t) → IfSome text P → IfSome text Q
if_some None f p = tt
if_some (Some t) f p = f t p

-- where nothing was refused and nothing failed, a text of fewer bytes than there are reads is shown
pub exact_of : (outcome : Outcome) (before after old new : Option (List ℕ)) (low high read_failures write_failures reads most : ℕ)
    → Ends outcome before after old new → EndsCounted outcome low high → (outcome ≡ WriteFault → write_failures ≡ 1)
    → (outcome ≡ ReadFault → (read_failures ≡ 1) ⊎ ((reads ≡ most) × IfSome before (λ text. most ≤ length text)))
    → high ≡ low → read_failures ≡ 0 → write_failures ≡ 0 → IfSome before (λ text. length text < most → Appends old new (shown_text text))
exact_of Done before after old new low high rf wf reads most ends counted write read same no_rf no_wf =
    if_some before (λ text shown _. shown) (shown_of_all Done before after old new ends refl)
exact_of BadLine before after old new low high rf wf reads most ends counted write read same no_rf no_wf = absurd ends
exact_of ReadFault before after old new low high rf wf reads most ends counted write read same no_rf no_wf = elim (read refl) [
  | inl failed ↦ absurd (omega (arith, failed, no_rf))
  | inr spent ↦ if_some before (λ text long less. absurd (omega (arith, long, less))) spent.1
]
exact_of WriteFault before after old new low high rf wf reads most ends counted write read same no_rf no_wf = absurd (omega (arith, write refl, no_wf))
exact_of NoMemory before after old new low high rf wf reads most ends counted write read same no_rf no_wf = absurd (omega (arith, counted, same))

-- ---- the first newline

pub parted_at : (xs : List ℕ) (at : ℕ) → at < length xs → has_newline xs ≡ true → first_line xs ≡ take at xs → xs ≡ take at xs ++ 10 ∷ drop (at + 1) xs
parted_at xs at below has is =
    let long : length (first_line xs) ≡ at = ap length is ∙ length-take-le at xs (omega (arith, below)) in
    let one : at + 1 ≡ suc (length (first_line xs)) = omega (arith, long) in
    let front : take (at + 1) xs ≡ take at xs ++ 10 ∷ [] = ap (λ n. take n xs) one ∙ take-first_line xs has ∙ ap (λ l. l ++ 10 ∷ []) is in
    sym (take-append-drop (at + 1) xs) ∙ ap (λ l. l ++ drop (at + 1) xs) front ∙ append_assoc (take at xs) (10 ∷ []) (drop (at + 1) xs)
