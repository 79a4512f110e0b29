-- How the steps of a run are put together.
use Rattle.std.proofs.Common.{◌≡◌, ℕ, Bool, true, false, ◌||◌, cond, List, [], ◌∷◌, ◌++◌, Option, Some, None, Result, Ok, Err, refl, sym, ap, ◌∙◌, subst, append_assoc, append-nil, inl, inr, suc, ◌+◌, ◌≤◌, ◌≢◌, length, length-append, length-take-le, take, drop, take-append-drop, arith, OnErr, OnOk}
use Rattle.std.specs.Prelude.{is_none, is_err, IfSome}
use Rattle.std.specs.Io.KnownBytes.{Appends, Consumes, IsAtEnd, Keeps}
use Rattle.std.proofs.KnownBytes.{Appends-nil, Appends-trans, Consumes-kept, Consumes-nil, Consumes-trans}
use Rattle.std.proofs.Math.Bool.{or_assoc}
use Rattle.std.proofs.lemmas.List.{take_all}
use Rattle.program_ends.specs.declared.outcome.Outcome.{Outcome}
use Rattle.program_ends.specs.declared.outcome.Outcome.TheVariants.{Done, BadLine, ReadFault, WriteFault}
use Rattle.event_file.specs.declared.bad.Bad.{Bad}
use Rattle.route_core.specs.declared.answer.Answer.{Answer}
use Rattle.event_file.specs.Answers.{response_text}
use Rattle.event_file.specs.Counts.{Counts}
use Rattle.event_file.specs.Lines.{Line, after_bytes, answered_lines, begun_line, ended_lines, extended, first_line, has_newline, kept, no_line}
use Rattle.event_file.specs.Output.{Wrote, WroteFront}
use Rattle.route_main.specs.Progress.{Standing, Answers, StopsWithin, Progress, Advances, Breaks, Finishes, Reached, HasRead, answered_of, fresh, standing}
use Rattle.event_file.specs.Causes.{AnsweredCounted, IsTranscriptCounted, RespondsCounted}
use Rattle.event_file.specs.Transcript.{command_in, has_bad_line, transcript_from}
use Rattle.route_main.specs.Ends.{AnsweredAll, EndsCounted}
use Rattle.route_core.specs.World.{World}
use Rattle.event_file.proofs.CauseLemmas.{computed_from}
use Rattle.event_file.proofs.LineLemmas.{answered_lines-ended, answered_lines-last, answered_lines-line, begun_line-end, begun_line-more, begun_line-no_newline, ended-append-begun, ended_lines-end, ended_lines-more, ended_lines-append, extended-kept, first_line-none, first_line-no_newline, has_newline-append, same_line, take-first_line}

-- ---- answered lines, one part after another

Answered-then : (l m : List (Option (List ℕ))) (a b c : World) (i j k : ℕ) (s t : List ℕ) → AnsweredCounted a l s b i j → AnsweredCounted b m t c j k
    → AnsweredCounted a (l ++ m) (s ++ t) c i k
Answered-then [] m a b c i j k s t p q =
    subst (λ n. AnsweredCounted a m (s ++ t) c n k) p.2 (subst (λ w. AnsweredCounted w m (s ++ t) c j k) p.1 (subst (λ x. AnsweredCounted b m (x ++ t) c j k) (sym p.0) q))
Answered-then (line ∷ l) m a b c i j k s t (response, next, mid, rest, responses, text, more) q =
    (response, next, mid, rest ++ t, responses, ap (λ x. x ++ t) text ∙ append_assoc (response_text response) rest t, Answered-then l m next b c mid j k rest t more q)

has_bad_line-append : (l m : List (Option (List ℕ))) → has_bad_line (l ++ m) ≡ (has_bad_line l || has_bad_line m)
has_bad_line-append [] m = refl
has_bad_line-append (line ∷ l) m = ap (λ t. is_none (command_in line) || t) (has_bad_line-append l m) ∙ sym (or_assoc (is_none (command_in line)) (has_bad_line l) (has_bad_line m))

or-false : (t : Bool) → t ≡ (t || false)
or-false true = refl
or-false false = refl

pub Answers-none : (s : Standing) (c : Option (List ℕ)) → Answers s s c c []
Answers-none s c = record { written = []; appends = Appends-nil c; answered = (refl, refl, refl); bad = or-false s.has_bad }

pub Answers-then : {a b e : Standing} {c d f : Option (List ℕ)} {l m : List (Option (List ℕ))} → Answers a b c d l → Answers b e d f m → Answers a e c f (l ++ m)
Answers-then {a} {b} {e} {c} {d} {f} {l} {m} p q = record {
  written = p.written ++ q.written;
  appends = Appends-trans c d f p.written q.written p.appends q.appends;
  answered = Answered-then l m a.world b.world e.world a.refused b.refused e.refused p.written q.written p.answered q.answered;
  bad = q.bad ∙ ap (λ t. t || has_bad_line m) p.bad ∙ or_assoc a.has_bad (has_bad_line l) (has_bad_line m) ∙ ap (λ t. a.has_bad || t) (sym (has_bad_line-append l m));
}

pub StopsWithin-then : {a b : Standing} {n : ℕ} {c d f : Option (List ℕ)} {l m : List (Option (List ℕ))} → Answers a b c d l → StopsWithin b n d f m → StopsWithin a n c f (l ++ m)
StopsWithin-then {a} {b} {n} {c} {d} {f} {l} {m} p q = record {
  written = p.written ++ q.written;
  unwritten = q.unwritten;
  last = q.last;
  appends = Appends-trans c d f p.written q.written p.appends q.appends;
  answered = subst (λ t. AnsweredCounted a.world (l ++ m) t q.last a.refused n) (sym (append_assoc p.written q.written q.unwritten))
      (Answered-then l m a.world b.world q.last a.refused b.refused n p.written (q.written ++ q.unwritten) p.answered q.answered);
}

-- lines that would have come after it don't undo a stop
pub StopsWithin-more : {a : Standing} {n : ℕ} {c d : Option (List ℕ)} {l : List (Option (List ℕ))} (m : List (Option (List ℕ))) → StopsWithin a n c d l → StopsWithin a n c d (l ++ m)
StopsWithin-more {a} {n} {c} {d} {l} m p =
    let rest = computed_from m p.last n in
    record {
      written = p.written;
      unwritten = p.unwritten ++ transcript_from m p.last;
      last = rest.0;
      appends = p.appends;
      answered = subst (λ t. AnsweredCounted a.world (l ++ m) t rest.0 a.refused n) (append_assoc p.written p.unwritten (transcript_from m p.last))
          (Answered-then l m a.world p.last rest.0 a.refused n n (p.written ++ p.unwritten) (transcript_from m p.last) p.answered rest.1);
    }

-- ---- one line, and the writer

pub on_err : {T E : Type 0} (r : Result T E) (P : Type 0) → P → OnErr r P
on_err (Ok x) P p = tt
on_err (Err e) P p = p

pub at_err : {T E : Type 0} (r : Result T E) (P : Type 0) → is_err r ≡ true → OnErr r P → P
at_err (Ok x) P is p = absurd (cc)
at_err (Err e) P is p = p

pub at_ok : {T E : Type 0} (r : Result T E) (P : Type 0) → is_err r ≡ false → OnOk r P → P
at_ok (Ok x) P is p = p
at_ok (Err e) P is p = absurd (cc)

malformed : (old new : World) (line : Option (List ℕ)) (response : Result Answer Bad) (i j : ℕ) → RespondsCounted old line response new i j
    → is_err response ≡ (is_none (command_in line) || false)
malformed old new line (Ok answer) i j (command, is, step) = rw is refl
malformed old new line (Err bad) i j (none, same, count) = rw none refl

-- the writer took a line's answer
pub Answers-line : {W : Type 0} (contents : W → Option (List ℕ)) (old now : Counts W) (from to : Standing) (line : Option (List ℕ)) (response : Result Answer Bad)
    → RespondsCounted from.world line response to.world from.refused to.refused → Wrote contents old now (response_text response)
    → to.has_bad ≡ (from.has_bad || is_err response) → Answers from to (contents old.inner) (contents now.inner) (line ∷ [])
Answers-line contents old now from to line response responds wrote bad = record {
  written = response_text response;
  appends = wrote.appends;
  answered = (response, to.world, to.refused, [], responds, sym (append-nil (response_text response)), (refl, refl, refl));
  bad = bad ∙ ap (λ t. from.has_bad || t) (malformed from.world to.world line response from.refused to.refused responds);
}

-- the writer stopped within a line's answer
pub StopsWithin-line : {W : Type 0} (contents : W → Option (List ℕ)) (old now : Counts W) (from : Standing) (n : ℕ) (line : Option (List ℕ)) (response : Result Answer Bad) (next : World)
    → RespondsCounted from.world line response next from.refused n → WroteFront contents old now (response_text response)
    → StopsWithin from n (contents old.inner) (contents now.inner) (line ∷ [])
StopsWithin-line contents old now from n line response next responses front = record {
  written = front.written;
  unwritten = front.unwritten;
  last = next;
  appends = front.appends;
  answered = (response, next, n, [], responses, sym front.whole ∙ sym (append-nil (response_text response)), (refl, refl, refl));
}

-- ---- a run that goes on

kept_extended : {first from : Standing} {start old : Option (List ℕ)} {read : List ℕ} {line : Line} (bytes : List ℕ)
    → Progress first from start old read line → extended line.text bytes ≡ kept (begun_line read ++ bytes)
kept_extended {read = read} bytes p = ap (λ (l : Line). extended l.text bytes) p.line_is ∙ extended-kept (begun_line read) bytes

begun_no_newline : (read bytes : List ℕ) → has_newline bytes ≡ false → has_newline (begun_line read ++ bytes) ≡ false
begun_no_newline read bytes none = has_newline-append (begun_line read) bytes ∙ ap (λ t. t || has_newline bytes) (begun_line-no_newline read) ∙ none

pub Advances-then : {a b e : Standing} {c d f : Option (List ℕ)} {bs cs : List ℕ} {l m n : Line} → Advances a b c d bs l m → Advances b e d f cs m n → Advances a e c f (bs ++ cs) l n
Advances-then {e = e} {f = f} {bs = bs} {cs = cs} {n = n} p q = record {
  on = λ first start read r. subst (λ x. Progress first e start f x n) (append_assoc read bs cs) (q.on first start (read ++ bs) (p.on first start read r));
}

-- bytes without a newline are kept
pub Advances-begun : (s : Standing) (c : Option (List ℕ)) (bytes : List ℕ) (line : Line) → has_newline bytes ≡ false → Advances s s c c bytes line (after_bytes line bytes)
Advances-begun s c bytes line none = record {
  on = λ first start read p. record {
    answers = subst (λ x. Answers first s start c (answered_lines x)) (sym (ended_lines-more read bytes none)) p.answers;
    line_is = same_line (extended line.text (first_line bytes)) (kept (begun_line (read ++ bytes))) (has_newline bytes) false
        (ap (extended line.text) (first_line-none bytes none) ∙ kept_extended bytes p ∙ ap kept (sym (begun_line-more read bytes none))) none;
  };
}

-- the lines that are whole after a newline
lines_after : {first from : Standing} {start old : Option (List ℕ)} {read : List ℕ} {line : Line} (bytes : List ℕ) → Progress first from start old read line
    → answered_lines (ended_lines (read ++ (first_line bytes ++ 10 ∷ []))) ≡ answered_lines (ended_lines read) ++ answered_of (extended line.text (first_line bytes))
lines_after {read = read} {line = line} bytes p =
    let front = first_line bytes in
    let begun = begun_line read ++ front in
    let parted : (read ++ front) ++ 10 ∷ [] ≡ ended_lines read ++ (begun ++ 10 ∷ []) =
    ap (λ x. (x ++ front) ++ 10 ∷ []) (sym (ended-append-begun read)) ∙ ap (λ x. x ++ 10 ∷ []) (append_assoc (ended_lines read) (begun_line read) front)
    ∙ append_assoc (ended_lines read) begun (10 ∷ []) in
    let whole : ended_lines (read ++ (front ++ 10 ∷ [])) ≡ ended_lines read ++ (begun ++ 10 ∷ []) =
    ap ended_lines (sym (append_assoc read front (10 ∷ []))) ∙ ended_lines-end (read ++ front) ∙ parted in
    ap answered_lines whole ∙ answered_lines-ended read (begun ++ 10 ∷ [])
    ∙ ap (λ x. answered_lines (ended_lines read) ++ x) (answered_lines-line begun (begun_no_newline read front (first_line-no_newline bytes)) ∙ ap answered_of (sym (kept_extended front p)))

-- a line that ends was answered
pub Advances-line : {s t : Standing} {c d : Option (List ℕ)} (bytes : List ℕ) (line : Line) → Answers s t c d (answered_of (after_bytes line bytes).text)
    → Advances s t c d (first_line bytes ++ 10 ∷ []) line no_line
Advances-line {s} {t} {c} {d} bytes line q = record {
  on = λ first start read p. record {
    answers = subst (λ x. Answers first t start d x) (sym (lines_after bytes p)) (Answers-then p.answers q);
    line_is = same_line (Some []) (kept (begun_line (read ++ (first_line bytes ++ 10 ∷ [])))) false false
        (ap kept (sym (ap begun_line (sym (append_assoc read (first_line bytes) (10 ∷ []))) ∙ begun_line-end (read ++ first_line bytes)))) refl;
  };
}

-- the writer stopped at a line that ends
pub Breaks-line : {s : Standing} {n : ℕ} {c d : Option (List ℕ)} (bytes : List ℕ) (line : Line) → StopsWithin s n c d (answered_of (after_bytes line bytes).text)
    → Breaks s n c d (first_line bytes ++ 10 ∷ []) line
Breaks-line {s} {n} {c} {d} bytes line q = record {
  on = λ first start read p. subst (λ x. StopsWithin first n start d x) (sym (lines_after bytes p)) (StopsWithin-then p.answers q);
}

pub Breaks-then : {a b : Standing} {n : ℕ} {c d f : Option (List ℕ)} {bs cs : List ℕ} {l m : Line} → Advances a b c d bs l m → Breaks b n d f cs m → Breaks a n c f (bs ++ cs) l
Breaks-then {n = n} {f = f} {bs = bs} {cs = cs} p q = record {
  on = λ first start read r. subst (λ x. StopsWithin first n start f (answered_lines (ended_lines x))) (append_assoc read bs cs) (q.on first start (read ++ bs) (p.on first start read r));
}

-- bytes that would have come after it don't undo a stop
pub Breaks-more : {a : Standing} {n : ℕ} {c d : Option (List ℕ)} {bs : List ℕ} {l : Line} (cs : List ℕ) → Breaks a n c d bs l → Breaks a n c d (bs ++ cs) l
Breaks-more {n = n} {d = d} {bs = bs} cs q = record {
  on = λ first start read p.
      let rest = ended_lines (begun_line (read ++ bs) ++ cs) in
      let lines : answered_lines (ended_lines (read ++ (bs ++ cs))) ≡ answered_lines (ended_lines (read ++ bs)) ++ answered_lines rest =
      ap answered_lines (ap ended_lines (sym (append_assoc read bs cs)) ∙ ended_lines-append (read ++ bs) cs) ∙ answered_lines-ended (read ++ bs) rest in
      subst (λ x. StopsWithin first n start d x) (sym lines) (StopsWithin-more (answered_lines rest) (q.on first start read p));
}

-- what was taken from the front of the bytes
taken_front : (bytes : List ℕ) (taken : ℕ) → has_newline bytes ≡ true → taken ≡ length (first_line bytes) + cond (has_newline bytes) 1 0 → take taken bytes ≡ first_line bytes ++ 10 ∷ []
taken_front bytes taken has is =
    let one : taken ≡ suc (length (first_line bytes)) = is ∙ ap (λ t. length (first_line bytes) + cond t 1 0) has ∙ omega arith in
    ap (λ n. take n bytes) one ∙ take-first_line bytes has

-- bytes that end no line were taken whole
pub Advances-fed : (s : Standing) (c : Option (List ℕ)) (bytes : List ℕ) (taken : ℕ) (line next : Line) → has_newline bytes ≡ false
    → taken ≡ length (first_line bytes) + cond (has_newline bytes) 1 0 → next ≡ after_bytes line bytes → Advances s s c c (take taken bytes) line next
Advances-fed s c bytes taken line next none is fed =
    let all : length bytes ≤ taken = omega (arith, is, ap length (first_line-none bytes none)) in
    subst (λ n. Advances s s c c (take taken bytes) line n) (sym fed)
    (subst (λ x. Advances s s c c x line (after_bytes line bytes)) (sym (take_all taken bytes all)) (Advances-begun s c bytes line none))

-- bytes that end a line were taken up to its newline, and it was answered
pub Advances-answered : {s t : Standing} {c d : Option (List ℕ)} (bytes : List ℕ) (taken : ℕ) (line mid next : Line) → has_newline bytes ≡ true
    → taken ≡ length (first_line bytes) + cond (has_newline bytes) 1 0 → mid ≡ after_bytes line bytes → next ≡ no_line
    → Answers s t c d (answered_of mid.text) → Advances s t c d (take taken bytes) line next
Advances-answered {s} {t} {c} {d} bytes taken line mid next has is fed empty q =
    subst (λ n. Advances s t c d (take taken bytes) line n) (sym empty)
    (subst (λ x. Advances s t c d x line no_line) (sym (taken_front bytes taken has is))
    (Advances-line bytes line (subst (λ (m : Line). Answers s t c d (answered_of m.text)) fed q)))

-- the writer stopped at the first line that the bytes end
pub Breaks-answered : {s : Standing} {high : ℕ} {c d : Option (List ℕ)} (bytes : List ℕ) (line mid : Line) → has_newline bytes ≡ true → mid ≡ after_bytes line bytes
    → StopsWithin s high c d (answered_of mid.text) → Breaks s high c d bytes line
Breaks-answered {s} {high} {c} {d} bytes line mid has fed q =
    let n = suc (length (first_line bytes)) in
    let stop : Breaks s high c d (first_line bytes ++ 10 ∷ []) line = Breaks-line bytes line (subst (λ (m : Line). StopsWithin s high c d (answered_of m.text)) fed q) in
    subst (λ x. Breaks s high c d x line) (ap (λ x. x ++ drop n bytes) (sym (take-first_line bytes has)) ∙ take-append-drop n bytes) (Breaks-more (drop n bytes) stop)

-- a line of which no byte came before the bytes that end it
text_whole : (bytes : List ℕ) (line : Line) (text : Option (List ℕ)) → line ≡ no_line → text ≡ kept (first_line bytes) → text ≡ (after_bytes line bytes).text
text_whole bytes line text empty fed = fed ∙ ap (λ (l : Line). extended l.text (first_line bytes)) (sym empty)

-- it was answered where it stands
pub Advances-whole : {s t : Standing} {c d : Option (List ℕ)} (bytes : List ℕ) (taken : ℕ) (line : Line) (text : Option (List ℕ)) → has_newline bytes ≡ true
    → taken ≡ length (first_line bytes) + 1 → line ≡ no_line → text ≡ kept (first_line bytes) → Answers s t c d (answered_of text)
    → Advances s t c d (take taken bytes) line line
Advances-whole {s} {t} {c} {d} bytes taken line text has is empty fed q =
    Advances-answered bytes taken line (after_bytes line bytes) line has (is ∙ ap (λ t. length (first_line bytes) + cond t 1 0) (sym has)) refl empty
    (subst (λ x. Answers s t c d (answered_of x)) (text_whole bytes line text empty fed) q)

-- the writer stopped at it
pub Breaks-whole : {s : Standing} {n : ℕ} {c d : Option (List ℕ)} (bytes : List ℕ) (line : Line) (text : Option (List ℕ)) → has_newline bytes ≡ true
    → line ≡ no_line → text ≡ kept (first_line bytes) → StopsWithin s n c d (answered_of text) → Breaks s n c d bytes line
Breaks-whole {s} {n} {c} {d} bytes line text has empty fed q =
    Breaks-answered bytes line (after_bytes line bytes) has refl (subst (λ x. StopsWithin s n c d (answered_of x)) (text_whole bytes line text empty fed) q)

-- ---- a run at the end of its script

lines_at_end : {first from : Standing} {start old : Option (List ℕ)} {read : List ℕ} {line : Line} → Progress first from start old read line
    → answered_lines (ended_lines read) ++ answered_of line.text ≡ answered_lines read
lines_at_end {read = read} {line = line} p =
    ap (λ x. answered_lines (ended_lines read) ++ x) (ap (λ (l : Line). answered_of l.text) p.line_is ∙ sym (answered_lines-last (begun_line read) (begun_line-no_newline read)))
    ∙ sym (answered_lines-ended read (begun_line read)) ∙ ap answered_lines (ended-append-begun read)

-- what has come of a line was answered
answered_all : {s t : Standing} {c d : Option (List ℕ)} {line : Line} (bad : Bool) → Answers s t c d (answered_of line.text) → t.has_bad ≡ bad
    → (count : ℕ) (before after start : Option (List ℕ)) (read : List ℕ) → Consumes before after read → IsAtEnd after
    → Progress (standing fresh count) s start c read line → AnsweredAll (λ script text. IsTranscriptCounted script text count t.refused) before after start d bad
answered_all {s} {t} {c} {d} bad q is count before after start read consumes end p =
    let first = standing fresh count in
    let all : Answers first t start d (answered_lines read) = subst (λ x. Answers first t start d x) (lines_at_end p) (Answers-then p.answers q) in
    record {
      read = read;
      written = all.written;
      consumes = consumes;
      all = end;
      appends = all.appends;
      transcript = (t.world, all.answered);
      bad = sym all.bad ∙ is;
    }

pub Finishes-done : {s t : Standing} {c d : Option (List ℕ)} {line : Line} → Answers s t c d (answered_of line.text) → t.has_bad ≡ false → Finishes Done s t.refused c d line
Finishes-done q is = record { on = answered_all false q is }

pub Finishes-bad_line : {s t : Standing} {c d : Option (List ℕ)} {line : Line} → Answers s t c d (answered_of line.text) → t.has_bad ≡ true → Finishes BadLine s t.refused c d line
Finishes-bad_line q is = record { on = answered_all true q is }

pub Finishes-write_fault : {s : Standing} {n : ℕ} {c d : Option (List ℕ)} {line : Line} → StopsWithin s n c d (answered_of line.text) → Finishes WriteFault s n c d line
Finishes-write_fault {s} {n} {c} {d} q = record {
  on = λ count before after start read consumes end p.
      let first = standing fresh count in
      let all : StopsWithin first n start d (answered_lines read) = subst (λ x. StopsWithin first n start d x) (lines_at_end p) (StopsWithin-then p.answers q) in
      record {
        read = read;
        consumes = consumes;
        front = inr (end, record { written = all.written; unwritten = all.unwritten; appends = all.appends; transcript = (all.last, all.answered) });
      };
}

-- ---- a run that reads

pub Reached-start : (count : ℕ) (before old : Option (List ℕ)) → Reached count (standing fresh count) before before old old no_line
Reached-start count before old = record {
  read = [];
  consumes = Consumes-nil before;
  progress = record { answers = Answers-none (standing fresh count) old; line_is = refl };
}

pub Reached-read : {n : ℕ} {s t : Standing} {before mid after c d e : Option (List ℕ)} {bytes : List ℕ} {l m : Line} → Reached n s before mid c d l → Consumes mid after bytes → Advances s t d e bytes l m
    → Reached n t before after c e m
Reached-read {n = n} {before = before} {mid = mid} {after = after} {c = c} {bytes = bytes} p consumes q = record {
  read = p.read ++ bytes;
  consumes = Consumes-trans before mid after p.read bytes p.consumes consumes;
  progress = q.on (standing fresh n) c p.read p.progress;
}

-- a read that gives some bytes makes them one more at least
pub HasRead-more : {n : ℕ} {before mid after : Option (List ℕ)} (taken : ℕ) (buf : List ℕ) → HasRead n before mid → Consumes mid after (take taken buf) → taken ≤ length buf → taken ≢ 0
    → HasRead (n + 1) before after
HasRead-more {n} {before} {mid} {after} taken buf p consumes bound some = record {
  read = p.read ++ take taken buf;
  consumes = Consumes-trans before mid after p.read (take taken buf) p.consumes consumes;
  many = omega (arith, p.many, length-append p.read (take taken buf), length-take-le taken buf bound, some);
}

-- each read but the last gave a byte
pub HasRead-reads : (n r : ℕ) (before after : Option (List ℕ)) → HasRead n before after → r ≤ n + 1 → IfSome before (λ script. r ≤ length script + 1)
HasRead-reads n r None after p h = tt
HasRead-reads n r (Some script) None p h = absurd p.consumes
HasRead-reads n r (Some script) (Some rest) p h = omega (arith, h, p.many, ap length p.consumes, length-append p.read rest)

pub Ends-read_fault : {n : ℕ} {s : Standing} {before mid after c d : Option (List ℕ)} {l : Line} → Reached n s before mid c d l → Keeps mid after → EndsCounted ReadFault before after c d n s.refused
Ends-read_fault {n} {s} {before} {mid} {after} p keeps = record {
  read = p.read;
  written = p.progress.answers.written;
  consumes = Consumes-kept before mid after p.read p.consumes keeps;
  appends = p.progress.answers.appends;
  transcript = (s.world, p.progress.answers.answered);
}

pub Ends-write_fault : {n high : ℕ} {s : Standing} {before mid after c d e : Option (List ℕ)} {bytes : List ℕ} {l : Line} → Reached n s before mid c d l → Consumes mid after bytes → Breaks s high d e bytes l
    → EndsCounted WriteFault before after c e n high
Ends-write_fault {n} {high} {s} {before} {mid} {after} {c} {bytes = bytes} p consumes q =
    let stop = q.on (standing fresh n) c p.read p.progress in
    record {
      read = p.read ++ bytes;
      consumes = Consumes-trans before mid after p.read bytes p.consumes consumes;
      front = inl (record { written = stop.written; unwritten = stop.unwritten; appends = stop.appends; transcript = (stop.last, stop.answered) });
    }

pub Ends-finish : {n high : ℕ} {s : Standing} {c d e : Option (List ℕ)} {l : Line} (before mid after : Option (List ℕ)) (outcome : Outcome) → Reached n s before mid c d l → Consumes mid after [] → IsAtEnd after
    → Finishes outcome s high d e l → EndsCounted outcome before after c e n high
Ends-finish {n = n} {c = c} before mid after outcome p consumes end q =
    q.on n before after c p.read (subst (Consumes before after) (append-nil p.read) (Consumes-trans before mid after p.read [] p.consumes consumes)) end p.progress

-- ---- a writer that is flushed

pub Appends-kept : (a b c : Option (List ℕ)) (t : List ℕ) → Appends a b t → Keeps b c → Appends a c t
Appends-kept None b c t p k = tt
Appends-kept (Some xs) None c t p k = absurd (p)
Appends-kept (Some xs) (Some ys) None t p k = absurd (k)
Appends-kept (Some xs) (Some ys) (Some zs) t p k = k ∙ p

pub Answers-kept : {a b : Standing} {c d e : Option (List ℕ)} {l : List (Option (List ℕ))} → Answers a b c d l → Keeps d e → Answers a b c e l
Answers-kept {a} {b} {c} {d} {e} {l} p k = record { written = p.written; appends = Appends-kept c d e p.written p.appends k; answered = p.answered; bad = p.bad }

pub StopsWithin-kept : {a b : Standing} {c d e : Option (List ℕ)} {l : List (Option (List ℕ))} → Answers a b c d l → Keeps d e → StopsWithin a b.refused c e l
StopsWithin-kept {a} {b} {c} {d} {e} {l} p k = record {
  written = p.written;
  unwritten = [];
  last = b.world;
  appends = Appends-kept c d e p.written p.appends k;
  answered = subst (λ t. AnsweredCounted a.world l t b.world a.refused b.refused) (sym (append-nil p.written)) p.answered;
}

pub Progress-kept : {a b : Standing} {c d e : Option (List ℕ)} {read : List ℕ} {line : Line} → Progress a b c d read line → Keeps d e → Progress a b c e read line
Progress-kept p k = record { answers = Answers-kept p.answers k; line_is = p.line_is }

pub Reached-kept : {n : ℕ} {to : Standing} {before after old new next : Option (List ℕ)} {line : Line} → Reached n to before after old new line → Keeps new next
    → Reached n to before after old next line
Reached-kept r k = record { read = r.read; consumes = r.consumes; progress = Progress-kept r.progress k }

pub Ends-flush_fault : {n : ℕ} {s : Standing} {before after c d e : Option (List ℕ)} {l : Line} → Reached n s before after c d l → Keeps d e → EndsCounted WriteFault before after c e n s.refused
Ends-flush_fault {n} {s} {before} {after} {c} {d} {e} {l} p k =
    let stop = StopsWithin-kept p.progress.answers k in
    record {
      read = p.read;
      consumes = p.consumes;
      front = inl (record { written = stop.written; unwritten = stop.unwritten; appends = stop.appends; transcript = (stop.last, stop.answered) });
    }
