-- How the lines of a run are put together.
use Rattle.std.proofs.Common.{◌≡◌, ◌∙◌, ◌≢◌, ◌⊎◌, ◌+◌, ◌≤◌, ◌^◌, ◌-◌, ℕ, Bool, true, false, List, [], ◌∷◌, ◌++◌, Option, length, refl, sym, ap, subst, append_assoc, append-nil, length-append, inl, inr, arith}
use Rattle.std.specs.Io.KnownBytes.{Appends, IsAtEnd, Keeps}
use Rattle.std.proofs.KnownBytes.{Appends-nil, Appends-trans, Consumes-nil, Consumes-trans, Keeps-trans}
use Rattle.std.proofs.lemmas.List.Elements.{All-append, All-cons}
use Rattle.event_file.specs.Lines.{AreLines, has_newline, with_newlines}
use Rattle.event_file.specs.Output.{WroteFront}
use Rattle.event_file.specs.Counts.{Counts}
use Rattle.line_reader.specs.Given.{Begun, Parted, Spent}
use Rattle.line_reader.specs.declared.fault.Fault.{Fault}
use Rattle.line_reader.specs.declared.fault.Fault.TheVariants as broken
use Rattle.line_reader.specs.declared.reader.TheConstants.{READ_ROOM}
use Rattle.program_ends.proofs.ReadLemmas.{Appends-kept}
use Rattle.program_ends.specs.declared.outcome.Outcome.{Outcome}
use Rattle.program_ends.specs.declared.outcome.Outcome.TheVariants.{Done, BadLine, ReadFault, WriteFault, NoMemory}
use Rattle.lab_main.specs.Ends.{AreAll, AreFirst, Cut, CutLast, Ends, EndingFront, Finishes, IsOneLine, ToldAll, ToldEnded, ToldFront, ToldLines}
use Rattle.lab_main.specs.Faults.{Broke}
use Rattle.lab_main.specs.Progress.{Reached}
use Rattle.lab_main.specs.Telling.{State, Tells, Told, fresh, if_any}
use Rattle.lab_main.specs.Texts.{ending}
use Rattle.lab_main.specs.declared.shows.Shows.{Shows}
use Rattle.lab_main.proofs.Untold.{Left, Left-needed, Left-parted, all_left, few_left, none_left}

-- ---- lines

-- one line more
newlines_more : (lines : List (List ℕ)) (line : List ℕ) → with_newlines (lines ++ line ∷ []) ≡ with_newlines lines ++ (line ++ 10 ∷ [])
newlines_more [] line = refl
newlines_more (l ∷ lines) line =
    ap (λ x. l ++ 10 ∷ x) (newlines_more lines line) ∙ sym (append_assoc l (10 ∷ with_newlines lines) (line ++ 10 ∷ []))

are_more : (lines : List (List ℕ)) (line : List ℕ) → AreLines lines → has_newline line ≡ false → AreLines (lines ++ line ∷ [])
are_more lines line are none =
    All-append (λ l. has_newline l ≡ false) lines (line ∷ []) are (All-cons (λ l. has_newline l ≡ false) line [] none (λ k d h. absurd (omega (arith, h))))

pub Cut-none : (a : Option (List ℕ)) → Cut a a [] []
Cut-none a = record { read = []; consumes = Consumes-nil a; are = λ k d h. absurd (omega (arith, h)); parts = refl }

-- what was read in all, where more was read behind some lines
parts_more : (lines : List (List ℕ)) (old read behind more : List ℕ) → read ≡ with_newlines lines ++ old → old ++ more ≡ behind
    → read ++ more ≡ with_newlines lines ++ behind
parts_more lines old read behind more is then = ap (λ x. x ++ more) is ∙ append_assoc (with_newlines lines) old more ∙ ap (λ x. with_newlines lines ++ x) then

pub Cut-line : {a b c : Option (List ℕ)} {lines : List (List ℕ)} {old : List ℕ} (line rest : List ℕ) → Cut a b lines old → Parted b c old line (10 ∷ rest)
    → Cut a c (lines ++ line ∷ []) rest
Cut-line {a} {b} {c} {lines} {old} line rest p q = record {
  read = p.read ++ q.read;
  consumes = Consumes-trans a b c p.read q.read p.consumes q.consumes;
  are = are_more lines line p.are q.whole;
  parts = parts_more lines old p.read (line ++ 10 ∷ rest) q.read p.parts q.parts
      ∙ ap (λ x. with_newlines lines ++ x) (sym (append_assoc line (10 ∷ []) rest))
      ∙ sym (append_assoc (with_newlines lines) (line ++ 10 ∷ []) rest)
      ∙ ap (λ x. x ++ rest) (sym (newlines_more lines line));
}

pub Cut-rest : {a b c : Option (List ℕ)} {lines : List (List ℕ)} {old : List ℕ} (rest : List ℕ) → Cut a b lines old → Parted b c old rest [] → Cut a c lines rest
Cut-rest {a} {b} {c} {lines} {old} rest p q = record {
  read = p.read ++ q.read;
  consumes = Consumes-trans a b c p.read q.read p.consumes q.consumes;
  are = p.are;
  parts = parts_more lines old p.read rest q.read p.parts (q.parts ∙ append-nil rest);
}

pub Cut-behind : {a b c : Option (List ℕ)} {lines : List (List ℕ)} {old : List ℕ} (line behind : List ℕ) → Cut a b lines old → Parted b c old line behind
    → Cut a c lines (line ++ behind)
Cut-behind {a} {b} {c} {lines} {old} line behind p q = record {
  read = p.read ++ q.read;
  consumes = Consumes-trans a b c p.read q.read p.consumes q.consumes;
  are = p.are;
  parts = parts_more lines old p.read (line ++ behind) q.read p.parts q.parts;
}

pub Spent-behind : {a b c : Option (List ℕ)} {lines : List (List ℕ)} {old : List ℕ} → Cut a b lines old → Spent b c → Spent a c
Spent-behind {a} {b} {c} p q = record {
  read = p.read ++ q.read;
  consumes = Consumes-trans a b c p.read q.read p.consumes q.consumes;
  many = omega (arith, q.many, length-append p.read q.read);
}

Cut-read : {a b c : Option (List ℕ)} {lines : List (List ℕ)} {old : List ℕ} (p : Cut a b lines old) (q : Left b c old) → Cut a c lines (old ++ q.read)
Cut-read {a} {b} {c} {lines} {old} p q = record {
  read = p.read ++ q.read;
  consumes = Consumes-trans a b c p.read q.read p.consumes q.consumes;
  are = p.are;
  parts = parts_more lines old p.read (old ++ q.read) q.read p.parts refl;
}

-- ---- what is told of lines

Told-then : (o : Shows) (l m : List (List ℕ)) (a b c : State) (s t : List ℕ) → Told o a l s b → Told o b m t c → Told o a (l ++ m) (s ++ t) c
Told-then o [] m a b c s t p q = subst (λ x. Told o x m (s ++ t) c) p.1 (subst (λ x. Told o b m (x ++ t) c) (sym p.0) q)
Told-then o (line ∷ l) m a b c s t (mid, first, rest, tells, text, more) q =
    (mid, first, rest ++ t, tells, ap (λ x. x ++ t) text ∙ append_assoc first rest t, Told-then o l m mid b c rest t more q)

Told-one : (o : Shows) (a b : State) (line text : List ℕ) → Tells o a line text b → Told o a (line ∷ []) text b
Told-one o a b line text tells = (b, text, [], tells, sym (append-nil text), (refl, refl))

-- ---- how far a run has come

-- where the writer kept what it had
pub Reached-kept : {n : ℕ} {o : Shows} {a b c d e : Option (List ℕ)} {s : State} {behind : List ℕ} → Reached n o a b c d s behind → Keeps d e
    → Reached n o a b c e s behind
Reached-kept {c = c} {d = d} {e = e} p keeps = record {
  lines = p.lines;
  text = p.text;
  cut = p.cut;
  told = p.told;
  appends = Appends-kept c d e p.text p.appends keeps;
  many = p.many;
}

pub Reached-line : {n : ℕ} {o : Shows} {a b c d e f : Option (List ℕ)} {s t : State} {old : List ℕ} (line rest said : List ℕ)
    → Reached n o a b d e s old → Parted b c old line (10 ∷ rest) → Tells o s line said t → Appends e f said → Reached (n + 1) o a c d f t rest
Reached-line {o = o} {d = d} {e = e} {f = f} {s = s} {t = t} line rest said p parted tells appends = record {
  lines = p.lines ++ line ∷ [];
  text = p.text ++ said;
  cut = Cut-line line rest p.cut parted;
  told = Told-then o p.lines (line ∷ []) fresh s t p.text said p.told (Told-one o s t line said tells);
  appends = Appends-trans d e f p.text said p.appends appends;
  many = omega (arith, p.many, length-append p.lines (line ∷ []));
}

-- ---- how it ends

finished_all : (o : Shows) (a b c d e : Option (List ℕ)) (lines : List (List ℕ)) (text : List ℕ) (s : State) (bad : Bool) → AreAll a b lines s
    → Told o fresh lines text s → Appends c d text → Appends d e (ending s.bad) → if_any s.bad ≡ bad → ToldAll o a b c e s bad
finished_all o a b c d e lines text s bad all told appends more is = record {
  lines = lines;
  text = text;
  all = all;
  told = told;
  bad_is = is;
  appends = Appends-trans c d e text (ending s.bad) appends more;
}

finished_front : (o : Shows) (a b c d e : Option (List ℕ)) (lines : List (List ℕ)) (text : List ℕ) (s : State) → AreAll a b lines s
    → Told o fresh lines text s → Appends c d text → EndingFront d e s.bad → ToldFront o a b c e
finished_front o a b c d e lines text s all told appends front = record {
  lines = lines;
  behind = all.0;
  text = text;
  last = s;
  written = text ++ front.written;
  unwritten = front.unwritten;
  first = all.1;
  untold = all_left a b lines s all;
  told = told;
  whole = ap (λ x. text ++ x) front.whole ∙ sym (append_assoc text front.written front.unwritten);
  appends = Appends-trans c d e text front.written appends front.appends;
}

finished_lines : (o : Shows) (a b c d e : Option (List ℕ)) (lines : List (List ℕ)) (text : List ℕ) (s : State) → AreAll a b lines s
    → Told o fresh lines text s → Appends c d text → Keeps d e → ToldLines o a b c e
finished_lines o a b c d e lines text s all told appends keeps = record {
  lines = lines;
  behind = all.0;
  text = text;
  last = s;
  first = all.1;
  untold = all_left a b lines s all;
  told = told;
  appends = Appends-kept c d e text appends keeps;
}

-- behind all lines, or behind `?quit`
Ends-finished : (outcome : Outcome) (o : Shows) (a b c d e : Option (List ℕ)) (lines : List (List ℕ)) (text : List ℕ) (s : State) → AreAll a b lines s
    → Told o fresh lines text s → Appends c d text → Finishes outcome d e s.bad → Ends o outcome a b c e s
Ends-finished Done o a b c d e lines text s all told appends (more, is) = finished_all o a b c d e lines text s false all told appends more is
Ends-finished BadLine o a b c d e lines text s all told appends (more, is) = finished_all o a b c d e lines text s true all told appends more is
Ends-finished ReadFault o a b c d e lines text s all told appends f = absurd f
Ends-finished WriteFault o a b c d e lines text s all told appends f = finished_front o a b c d e lines text s all told appends f
Ends-finished NoMemory o a b c d e lines text s all told appends f = finished_lines o a b c d e lines text s all told appends f

-- at the end of the text
pub Ends-at_end : (outcome : Outcome) {n : ℕ} {o : Shows} {a b d e : Option (List ℕ)} (c f : Option (List ℕ)) {s : State} {old : List ℕ} → Reached n o a b d e s old
    → Parted b c old [] [] × IsAtEnd c → Finishes outcome e f s.bad → Ends o outcome a c d f s
Ends-at_end outcome {o = o} {a = a} {d = d} {e = e} c f {s = s} p (parted, end) finishes =
    Ends-finished outcome o a c d e f p.lines p.text s ([], inl (Cut-rest [] p.cut parted), inr (refl, end)) p.told p.appends finishes

-- behind a last line
pub Ends-last : (outcome : Outcome) {n : ℕ} {o : Shows} {a b d e : Option (List ℕ)} (c f g : Option (List ℕ)) {s t : State} {old : List ℕ} (line said : List ℕ)
    → Reached n o a b d e s old → Parted b c old line [] × IsAtEnd c × (line ≢ []) → Tells o s line said t → Appends e f said → Finishes outcome f g t.bad
    → Ends o outcome a c d g t
Ends-last outcome {o = o} {a = a} {d = d} {e = e} c f g {s = s} {t = t} line said p (parted, end, some) tells appends finishes =
    let cut = Cut-rest line p.cut parted in
    let last : CutLast a c (p.lines ++ line ∷ []) = record { whole = p.lines; last = line; cut = cut; line = parted.whole; some = some; lines_are = refl; at_end = end } in
    Ends-finished outcome o a c d f g (p.lines ++ line ∷ []) (p.text ++ said) t ([], inr (last, refl), inr (refl, end))
    (Told-then o p.lines (line ∷ []) fresh s t p.text said p.told (Told-one o s t line said tells)) (Appends-trans d e f p.text said p.appends appends) finishes

-- behind `?quit`
pub Ends-over : (outcome : Outcome) {n : ℕ} {o : Shows} {a b c d : Option (List ℕ)} (e : Option (List ℕ)) {s : State} {behind : List ℕ} → Reached n o a b c d s behind
    → s.over ≡ true → length behind ≤ READ_ROOM → Finishes outcome d e s.bad → Ends o outcome a b c e s
Ends-over outcome {o = o} {a = a} {b = b} {c = c} {d = d} e {s = s} {behind = behind} p over few finishes =
    Ends-finished outcome o a b c d e p.lines p.text s (behind, inl p.cut, inl (over, few)) p.told p.appends finishes

-- at a fault between lines
pub Front-between : {n : ℕ} {o : Shows} {a b c d e f : Option (List ℕ)} {s : State} {old : List ℕ} → Reached n o a b d e s old → Left b c old → Keeps e f
    → ToldFront o a c d f
Front-between {d = d} {e = e} {f = f} {s = s} {old = old} p left keeps = record {
  lines = p.lines;
  behind = old ++ left.read;
  text = p.text;
  last = s;
  written = p.text;
  unwritten = ending s.bad;
  first = inl (Cut-read p.cut left);
  untold = left.one;
  told = p.told;
  whole = refl;
  appends = Appends-kept d e f p.text p.appends keeps;
}

-- and no more was told
pub Lines-between : {n : ℕ} {o : Shows} {a b c d e f : Option (List ℕ)} {s : State} {old : List ℕ} → Reached n o a b d e s old → Left b c old → Keeps e f
    → ToldLines o a c d f
Lines-between {d = d} {e = e} {f = f} {s = s} {old = old} p left keeps = record {
  lines = p.lines;
  behind = old ++ left.read;
  text = p.text;
  last = s;
  first = inl (Cut-read p.cut left);
  untold = left.one;
  told = p.told;
  appends = Appends-kept d e f p.text p.appends keeps;
}

pub Ended-between : {n : ℕ} {o : Shows} {a b c d e f : Option (List ℕ)} {s : State} {old : List ℕ} (line : List ℕ) → Reached n o a b d e s old
    → Begun b c old line → Keeps e f → ToldEnded o a c d f s
Ended-between {a = a} {b = b} {c = c} {d = d} {e = e} {f = f} {s = s} line p begun keeps = record {
  lines = p.lines;
  begun = line ++ begun.behind;
  text = p.text;
  cut = Cut-behind line begun.behind p.cut begun.parted;
  whole = elim begun.none [
    | inl none ↦ inl (ap (λ l. has_newline (line ++ l)) none ∙ ap has_newline (append-nil line) ∙ begun.parted.whole)
    | inr spent ↦ inr (Spent-behind p.cut spent)
  ];
  told = p.told;
  appends = Appends-kept d e f p.text p.appends keeps;
}

-- where the next line can't be had
pub Ends-between : (outcome : Outcome) {n : ℕ} {o : Shows} {a b c d e : Option (List ℕ)} (f g : Option (List ℕ)) {s : State} {old : List ℕ} (line : List ℕ)
    → Reached n o a b d e s old → (outcome ≡ ReadFault → Begun b c old line) → Left b c old → Keeps e f → Keeps f g
    → (outcome ≡ ReadFault) ⊎ (outcome ≡ WriteFault) ⊎ (outcome ≡ NoMemory) → Ends o outcome a c d g s
Ends-between ReadFault {e = e} f g line p begun left keeps kept is = Ended-between line p (begun refl) (Keeps-trans e f g keeps kept)
Ends-between WriteFault {e = e} f g line p begun left keeps kept is = Front-between p left (Keeps-trans e f g keeps kept)
Ends-between NoMemory {e = e} f g line p begun left keeps kept is = Lines-between p left (Keeps-trans e f g keeps kept)
Ends-between Done f g line p begun left keeps kept (inl is) = absurd (cc)
Ends-between Done f g line p begun left keeps kept (inr (inl is)) = absurd (cc)
Ends-between Done f g line p begun left keeps kept (inr (inr is)) = absurd (cc)
Ends-between BadLine f g line p begun left keeps kept (inl is) = absurd (cc)
Ends-between BadLine f g line p begun left keeps kept (inr (inl is)) = absurd (cc)
Ends-between BadLine f g line p begun left keeps kept (inr (inr is)) = absurd (cc)

-- the writer stopped within what is told of a line
front_within : {W : Type 0} (contents : W → Option (List ℕ)) (w v : Counts W) (o : Shows) (a c d : Option (List ℕ)) (lines : List (List ℕ)) (line behind text said : List ℕ) (s t : State)
    → AreFirst a c (lines ++ line ∷ []) behind → IsOneLine behind → Told o fresh lines text s → Appends d (contents w.inner) text → Tells o s line said t
    → WroteFront contents w v said → ToldFront o a c d (contents v.inner)
front_within contents w v o a c d lines line behind text said s t first untold told appends tells front = record {
  lines = lines ++ line ∷ [];
  behind = behind;
  text = text ++ said;
  last = t;
  written = text ++ front.written;
  unwritten = front.unwritten ++ ending t.bad;
  first = first;
  untold = untold;
  told = Told-then o lines (line ∷ []) fresh s t text said told (Told-one o s t line said tells);
  whole = ap (λ x. (text ++ x) ++ ending t.bad) front.whole
      ∙ ap (λ x. x ++ ending t.bad) (sym (append_assoc text front.written front.unwritten))
      ∙ append_assoc (text ++ front.written) front.unwritten (ending t.bad);
  appends = Appends-trans d (contents w.inner) (contents v.inner) text front.written appends front.appends;
}

front_kept : {o : Shows} {a c d e f : Option (List ℕ)} → ToldFront o a c d e → Keeps e f → ToldFront o a c d f
front_kept {d = d} {e = e} {f = f} p keeps = record {
  lines = p.lines;
  behind = p.behind;
  text = p.text;
  last = p.last;
  written = p.written;
  unwritten = p.unwritten;
  first = p.first;
  untold = p.untold;
  told = p.told;
  whole = p.whole;
  appends = Appends-kept d e f p.written p.appends keeps;
}

-- a line can't be told to its end
pub Front-line : {W : Type 0} (contents : W → Option (List ℕ)) (w v : Counts W) {n : ℕ} {o : Shows} {a b c d : Option (List ℕ)} (e : Option (List ℕ)) {s : State} {old : List ℕ}
    (fault : Fault) (line rest : List ℕ) (t : State) → Reached n o a b d (contents w.inner) s old → Parted b c old line (10 ∷ rest)
    → length rest ≤ READ_ROOM → Broke contents o fault s line t w v → Keeps (contents v.inner) e → ToldFront o a c d e
Front-line contents w v e broken.Read line rest t p parted few broke keeps = absurd broke
Front-line contents w v {o = o} {a = a} {c = c} {d = d} e {s = s} broken.Write line rest t p parted few (said, tells, front) keeps =
    front_kept (front_within contents w v o a c d p.lines line rest p.text said s t (inl (Cut-line line rest p.cut parted)) (few_left rest few) p.told p.appends tells front) keeps
Front-line contents w v {d = d} e broken.NoMemory line rest t p parted few broke keeps =
    Front-between p (Left-parted parted (omega (arith, few))) (subst (λ (x : Counts _). Keeps (contents x.inner) e) broke keeps)

-- nor can the last one
pub Front-last : {W : Type 0} (contents : W → Option (List ℕ)) (w v : Counts W) {n : ℕ} {o : Shows} {a b c d : Option (List ℕ)} (e : Option (List ℕ)) {s : State} {old : List ℕ}
    (fault : Fault) (line : List ℕ) (t : State) → Reached n o a b d (contents w.inner) s old → Parted b c old line [] × IsAtEnd c × (line ≢ [])
    → Broke contents o fault s line t w v → Keeps (contents v.inner) e → ToldFront o a c d e
Front-last contents w v e broken.Read line t p parted broke keeps = absurd broke
Front-last contents w v {o = o} {a = a} {c = c} {d = d} e {s = s} broken.Write line t p (parted, end, some) (said, tells, front) keeps =
    let last : CutLast a c (p.lines ++ line ∷ []) = record { whole = p.lines; last = line; cut = Cut-rest line p.cut parted; line = parted.whole; some = some; lines_are = refl; at_end = end } in
    front_kept (front_within contents w v o a c d p.lines line [] p.text said s t (inr (last, refl)) none_left p.told p.appends tells front) keeps
Front-last contents w v e broken.NoMemory line t p (parted, end, some) broke keeps =
    Front-between p (Left-parted parted (omega arith)) (subst (λ (x : Counts _). Keeps (contents x.inner) e) broke keeps)

-- where there was no memory for a line it isn't told at all
pub Lines-line : {W : Type 0} (contents : W → Option (List ℕ)) (w v : Counts W) {n : ℕ} {o : Shows} {a b c d : Option (List ℕ)} (e : Option (List ℕ)) {s : State} {old : List ℕ}
    (fault : Fault) (line : List ℕ) (t : State) → Reached n o a b d (contents w.inner) s old → Left b c old
    → Broke contents o fault s line t w v → fault ≡ broken.NoMemory → Keeps (contents v.inner) e → ToldLines o a c d e
Lines-line contents w v e broken.Read line t p left broke is keeps = absurd broke
Lines-line contents w v e broken.Write line t p left broke is keeps = absurd (cc)
Lines-line contents w v e broken.NoMemory line t p left broke is keeps =
    Lines-between p left (subst (λ (x : Counts _). Keeps (contents x.inner) e) broke keeps)

-- so the run ends, which no read did
pub Ends-front : (outcome : Outcome) {o : Shows} {a c d e : Option (List ℕ)} (s : State) → ToldFront o a c d e → (outcome ≡ NoMemory → ToldLines o a c d e) → outcome ≢ ReadFault
    → (outcome ≡ ReadFault) ⊎ (outcome ≡ WriteFault) ⊎ (outcome ≡ NoMemory) → Ends o outcome a c d e s
Ends-front WriteFault s p lines not is = p
Ends-front NoMemory s p lines not is = lines refl
Ends-front ReadFault s p lines not is = absurd (not refl)
Ends-front Done s p lines not (inl is) = absurd (cc)
Ends-front Done s p lines not (inr (inl is)) = absurd (cc)
Ends-front Done s p lines not (inr (inr is)) = absurd (cc)
Ends-front BadLine s p lines not (inl is) = absurd (cc)
Ends-front BadLine s p lines not (inr (inl is)) = absurd (cc)
Ends-front BadLine s p lines not (inr (inr is)) = absurd (cc)

-- a fault that isn't of reading stops as none
pub not_read : {W : Type 0} (contents : W → Option (List ℕ)) (w v : Counts W) (o : Shows) (s t : State) (line : List ℕ) (fault : Fault) → Broke contents o fault s line t w v → fault ≢ broken.Read
not_read contents w v o s t line broken.Read broke is = broke
not_read contents w v o s t line broken.Write broke is = absurd (cc)
not_read contents w v o s t line broken.NoMemory broke is = absurd (cc)

-- ---- ends that come of nothing that was read

-- memory for the reader of lines can't be had
pub Lines-none : (o : Shows) (a c : Option (List ℕ)) → ToldLines o a a c c
Lines-none o a c = record {
  lines = [];
  behind = [];
  text = [];
  last = fresh;
  first = inl (Cut-none a);
  untold = none_left;
  told = (refl, refl);
  appends = Appends-nil c;
}

pub Front-now : {n : ℕ} {o : Shows} {a b d e f : Option (List ℕ)} {s : State} {old : List ℕ} → Reached n o a b d e s old → length old ≤ READ_ROOM → Keeps e f
    → ToldFront o a b d f
Front-now p few keeps = Front-between p (Left-needed (inl refl) few) keeps

-- each line has a newline behind it
newlines_many : (lines : List (List ℕ)) → length lines ≤ length (with_newlines lines)
newlines_many [] = omega arith
newlines_many (l ∷ lines) = omega (arith, newlines_many lines, length-append l (10 ∷ with_newlines lines))

-- as many lines were told as there are turns
pub Spent-turns : {n : ℕ} {o : Shows} {a b d e : Option (List ℕ)} {s : State} {old : List ℕ} → Reached n o a b d e s old → 2 ^ 64 - 1 ≤ n → Spent a b
Spent-turns {old = old} p all = record {
  read = p.cut.read;
  consumes = p.cut.consumes;
  many = omega (arith, all, p.many, newlines_many p.lines, ap length p.cut.parts, length-append (with_newlines p.lines) old);
}

pub Ended-turns : {n : ℕ} {o : Shows} {a b d e f : Option (List ℕ)} {s : State} {old : List ℕ} → Reached n o a b d e s old → 2 ^ 64 - 1 ≤ n → Keeps e f → ToldEnded o a b d f s
Ended-turns {d = d} {e = e} {f = f} {s = s} {old = old} p all keeps = record {
  lines = p.lines;
  begun = old;
  text = p.text;
  cut = p.cut;
  whole = inr (Spent-turns p all);
  told = p.told;
  appends = Appends-kept d e f p.text p.appends keeps;
}
