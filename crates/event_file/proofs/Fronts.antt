-- How what several writes took is put together.
use Rattle.std.proofs.Common.{◌≡◌, ℕ, ◌<◌, ◌+◌, ◌-◌, List, [], ◌++◌, Option, Some, None, refl, sym, ap, ◌∙◌, append_assoc, append-nil, take, drop, subst, arith, length-drop}
use Rattle.std.specs.Prelude.{zero, suc, ◌≤◌, ◌∷◌, length, Result, Ok, Err, OnErr, true, false}
use Rattle.std.proofs.lemmas.Bool.{ne_eqb}
use Rattle.std.proofs.lemmas.List.{take_all}
use Rattle.std.specs.Result.{result_unwrap_or}
use Rattle.std.specs.Io.{WritesAtMost}
use Rattle.std.specs.Io.KnownBytes.{Appends, Keeps, WriteAppends}
use Rattle.std.proofs.KnownBytes.{Appends-nil, Appends-trans}
use Rattle.event_file.specs.Counts.{Counts, one_more, one_more_if, write_failed}
use Rattle.event_file.specs.Output.{KeptBack, Wrote, WroteFront}

-- what keeps the bytes appends none
pub Appends-kept_nil : (a b : Option (List ℕ)) → Keeps a b → Appends a b []
Appends-kept_nil None b p = tt
Appends-kept_nil (Some x) None p = absurd p
Appends-kept_nil (Some x) (Some y) p = p ∙ sym (append-nil x)

-- a write that took some of at least one byte did not fail, and one that took none did
not_failed : {E : Type 0} (r : Result ℕ E) (bs : List ℕ) → (result_unwrap_or r 0 ≡ 0 → ⊥) → write_failed r bs ≡ false
not_failed (Ok zero) bs h = absurd (h refl)
not_failed (Ok (suc n)) bs h = rw (ne_eqb (suc n) 0 h) refl
not_failed (Err e) bs h = absurd (h refl)

failed : {E : Type 0} (r : Result ℕ E) (bs : List ℕ) → result_unwrap_or r 0 ≡ 0 → 0 < length bs → write_failed r bs ≡ true
failed (Ok zero) [] h some = absurd (omega (arith, some))
failed (Ok zero) (b ∷ bs) h some = rw (ne_eqb (length (b ∷ bs)) 0 (λ e. omega (arith, e, some))) refl
failed (Ok (suc n)) bs h some = absurd (omega (arith, h))
failed (Err e) bs h some = refl

taken_appends : {E : Type 0} (a b : Option (List ℕ)) (r : Result ℕ E) (bs : List ℕ) → WriteAppends a b r bs → Appends a b (take (result_unwrap_or r 0) bs)
taken_appends a b (Ok n) bs p = p
taken_appends a b (Err e) bs p = Appends-kept_nil a b p

pub taken_fits : {E : Type 0} (r : Result ℕ E) (bs : List ℕ) → WritesAtMost r bs → result_unwrap_or r 0 ≤ length bs
taken_fits (Ok n) bs p = p
taken_fits (Err e) bs p = omega arith

module _ {T : Type 0} {contents : T → Option (List ℕ)} where
  pub Wrote-nil : (w : Counts T) → Wrote contents w w []
  Wrote-nil w = record { appends = Appends-nil (contents w.inner); failures = refl; reads = refl }

  pub Wrote-then : {a b c : Counts T} {t u : List ℕ} → Wrote contents a b t → Wrote contents b c u → Wrote contents a c (t ++ u)
  Wrote-then {a} {b} {c} {t} {u} p q = record {
    appends = Appends-trans (contents a.inner) (contents b.inner) (contents c.inner) t u p.appends q.appends;
    failures = q.failures ∙ p.failures;
    reads = q.reads ∙ p.reads;
  }

  -- a failed write took nothing
  pub WroteFront-here : (a b : Counts T) (t : List ℕ) → Appends (contents a.inner) (contents b.inner) [] → b.failures ≡ a.failures + 1 → b.reads ≡ a.reads → WroteFront contents a b t
  WroteFront-here a b t p f r = record { written = []; unwritten = t; whole = refl; appends = p; failures = f; reads = r }

  pub WroteFront-more : {a b : Counts T} {t : List ℕ} (u : List ℕ) → WroteFront contents a b t → WroteFront contents a b (t ++ u)
  WroteFront-more u p = record {
    written = p.written;
    unwritten = p.unwritten ++ u;
    whole = ap (λ l. l ++ u) p.whole ∙ append_assoc p.written p.unwritten u;
    appends = p.appends;
    failures = p.failures;
    reads = p.reads;
  }

  pub WroteFront-then : {a b c : Counts T} {t u : List ℕ} → Wrote contents a b t → WroteFront contents b c u → WroteFront contents a c (t ++ u)
  WroteFront-then {a} {b} {c} {t} {u} p q = record {
    written = t ++ q.written;
    unwritten = q.unwritten;
    whole = ap (λ l. t ++ l) q.whole ∙ sym (append_assoc t q.written q.unwritten);
    appends = Appends-trans (contents a.inner) (contents b.inner) (contents c.inner) t q.written p.appends q.appends;
    failures = let e = p.failures in let f = q.failures in omega arith;
    reads = q.reads ∙ p.reads;
  }

  -- nothing was written, and all is kept back
  pub KeptBack-all : (w : Counts T) (t : List ℕ) → KeptBack contents w w t t
  KeptBack-all w t = record { written = []; whole = refl; wrote = Wrote-nil w }

  -- what stands before was written
  pub KeptBack-behind : {a b : Counts T} {t : List ℕ} (k : List ℕ) → Wrote contents a b t → KeptBack contents a b (t ++ k) k
  KeptBack-behind {a} {b} {t} k p = record { written = t; whole = refl; wrote = p }

  -- all was written
  pub KeptBack-none : {a b : Counts T} {t : List ℕ} → Wrote contents a b t → KeptBack contents a b t []
  KeptBack-none {a} {b} {t} p = record { written = t; whole = sym (append-nil t); wrote = p }

  -- what is kept back goes on with what comes behind it: kept back itself, written, or stopped
  pub KeptBack-then : {a b c : Counts T} {t k now : List ℕ} (u : List ℕ) → KeptBack contents a b t k → KeptBack contents b c (k ++ u) now → KeptBack contents a c (t ++ u) now
  KeptBack-then {a} {b} {c} {t} {k} {now} u p q = record {
    written = p.written ++ q.written;
    whole = ap (λ l. l ++ u) p.whole ∙ append_assoc p.written k u ∙ ap (λ l. p.written ++ l) q.whole ∙ sym (append_assoc p.written q.written now);
    wrote = Wrote-then p.wrote q.wrote;
  }

  pub KeptBack-stopped : {a b c : Counts T} {t k : List ℕ} (u : List ℕ) → KeptBack contents a b t k → WroteFront contents b c (k ++ u) → WroteFront contents a c (t ++ u)
  KeptBack-stopped {a} {b} {c} {t} {k} u p q =
      subst (λ l. WroteFront contents a c l) (sym (ap (λ l. l ++ u) p.whole ∙ append_assoc p.written k u)) (WroteFront-then p.wrote q)

  -- a write that took some, and one that took none
  pub Wrote-taken : {E : Type 0} (a b : Counts T) (r : Result ℕ E) (bs : List ℕ) → WriteAppends (contents a.inner) (contents b.inner) r bs → b.reads ≡ a.reads
      → b.failures ≡ one_more_if (write_failed r bs) a.failures → (result_unwrap_or r 0 ≡ 0 → ⊥) → Wrote contents a b (take (result_unwrap_or r 0) bs)
  Wrote-taken a b r bs p reads failures some = record {
    appends = taken_appends (contents a.inner) (contents b.inner) r bs p;
    failures = failures ∙ ap (λ f. one_more_if f a.failures) (not_failed r bs some);
    reads = reads;
  }

  pub WroteFront-failed : {E : Type 0} (a b : Counts T) (r : Result ℕ E) (bs : List ℕ) → WriteAppends (contents a.inner) (contents b.inner) r bs → b.reads ≡ a.reads
      → b.failures ≡ one_more_if (write_failed r bs) a.failures → a.failures ≡ 0 → result_unwrap_or r 0 ≡ 0 → 0 < length bs → WroteFront contents a b bs
  WroteFront-failed a b r bs p reads failures clean none some =
      let one : b.failures ≡ 1 = failures ∙ ap (λ f. one_more_if f a.failures) (failed r bs none some) ∙ ap one_more clean in
      WroteFront-here a b bs (subst (λ n. Appends (contents a.inner) (contents b.inner) (take n bs)) none (taken_appends (contents a.inner) (contents b.inner) r bs p)) (omega arith) reads

-- what holds of the exit of a `?`
pub on_err : {X E P : Type 0} (r : Result X E) → P → OnErr r P
on_err (Ok x) p = tt
on_err (Err e) p = p

-- the bytes of `&bytes[at..]`
pub rest_is : (at : ℕ) (bytes : List ℕ) → take (length bytes - at) (drop at bytes) ≡ drop at bytes
rest_is at bytes = take_all (length bytes - at) (drop at bytes) (omega (arith, length-drop at bytes))
