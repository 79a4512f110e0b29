-- Messages that are joined and cut again are the same messages.
use Rattle.std.proofs.Common.{◌≡◌, ℕ, ◌+◌, ◌<◌, ◌≤◌, zero, suc, Bool, true, false, List, [], ◌∷◌, ◌++◌, length, take, drop, refl, sym, ap, ◌∙◌, arith, length-append, append-nil}
use Rattle.std.specs.List.{AllByRecursion}
use Rattle.std.proofs.lemmas.Grind.{flat_map-append}
use Rattle.std.proofs.lemmas.List.{get_or_append_left}
use Rattle.std.proofs.Math.Seq.{take-append_seam, drop-append_seam}
use Rattle.listeners.specs.Queue.{fits, length_field, IsKept, IsMessage, joined, cut_at_most, cut, AreMessages}
use Rattle.std.proofs.lemmas.Bool.{leb-true}
use Rattle.listeners.specs.declared.limits.TheConstants.{MOST_QUEUED}

-- what stands behind a message doesn't change the length that it says
length_field-append : (m rest : List ℕ) → IsMessage m → length_field (m ++ rest) ≡ length m
length_field-append m rest h =
    let some : 0 < length m = omega (arith, h.least) in
    let more : 1 < length m = omega (arith, h.least) in
    rw (get_or_append_left m rest 0 0 some, get_or_append_left m rest 0 1 more) h.says_length

-- the front of the bytes is cut off, if there is a byte and a message may still come
cut-step : (fuel : ℕ) (bytes : List ℕ) → 0 < length bytes → cut_at_most (suc fuel) bytes ≡ take (length_field bytes) bytes ∷ cut_at_most fuel (drop (length_field bytes) bytes)
cut-step fuel [] h = absurd (omega (arith, h))
cut-step fuel (b ∷ bs) h = refl

cut-message : (fuel : ℕ) (m rest : List ℕ) → IsMessage m → cut_at_most (suc fuel) (m ++ rest) ≡ m ∷ cut_at_most fuel rest
cut-message fuel m rest h =
    let some : 0 < length (m ++ rest) = omega (arith, h.least, length-append m rest) in
    let long : length_field (m ++ rest) ≡ length m = length_field-append m rest h in
    let first : take (length_field (m ++ rest)) (m ++ rest) ≡ m = ap (λ n. take n (m ++ rest)) long ∙ take-append_seam m rest in
    let behind : drop (length_field (m ++ rest)) (m ++ rest) ≡ rest = ap (λ n. drop n (m ++ rest)) long ∙ drop-append_seam m rest in
    cut-step fuel (m ++ rest) some ∙ ap (λ x. x ∷ cut_at_most fuel (drop (length_field (m ++ rest)) (m ++ rest))) first ∙ ap (λ x. m ∷ cut_at_most fuel x) behind

cut_at_most-joined : (fuel : ℕ) (ms : List (List ℕ)) → AllByRecursion IsMessage ms → length (joined ms) ≤ fuel → cut_at_most fuel (joined ms) ≡ ms
cut_at_most-joined zero [] h enough = refl
cut_at_most-joined (suc fuel) [] h enough = refl
cut_at_most-joined zero (m ∷ ms) h enough = absurd (omega (arith, h.0.least, enough, length-append m (joined ms)))
cut_at_most-joined (suc fuel) (m ∷ ms) h enough =
    let left : length (joined ms) ≤ fuel = omega (arith, h.0.least, enough, length-append m (joined ms)) in
    cut-message fuel m (joined ms) h.0 ∙ ap (λ x. m ∷ x) (cut_at_most-joined fuel ms h.1 left)

-- messages that are joined are cut into the same messages
pub cut-joined : (ms : List (List ℕ)) → AllByRecursion IsMessage ms → cut (joined ms) ≡ ms
cut-joined ms h = cut_at_most-joined (length (joined ms)) ms h (omega arith)

pub whole-joined : (ms : List (List ℕ)) → AllByRecursion IsMessage ms → AreMessages (joined ms)
whole-joined ms h = record {
  each = rw (cut-joined ms h) h;
  all = ap (λ x. joined x) (cut-joined ms h);
}

-- one message at the end
joined-push : (ms : List (List ℕ)) (m : List ℕ) → joined (ms ++ m ∷ []) ≡ joined ms ++ m
joined-push ms m = flat_map-append (λ x. x) ms (m ∷ []) ∙ ap (λ x. joined ms ++ x) (append-nil m)

-- one that fits makes not too many bytes of them
pub bounded-push : (ms : List (List ℕ)) (m : List ℕ) → fits ms m ≡ true → length (joined (ms ++ m ∷ [])) ≤ MOST_QUEUED
bounded-push ms m room =
    let most : length (joined ms) + length m ≤ MOST_QUEUED = leb-true _ _ room in
    rw (joined-push ms m) (omega (arith, most, length-append (joined ms) m))

All-push : (ms : List (List ℕ)) (m : List ℕ) → AllByRecursion IsMessage ms → IsMessage m → AllByRecursion IsMessage (ms ++ m ∷ [])
All-push [] m h one = (one, tt)
All-push (x ∷ ms) m h one = (h.0, All-push ms m h.1 one)

pushed : (bytes m : List ℕ) → AreMessages bytes → joined (cut bytes ++ m ∷ []) ≡ bytes ++ m
pushed bytes m h = joined-push (cut bytes) m ∙ ap (λ x. x ++ m) h.all

-- a message behind whole messages comes last
pub cut-push : (bytes m : List ℕ) → AreMessages bytes → IsMessage m → cut (bytes ++ m) ≡ cut bytes ++ m ∷ []
cut-push bytes m h one = sym (ap (λ x. cut x) (pushed bytes m h)) ∙ cut-joined (cut bytes ++ m ∷ []) (All-push (cut bytes) m h.each one)

pub whole-push : (bytes m : List ℕ) → AreMessages bytes → IsMessage m → AreMessages (bytes ++ m)
whole-push bytes m h one = rw (← pushed bytes m h) (whole-joined (cut bytes ++ m ∷ []) (All-push (cut bytes) m h.each one))

-- a message for which there is room is kept behind those that wait
pub kept-push : (bytes m : List ℕ) (capacity more : ℕ) (messages : List (List ℕ)) → IsKept bytes capacity
    → cut bytes ≡ messages → IsMessage m → length (joined messages) + length m ≤ MOST_QUEUED → capacity ≤ more
    → IsKept (bytes ++ m) more
kept-push bytes m capacity more messages h same one room grows =
    let long : length (joined messages) ≡ length bytes =
    ap (λ (ms : List (List ℕ)). length (joined ms)) (sym same) ∙ ap (λ (xs : List ℕ). length xs) h.whole.all in
    record {
      whole = whole-push bytes m h.whole one;
      few = omega (arith, long, length-append bytes m, room);
      room = omega (arith, h.room, grows);
    }

-- whole messages of which there is a byte: the first of them, and the rest
pub record BeginsWith (n : ℕ) (bytes : List ℕ) : Type 0 where
  pub least : 20 ≤ n
  pub fits : n ≤ length bytes
  pub first : IsMessage (take n bytes)
  pub messages : cut bytes ≡ take n bytes ∷ cut (drop n bytes)
  pub rest : AreMessages (drop n bytes)

begins-joined : (m : List ℕ) (ms : List (List ℕ)) → IsMessage m → AllByRecursion IsMessage ms → BeginsWith (length_field (m ++ joined ms)) (m ++ joined ms)
begins-joined m ms h hs =
    let bytes = m ++ joined ms in
    let long : length_field bytes ≡ length m = length_field-append m (joined ms) h in
    let front : take (length_field bytes) bytes ≡ m = ap (λ n. take n bytes) long ∙ take-append_seam m (joined ms) in
    let behind : drop (length_field bytes) bytes ≡ joined ms = ap (λ n. drop n bytes) long ∙ drop-append_seam m (joined ms) in
    let after : cut (drop (length_field bytes) bytes) ≡ ms = ap (λ x. cut x) behind ∙ cut-joined ms hs in
    record {
      least = omega (arith, long, h.least);
      fits = omega (arith, long, length-append m (joined ms));
      first = rw front h;
      messages = cut-joined (m ∷ ms) (h, hs) ∙ ap (λ x. x ∷ ms) (sym front) ∙ ap (λ x. take (length_field bytes) bytes ∷ x) (sym after);
      rest = rw behind (whole-joined ms hs);
    }

begins-as : (ms : List (List ℕ)) (bytes : List ℕ) → AllByRecursion IsMessage ms → joined ms ≡ bytes → 0 < length bytes → BeginsWith (length_field bytes) bytes
begins-as [] bytes h e some = absurd (let none : length bytes ≡ 0 = ap (λ x. length x) (sym e) in omega (arith, none, some))
begins-as (m ∷ ms) bytes h e some = rw (← e) (begins-joined m ms h.0 h.1)

pub whole-begins : (bytes : List ℕ) → AreMessages bytes → 0 < length bytes → BeginsWith (length_field bytes) bytes
whole-begins bytes h some = begins-as (cut bytes) bytes h.each h.all some
