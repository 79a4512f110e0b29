-- The laws of what a socket has of what it heard.
use Rattle.std.proofs.Common.{◌≡◌, ◌≤◌, ◌<◌, ◌+◌, ◌-◌, ◌^◌, ℕ, Bool, true, false, List, [], ◌∷◌, ◌++◌, length, map, Option, inl, inr, refl, sym, ap, ◌∙◌, arith, length-append, if◌then◌else◌}
use Rattle.listeners.specs.declared.limits.TheConstants.{MOST_QUEUED}
use Rattle.listeners.specs.Kept.{Delivery, Event, Heard, Read, Kept, kept, after_deliveries, after_event, after_events, heard_of, heard_since, IsSublist, DeliveriesAreEvents, EventsInParts, KeptAreHeard, KeptIsBounded, KeptOrCounted, nothing_kept}
use Rattle.listeners.specs.Queue.{fits, joined, one_more}
use Rattle.listeners.specs.SocketLaws.{bare}
use Rattle.listeners.specs.Sockets.{Socket, after_delivery, after_hearing, hears}
use Rattle.listeners.proofs.QueueLemmas.{bounded-push}
use Rattle.listeners.proofs.SocketLawsProved.{bare_stays}

-- DELIVERIES

heard-bare : (ds : List Delivery) (s : Socket) → heard_of ds s ≡ heard_of ds (bare s)
heard-bare [] s = refl
heard-bare (d ∷ ds) s =
    ap (λ (es : List Event). if hears d.family d.own s then Heard d.message ∷ es else es) (heard-bare ds s)

kept-delivered : (message : List ℕ) (family : ℕ) (own : Option (List ℕ)) (s : Socket)
    → kept (after_delivery message family own s) ≡ (if hears family own s then after_event (Heard message) (kept s) else kept s)
kept-delivered message family own s =
    let appended : Socket = record s { messages = s.messages ++ message ∷ [] } in
    let counted : Socket = record s { lost = one_more s.lost } in
    let heard : kept (after_hearing message s) ≡ after_event (Heard message) (kept s) =
    elim (fits s.messages message) as (λ b. kept (if b then appended else counted) ≡ (if b then kept appended else kept counted)) [ true ↦ refl | false ↦ refl ] in
    elim (hears family own s) as (λ b. kept (if b then after_hearing message s else s) ≡ (if b then after_event (Heard message) (kept s) else kept s))
    [ true ↦ heard | false ↦ refl ]

pub deliveries_are_events : DeliveriesAreEvents
deliveries_are_events [] s = refl
deliveries_are_events (d ∷ ds) s =
    let after = after_delivery d.message d.family d.own s in
    let same : heard_of ds after ≡ heard_of ds s = heard-bare ds after ∙ ap (λ (x : Socket). heard_of ds x) (bare_stays d.message d.family d.own s) ∙ sym (heard-bare ds s) in
    deliveries_are_events ds after
    ∙ ap (λ (es : List Event). after_events es (kept after)) same
    ∙ ap (λ (k : Kept). after_events (heard_of ds s) k) (kept-delivered d.message d.family d.own s)
    ∙ (elim (hears d.family d.own s) as (λ b. after_events (heard_of ds s) (if b then after_event (Heard d.message) (kept s) else kept s) ≡ after_events (if b then Heard d.message ∷ heard_of ds s else heard_of ds s) (kept s))
    [ true ↦ refl | false ↦ refl ])

pub events_in_parts : EventsInParts
events_in_parts [] later k = refl
events_in_parts (e ∷ es) later k = events_in_parts es later (after_event e k)

-- A SUBLIST OF WHAT WAS HEARD

none-of : (ys : List (List ℕ)) → IsSublist [] ys
none-of [] = tt
none-of (y ∷ ys) = tt

both-longer : (xs ys : List (List ℕ)) (m : List ℕ) → IsSublist xs ys → IsSublist (xs ++ m ∷ []) (ys ++ m ∷ [])
both-longer [] [] m h = inl (refl, tt)
both-longer (x ∷ xs) [] m h = absurd h
both-longer [] (y ∷ ys) m h = inr (both-longer [] ys m (none-of ys))
both-longer (x ∷ xs) (y ∷ ys) m h = elim h [ inl p ↦ inl (p.0, both-longer xs ys m p.1) | inr q ↦ inr (both-longer (x ∷ xs) ys m q) ]

longer : (xs ys : List (List ℕ)) (m : List ℕ) → IsSublist xs ys → IsSublist xs (ys ++ m ∷ [])
longer [] ys m h = none-of (ys ++ m ∷ [])
longer (x ∷ xs) [] m h = absurd h
longer (x ∷ xs) (y ∷ ys) m h = elim h [ inl p ↦ inl (p.0, longer xs ys m p.1) | inr q ↦ inr (longer (x ∷ xs) ys m q) ]

still-heard : (es : List Event) (k : Kept) (ms : List (List ℕ)) → IsSublist k.messages ms → IsSublist (after_events es k).messages (heard_since ms es)
still-heard [] k ms h = h
still-heard (Heard m ∷ es) k ms h =
    let appended : Kept = record k { messages = k.messages ++ m ∷ [] } in
    let counted : Kept = record k { lost = one_more k.lost } in
    let now : IsSublist (after_event (Heard m) k).messages (ms ++ m ∷ []) =
    elim (fits k.messages m) as (λ b. IsSublist (if b then appended else counted).messages (ms ++ m ∷ []))
    [ true ↦ both-longer k.messages ms m h | false ↦ longer k.messages ms m h ] in
    still-heard es (after_event (Heard m) k) (ms ++ m ∷ []) now
still-heard (Read ∷ es) k ms h = still-heard es (after_event Read k) [] tt

pub kept_are_heard : KeptAreHeard
kept_are_heard es = still-heard es nothing_kept [] tt

-- THE BOUND

still-bounded : (es : List Event) (k : Kept) → length (joined k.messages) ≤ MOST_QUEUED → length (joined (after_events es k).messages) ≤ MOST_QUEUED
still-bounded [] k h = h
still-bounded (Heard m ∷ es) k h =
    let appended : Kept = record k { messages = k.messages ++ m ∷ [] } in
    let counted : Kept = record k { lost = one_more k.lost } in
    let now : length (joined (after_event (Heard m) k).messages) ≤ MOST_QUEUED =
    elim (fits k.messages m) as (λ b. fits k.messages m ≡ b → length (joined (if b then appended else counted).messages) ≤ MOST_QUEUED)
    [ true ↦ λ room. bounded-push k.messages m room | false ↦ λ _. h ] refl in
    still-bounded es (after_event (Heard m) k) now
still-bounded (Read ∷ es) k h = still-bounded es (after_event Read k) (omega arith)

pub kept_is_bounded : KeptIsBounded
kept_is_bounded es = still-bounded es nothing_kept (omega arith)

-- KEPT OR COUNTED

one-later : (k : Kept) (m : List ℕ) → k.lost < 2 ^ 64 - 1 → let after = after_event (Heard m) k in (length after.messages + after.lost ≡ length k.messages + k.lost + 1) × (after.lost ≤ k.lost + 1)
one-later k m few =
    let appended : Kept = record k { messages = k.messages ++ m ∷ [] } in
    let counted : Kept = record k { lost = one_more k.lost } in
    let counts : one_more k.lost ≡ k.lost + 1 = omega arith in
    elim (fits k.messages m) as (λ b. let after : Kept = if b then appended else counted in
    (length after.messages + after.lost ≡ length k.messages + k.lost + 1) × (after.lost ≤ k.lost + 1)) [
      | true ↦ (omega (arith, length-append k.messages (m ∷ [])), omega arith)
      | false ↦ (omega (arith, counts), omega (arith, counts))
    ]

pub kept_or_counted : KeptOrCounted
kept_or_counted [] k few = omega arith
kept_or_counted (m ∷ ms) k few =
    let one = one-later k m (omega (arith, few)) in
    let rest = kept_or_counted ms (after_event (Heard m) k) (omega (arith, few, one.1)) in
    omega (arith, rest, one.0)
