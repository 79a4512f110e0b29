-- Addresses of an interface's kind: they stay so, and lead nowhere where the kind has no other end.
use Rattle.std.proofs.Common.{◌≡◌, ℕ, zero, suc, ◌&&◌, Bool, true, false, cond, not, List, [], ◌∷◌, ◌++◌, Some, None, Result, Ok, Err, refl, sym, ap, ◌∙◌}
use Rattle.std.specs.Prelude.{OnOk, OnErr}
use Rattle.std.specs.List.{find}
use Rattle.if_addrs.specs.Homes.{AreOf}
use Rattle.if_addrs.specs.Interfaces.{Address}
use Rattle.if_addrs.specs.Searches.{has_other_end}
use Rattle.if_addrs.specs.Wanted.{is_wanted, marked, marked_at}
use Rattle.if_addrs.specs.declared.address.Mark.{Mark}
use Rattle.if_addrs.specs.declared.address.Mark.TheVariants.{Routed, Gone}
use Rattle.if_addrs.specs.declared.address.Wanted.TheVariants.{Far}
use Rattle.if_addrs.specs.declared.kind.Kind.{Kind}

-- THEY STAY SO

appended : (kind : Kind) (a : Address) (xs : List Address) → a.kind ≡ kind → AreOf kind xs → AreOf kind (xs ++ a ∷ [])
appended kind a [] one h = (one, tt)
appended kind a (x ∷ xs) one h = (h.0, appended kind a xs one h.1)

pub still_of : {X E : Type 0} (r : Result X E) (kind : Kind) (xs zs : List Address) (a : Address) → a.kind ≡ kind → AreOf kind xs
    → OnOk r (zs ≡ xs ++ a ∷ []) → OnErr r (zs ≡ xs) → AreOf kind zs
still_of (Ok u) kind xs zs a one h grown same = rw grown (appended kind a xs one h)
still_of (Err e) kind xs zs a one h grown same = rw same h

one_marked : (mark : Mark) (x : Address) → (marked mark x).kind ≡ x.kind
one_marked Routed x = refl
one_marked Gone x = refl

pub still_of_marked : (kind : Kind) (place : ℕ) (mark : Mark) (xs : List Address) → AreOf kind xs → AreOf kind (marked_at place mark xs)
still_of_marked kind place mark [] h = tt
still_of_marked kind zero mark (x ∷ xs) h = (one_marked mark x ∙ h.0, h.1)
still_of_marked kind (suc place) mark (x ∷ xs) h = (h.0, still_of_marked kind place mark xs h.1)

-- THEY LEAD NOWHERE

no_far : (address : ℕ) (x : Address) → has_other_end x.kind ≡ false → is_wanted (Far address) x ≡ false
no_far address x h = rw h (elim x.removed as (λ b. (not b && false) ≡ false) [ true ↦ refl | false ↦ refl ])

pub none_far : (kind : Kind) (address : ℕ) (xs : List Address) → has_other_end kind ≡ false → AreOf kind xs → None ≡ find (is_wanted (Far address)) xs
none_far kind address [] other h = refl
none_far kind address (x ∷ xs) other h =
    none_far kind address xs other h.1
    ∙ sym (ap (λ (b : Bool). cond b (Some x) (find (is_wanted (Far address)) xs)) (no_far address x (ap (λ (k : Kind). has_other_end k) h.0 ∙ other)))
