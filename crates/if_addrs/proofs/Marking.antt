-- An address that is marked at its place.
use Rattle.std.proofs.Common.{◌≡◌, ℕ, zero, suc, ◌<◌, List, [], ◌∷◌, length, Some, slice_index_or, slice_set, refl, sym, ap, ◌∙◌, arith}
use Rattle.std.specs.List.{position}
use Rattle.sock_addrs.proofs.FirstLemmas.{change_first-set, first-position}
use Rattle.sock_addrs.specs.First.{change_first}
use Rattle.if_addrs.specs.Interfaces.{Address, has_number}
use Rattle.if_addrs.specs.Wanted.{marked, marked_at}
use Rattle.if_addrs.specs.declared.address.Mark.{Mark}

pub marked_set : (place : ℕ) (mark : Mark) (xs : List Address) (new d : Address) → place < length xs → new ≡ marked mark (slice_index_or xs place d) → slice_set xs place new ≡ marked_at place mark xs
marked_set place mark [] new d h e = absurd (omega (arith, h))
marked_set zero mark (x ∷ xs) new d h e = ap (λ a. a ∷ xs) e
marked_set (suc place) mark (x ∷ xs) new d h e = ap (λ ys. x ∷ ys) (marked_set place mark xs new d (omega (arith, h)) e)

-- it is the first with its number
pub marked_first : (number place : ℕ) (mark : Mark) (xs : List Address) → position (has_number number) xs ≡ Some place → marked_at place mark xs ≡ change_first (has_number number) (marked mark) xs
marked_first number place mark [] h = cc
marked_first number place mark (x ∷ xs) h =
    let first = first-position (has_number number) (x ∷ xs) place x h in
    sym (marked_set place mark (x ∷ xs) (marked mark (slice_index_or (x ∷ xs) place x)) x first.within refl)
    ∙ change_first-set (has_number number) (marked mark) (x ∷ xs) place (marked mark (slice_index_or (x ∷ xs) place x)) x first refl
