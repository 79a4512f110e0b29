-- Finite maps from numbers.
--     get_put, get_gone     what a map answers after an insertion, and after a removal
--     same                  maps that answer alike are equal
--     laid_back             a map is what is left without one entry, with that entry laid back
--     put_back              an entry that is taken out and put back changed is changed
use Rattle.std.proofs.Common.{◌≡◌, ℕ, ◌==◌, Bool, true, false, cond, if◌then◌else◌, Option, Some, None, refl, sym, ap, ◌∙◌}
use Rattle.std.proofs.lemmas.Bool.{eqb-true, eq-eqb}
use Rattle.std.proofs.lemmas.Cmp.{nat_cmp_total}
use Rattle.std.specs.Cmp.{unsigned_tied}
use Rattle.std.specs.Ordering.{nat_cmp}
use Rattle.std.specs.FinMap.{FinMap, get, insert, remove, get-insert, get-remove, same_map, nat_cmp-IsAntisymmetric}

pub same_number : (n : ℕ) → (n == n) ≡ true
same_number n = eq-eqb n n refl

abbrev Map : Type 0 → Type 0
Map X = FinMap nat_cmp X

module _ {X : Type 0} where
  pub get_put : (m : Map X) (k : ℕ) (v : X) (q : ℕ) → get (insert m k v) q ≡ (if q == k then Some v else get m q)
  get_put m k v q = get-insert nat_cmp_total m k v q ∙ ap (λ (b : Bool). cond b (Some v) (get m q)) (unsigned_tied q k)

  pub get_gone : (m : Map X) (k q : ℕ) → get (remove m k) q ≡ (if q == k then None else get m q)
  get_gone m k q = get-remove nat_cmp_total m k q ∙ ap (λ (b : Bool). cond b None (get m q)) (unsigned_tied q k)

  pub same : (m n : Map X) → ((q : ℕ) → get m q ≡ get n q) → m ≡ n
  same m n is = same_map nat_cmp_total nat_cmp-IsAntisymmetric m n is

  pub put_back : (m : Map X) (k : ℕ) (w : X) → insert (remove m k) k w ≡ insert m k w
  put_back m k w = same _ _ (λ q. get_put (remove m k) k w q ∙ ap (λ (o : Option X). if q == k then Some w else o) (get_gone m k q)
      ∙ elim (q == k) as (λ b. (if b then Some w else (if b then None else get m q)) ≡ (if b then Some w else get m q)) [ true ↦ refl | false ↦ refl ] ∙ sym (get_put m k w q))

  pub laid_back : (m : Map X) (k : ℕ) (v : X) → get m k ≡ Some v → m ≡ insert (remove m k) k v
  laid_back m k v at = same _ _ (λ q.
      elim (q == k) as (λ b. (q == k) ≡ b → get m q ≡ (if b then Some v else get m q)) [ true ↦ λ e. ap (get m) (eqb-true q k e) ∙ at | false ↦ λ e. refl ] refl
      ∙ sym (get_put m k v q)) ∙ sym (put_back m k v)

  pub gone : (m : Map X) (k : ℕ) → get (remove m k) k ≡ None
  gone m k = get_gone m k k ∙ ap (λ (b : Bool). if b then None else get m k) (same_number k)
