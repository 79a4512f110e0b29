-- Whether a step of reading gives a value.
use Rattle.std.proofs.Common.{◌≡◌, ◌≤◌, ◌&&◌, ◌||◌, ℕ, Bool, true, false, cond, List, length, refl, sym, subst, bytes_eq, Option, Some, None}
use Rattle.std.specs.Prelude.{is_some, option_map}
use Rattle.std.proofs.lemmas.Slice.Eq.{bytes_eq-Decides}
use Rattle.event_file.specs.Words.{◌>>=◌}

-- the value that there is
pub some_is : {A : Type 0} (o : Option A) → is_some o ≡ true → (x : A) × (o ≡ Some x)
some_is (Some x) h = (x, refl)
some_is None h = cc h

pub there_is : {A : Type 0} (o : Option A) (x : A) → o ≡ Some x → is_some o ≡ true
there_is (Some y) x h = refl
there_is None x h = cc h

-- what has both tests passed
pub guarded : {A : Type 0} (test : Bool) (o : Option A) → is_some (cond test o None) ≡ true → (test ≡ true) × (is_some o ≡ true)
guarded true o h = (refl, h)
guarded false o h = cc h

-- a second step that says as much of every value
pub then_says : {A B : Type 0} (o : Option A) (f : A → Option B) (right : Bool) → ((x : A) → is_some (f x) ≡ right) → is_some (o >>= f) ≡ (is_some o && right)
then_says (Some x) f right h = h x
then_says None f right h = refl

-- a second step that always gives one
pub then_made : {A B : Type 0} (o : Option A) (f : A → Option B) → ((x : A) → is_some (f x) ≡ true) → is_some (o >>= f) ≡ is_some o
then_made (Some x) f h = h x
then_made None f h = refl

pub mapped : {A B : Type 0} (f : A → B) (o : Option A) → is_some (option_map f o) ≡ is_some o
mapped f (Some x) = refl
mapped f None = refl

-- one of two ways
pub either_says : {A : Type 0} (test : Bool) (x : A) (o : Option A) → is_some (cond test (Some x) o) ≡ (test || is_some o)
either_says true x o = refl
either_says false x o = refl

-- a word that is this one, or else is short where it is another
pub chosen_short : {A : Type 0} (word text : List ℕ) (x : A) (rest : Option A) (most : ℕ) → length text ≤ most → (is_some rest ≡ true → length word ≤ most)
    → is_some (cond (bytes_eq word text) (Some x) rest) ≡ true → length word ≤ most
chosen_short word text x rest most short other h =
    elim (bytes_eq word text) as (λ (t : Bool). bytes_eq word text ≡ t → is_some (cond t (Some x) rest) ≡ true → length word ≤ most) [
      | true ↦ λ is _. subst (λ w. length w ≤ most) (sym ((bytes_eq-Decides word text).0 is)) short
      | false ↦ λ _ later. other later
    ] refl h
