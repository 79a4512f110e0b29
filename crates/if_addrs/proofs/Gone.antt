-- What is found behind addresses that were removed is what is found of all.
use Rattle.std.proofs.Common.{◌≡◌, ℕ, zero, suc, ◌+◌, ◌-◌, ◌≤◌, Bool, true, false, cond, not, List, [], ◌∷◌, ◌++◌, length, take, drop, filter, nat_lt, Option, Some, None, is_some, Result, Ok, Err, refl, sym, ap, ◌∙◌, arith}
use Rattle.std.specs.Prelude.{unwrap_or, OnOk, OnErr}
use Rattle.std.specs.List.{find, list_any, position}
use Rattle.std.proofs.lemmas.Bool.Decides.{nat_tests}
use Rattle.std.proofs.lemmas.List.{length-drop, take_all}
use Rattle.std.proofs.lemmas.List.Sums.{prefix_len-le-length}
use Rattle.sock_addrs.proofs.FirstLemmas.{found}
use Rattle.if_addrs.specs.Interfaces.{Address, is_at}
use Rattle.if_addrs.specs.Searches.{standing}
use Rattle.if_addrs.specs.Homes.{gone_ahead}
use Rattle.if_addrs.specs.Told.{is_standing}
use Rattle.if_addrs.specs.Wanted.{is_wanted, marked, marked_at}
use Rattle.if_addrs.specs.declared.address.Mark.{Mark}
use Rattle.if_addrs.specs.declared.address.Mark.TheVariants.{Routed, Gone}
use Rattle.if_addrs.specs.declared.address.Wanted.{Wanted}
use Rattle.if_addrs.specs.declared.address.Wanted.TheVariants.{Same, Own, Far, Near, Standing}

-- HOW MANY ARE GONE

-- the same with one that was removed, or wasn't, before them
abbrev ahead : Bool → ℕ → ℕ
ahead removed n = cond (not (not removed)) (1 + n) 0

-- one that stands is behind none that is gone
none_ahead : {P : Type 0} (n : ℕ) → suc n ≤ 0 → P
none_ahead n h = absurd (omega (arith, h))

pub within : (n : ℕ) (xs : List Address) → n ≤ gone_ahead xs → n ≤ length xs
within n xs h = omega (arith, h, prefix_len-le-length (λ x. not (is_standing x)) xs)

-- those behind are all that stand
standing_from : (n : ℕ) (xs : List Address) → n ≤ gone_ahead xs → standing (drop n xs) ≡ standing xs
standing_from zero xs h = refl
standing_from (suc n) [] h = refl
standing_from (suc n) (x ∷ xs) h =
    elim x.removed as (λ b. suc n ≤ ahead b (gone_ahead xs) → standing (drop n xs) ≡ cond (not b) (x ∷ standing xs) (standing xs))
    [ true ↦ λ k. standing_from n xs (omega (arith, k)) | false ↦ λ k. none_ahead n k ] h

-- what the code takes of a list from a place on
abbrev pub behind : ℕ → List Address → List Address
behind n xs = take (length xs - n) (drop n xs)

behind_is : (n : ℕ) (xs : List Address) → behind n xs ≡ drop n xs
behind_is n xs = take_all (length xs - n) (drop n xs) (omega (arith, length-drop n xs))

pub standing_behind : (n : ℕ) (xs : List Address) → n ≤ gone_ahead xs → standing (behind n xs) ≡ standing xs
standing_behind n xs h = ap (λ (ys : List Address). standing ys) (behind_is n xs) ∙ standing_from n xs h

-- as many are gone of a longer list, and where one was marked
more_appended : (xs ys : List Address) → gone_ahead xs ≤ gone_ahead (xs ++ ys)
more_appended [] ys = omega (arith)
more_appended (x ∷ xs) ys =
    elim x.removed as (λ b. ahead b (gone_ahead xs) ≤ ahead b (gone_ahead (xs ++ ys)))
    [ true ↦ omega (arith, more_appended xs ys) | false ↦ omega (arith) ]

one_marked : (mark : Mark) (x : Address) (n : ℕ) → ahead x.removed n ≤ ahead (marked mark x).removed n
one_marked Routed x n = omega (arith)
one_marked Gone x n = elim x.removed as (λ b. ahead b n ≤ ahead true n) [ true ↦ omega (arith) | false ↦ omega (arith) ]

more_marked : (place : ℕ) (mark : Mark) (xs : List Address) → gone_ahead xs ≤ gone_ahead (marked_at place mark xs)
more_marked place mark [] = omega (arith)
more_marked zero mark (x ∷ xs) = one_marked mark x (gone_ahead xs)
more_marked (suc place) mark (x ∷ xs) =
    elim x.removed as (λ b. ahead b (gone_ahead xs) ≤ ahead b (gone_ahead (marked_at place mark xs)))
    [ true ↦ omega (arith, more_marked place mark xs) | false ↦ omega (arith) ]

pub still_marked : (n place : ℕ) (mark : Mark) (xs zs : List Address) → n ≤ gone_ahead xs → zs ≡ marked_at place mark xs → n ≤ gone_ahead zs
still_marked n place mark xs zs h e = rw e (omega (arith, h, more_marked place mark xs))

-- so many are gone of a list that grew, or that is as it was
pub still_gone : {X E : Type 0} (r : Result X E) (n : ℕ) (xs zs : List Address) (a : Address) → n ≤ gone_ahead xs
    → OnOk r (zs ≡ xs ++ a ∷ []) → OnErr r (zs ≡ xs) → n ≤ gone_ahead zs
still_gone (Ok u) n xs zs a h grown same = rw grown (omega (arith, h, more_appended xs (a ∷ [])))
still_gone (Err e) n xs zs a h grown same = rw same h

-- behind so many come the rest of them
ahead_behind : (n : ℕ) (xs : List Address) → n ≤ gone_ahead xs → n + gone_ahead (drop n xs) ≡ gone_ahead xs
ahead_behind zero xs h = omega (arith)
ahead_behind (suc n) [] h = none_ahead n h
ahead_behind (suc n) (x ∷ xs) h =
    elim x.removed as (λ b. suc n ≤ ahead b (gone_ahead xs) → suc n + gone_ahead (drop n xs) ≡ ahead b (gone_ahead xs))
    [ true ↦ λ k. omega (arith, ahead_behind n xs (omega (arith, k))) | false ↦ λ k. none_ahead n k ] h

first_place : (n l : ℕ) → n ≤ l → unwrap_or (cond (nat_lt n l) (Some n) None) l ≡ n
first_place n l h = grind (arith, nat_tests, h)

-- up to the first that stands, which was looked for behind them
pub gone_to : (n m : ℕ) (xs : List Address) → n ≤ gone_ahead xs → m ≡ unwrap_or (position is_standing (behind n xs)) (length (behind n xs))
    → n + m ≤ gone_ahead xs
gone_to n m xs h e =
    let ys = drop n xs in
    let up : m ≡ gone_ahead ys =
    e ∙ ap (λ (zs : List Address). unwrap_or (position is_standing zs) (length zs)) (behind_is n xs)
    ∙ first_place (gone_ahead ys) (length ys) (prefix_len-le-length (λ x. not (is_standing x)) ys) in
    omega (arith, up, ahead_behind n xs h)

-- WHAT IS FOUND

-- what passes no address that was removed finds the same among those that stand
module _ (p : Address → Bool) (passes : (a : Address) → a.removed ≡ true → p a ≡ false) where
  found_standing : (xs : List Address) → find p xs ≡ find p (standing xs)
  found_standing [] = refl
  found_standing (x ∷ xs) =
      elim x.removed as (λ b. (b ≡ true → p x ≡ false) → cond (p x) (Some x) (find p xs) ≡ find p (cond (not b) (x ∷ standing xs) (standing xs)))
      [ true ↦ λ k. rw (k refl) (found_standing xs) | false ↦ λ k. ap (λ (o : Option Address). cond (p x) (Some x) o) (found_standing xs) ] (passes x)

  filtered_standing : (xs : List Address) → filter p xs ≡ filter p (standing xs)
  filtered_standing [] = refl
  filtered_standing (x ∷ xs) =
      elim x.removed as (λ b. (b ≡ true → p x ≡ false) → cond (p x) (x ∷ filter p xs) (filter p xs) ≡ filter p (cond (not b) (x ∷ standing xs) (standing xs)))
      [ true ↦ λ k. rw (k refl) (filtered_standing xs) | false ↦ λ k. ap (λ (l : List Address). cond (p x) (x ∷ l) l) (filtered_standing xs) ] (passes x)

none_wanted : (w : Wanted) (a : Address) → a.removed ≡ true → is_wanted w a ≡ false
none_wanted (Same address) a h = rw h refl
none_wanted (Own address) a h = rw h refl
none_wanted (Far address) a h = rw h refl
none_wanted (Near address) a h = rw h refl
none_wanted Standing a h = rw h refl

-- among lists of which the same stand, each search finds the same
pub same_found : (w : Wanted) (xs ys : List Address) → standing xs ≡ standing ys → find (is_wanted w) xs ≡ find (is_wanted w) ys
same_found w xs ys h =
    found_standing (is_wanted w) (none_wanted w) xs ∙ ap (λ (zs : List Address). find (is_wanted w) zs) h
    ∙ sym (found_standing (is_wanted w) (none_wanted w) ys)

pub same_filtered : (w : Wanted) (xs ys : List Address) → standing xs ≡ standing ys → filter (is_wanted w) xs ≡ filter (is_wanted w) ys
same_filtered w xs ys h =
    filtered_standing (is_wanted w) (none_wanted w) xs ∙ ap (λ (zs : List Address). filter (is_wanted w) zs) h
    ∙ sym (filtered_standing (is_wanted w) (none_wanted w) ys)

pub same_held : (address : ℕ) (xs ys : List Address) → standing xs ≡ standing ys → list_any (is_at address) xs ≡ list_any (is_at address) ys
same_held address xs ys h =
    found (is_at address) xs ∙ ap (λ (o : Option Address). is_some o) (same_found (Same address) xs ys h) ∙ sym (found (is_at address) ys)
