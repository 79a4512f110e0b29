-- What stands in a table, what holds of all its entries, and what is found among them; and all this with or without an
-- entry.
use Rattle.radix_tree.proofs.ListLemmas.{all_weaker, all_both, all_append, all_passed, all_filter, all_find, find_filter, or_none}
use Rattle.radix_tree.proofs.TableLemmas.{later, same, sooner, with_parts, without_absent, all_behind, none_at}
use Rattle.radix_tree.proofs.OrderLemmas.{stands_before, stands_behind, pair_is, own_pair, other_pair, not_pair}
use Rattle.radix_tree.proofs.Words.{◌≡◌, ℕ, ◌+◌, ◌≤◌, ◌⊎◌, true, false, cond, not, filter, length, is_some, nat_eq, List, [], ◌∷◌, Option, Some, None, refl}
use Rattle.radix_tree.proofs.Words.{sym, ◌∙◌, subst, inl, inr, arith, nat_tests, find, Contains, AllByRecursion, option_or, precedes, IsRoute, IsTable}
use Rattle.radix_tree.proofs.Words.{has_pair, entry_at, first_of, without, with_entry, agreeing, greater, greatest, best_of, AreOnePair, StandsIn, Agrees}
use Rattle.radix_tree.proofs.Words.{MembersStand, MembersAreRoutes, EntryAtIsMember, FirstOfIsMember, BestIsMember, FirstIsGreatest, WithStands}
use Rattle.radix_tree.proofs.Words.{WithKeepsOthers, WithoutLeavesNone, WithoutKeepsOthers, MembersOfWith, MembersOfWithout, WithCounts, WithoutCounts, Entry}
use Rattle.std.proofs.lemmas.List.Elements.{All-contains, All-contains_itself, All-from_recursion, recursion_from_All}
use Rattle.std.proofs.lemmas.List.Folds.{find-append}

-- what holds of all entries holds with one more of which it holds, and without a pair
pub all_with : {V : Type 0} (P : Entry V → Type 0) (e : Entry V) (es : List (Entry V)) → AllByRecursion P es → P e → AllByRecursion P (with_entry e es)
all_with P e es h k = search (arith, all_append, all_filter)

pub all_without : {V : Type 0} (P : Entry V → Type 0) (key rank : ℕ) (es : List (Entry V)) → AllByRecursion P es → AllByRecursion P (without key rank es)
all_without P key rank es h = all_filter P (λ e. not (has_pair key rank e)) es h

-- and of what is found at a pair, first of a key, or as the best route of an address
pub all_entry_at : {V : Type 0} (P : Entry V → Type 0) (key rank : ℕ) (es : List (Entry V)) (e : Entry V) → AllByRecursion P es → entry_at key rank es ≡ Some e
    → P e
all_entry_at P key rank es e h k = (all_find P (has_pair key rank) es e h k).0

-- the greater of two is one of them
pub greater_one : {V : Type 0} (x : Entry V) (m : Option (Entry V)) (e : Entry V) → greater x m ≡ Some e → (x ≡ e) ⊎ (m ≡ Some e)
greater_one x None e h = inl (cc)
greater_one x (Some f) e h = search arith

all_greatest : {V : Type 0} (P : Entry V → Type 0) (es : List (Entry V)) (e : Entry V) → AllByRecursion P es → greatest es ≡ Some e → P e
all_greatest P [] e h k = cc
all_greatest P (x ∷ xs) e h k = elim (greater_one x (greatest xs) e k) [ inl is ↦ subst P is h.0 | inr is ↦ all_greatest P xs e h.1 is ]

pub all_best_of : {V : Type 0} (P : Entry V → Type 0) (address : ℕ) (es : List (Entry V)) (e : Entry V) → AllByRecursion P es → best_of address es ≡ Some e
    → P e
all_best_of P address es e h k = search (arith, all_greatest, all_filter)

-- each entry of a list is one of its members
pub all_members : {V : Type 0} (es : List (Entry V)) → AllByRecursion (Contains es) es
all_members es = recursion_from_All (Contains es) es (All-contains_itself es)

-- what holds of all entries holds of each member
pub all_contains : {V : Type 0} (P : Entry V → Type 0) (es : List (Entry V)) (e : Entry V) → AllByRecursion P es → Contains es e → P e
all_contains P es e h k = All-contains P es e (All-from_recursion P es h) k

-- what is found is a member
pub entry_at_is_member : {V : Type 0} → EntryAtIsMember V
entry_at_is_member key rank entries e h =
    let found = all_find (Contains entries) (has_pair key rank) entries e (all_members entries) h in
    (found.0, pair_is key rank e found.1)

pub first_of_is_member : {V : Type 0} → FirstOfIsMember V
first_of_is_member key entries e h =
    let found = all_find (Contains entries) (λ x. nat_eq x.key key) entries e (all_members entries) h in
    (found.0, grind (arith, nat_tests))

pub best_is_member : {V : Type 0} → BestIsMember V
best_is_member address entries e h =
    all_greatest (λ x. Contains entries x × Agrees address x) (agreeing address entries) e (search (arith, all_passed, all_members)) h

-- each member of a table stands in it
pub all_stand : {V : Type 0} (es : List (Entry V)) → IsTable es → AllByRecursion (StandsIn es) es
all_stand [] r = tt
all_stand (x ∷ xs) r = search (arith, own_pair, all_both, nat_tests, all_stand xs r.2)

pub members_stand : {V : Type 0} → MembersStand V
members_stand entries e r = ((λ h. (entry_at_is_member e.key e.rank entries e h).0), (λ h. all_contains (StandsIn entries) entries e (all_stand entries r) h))

-- and is a route
pub all_routes : {V : Type 0} (es : List (Entry V)) → IsTable es → AllByRecursion IsRoute es
all_routes [] r = tt
all_routes (x ∷ xs) r = (r.0, all_routes xs r.2)

pub members_are_routes : {V : Type 0} → MembersAreRoutes V
members_are_routes entries e r h = all_contains IsRoute entries e (all_routes entries r) h

-- of a key the first member is the one of greatest rank
all_of_key : {V : Type 0} (key : ℕ) (es : List (Entry V)) (e : Entry V) → IsTable es → first_of key es ≡ Some e
    → AllByRecursion (λ o. o.key ≡ key → o.rank ≤ e.rank) es
all_of_key key [] e r h = tt
all_of_key {V} key (x ∷ xs) e r h =
    elim (nat_eq x.key key) as (λ b. nat_eq x.key key ≡ b → cond b (Some x) (first_of key xs) ≡ Some e
    → AllByRecursion (λ o. o.key ≡ key → o.rank ≤ e.rank) (x ∷ xs)) [
      | true ↦ search (arith, all_weaker, nat_tests)
      | false ↦ λ k s. ((λ o. absurd (grind (arith, nat_tests))), all_of_key key xs e r.2 s)
    ] refl h

pub first_is_greatest : {V : Type 0} → FirstIsGreatest V
first_is_greatest key entries e other r h k = all_contains (λ o. o.key ≡ key → o.rank ≤ e.rank) entries other (all_of_key key entries e r h) k

-- an entry that was put in stands in the table
pub with_stands : {V : Type 0} → WithStands V
with_stands entries e =
    let q = has_pair e.key e.rank in
    let gone = find_filter q (λ x. precedes x e) false (λ x k. grind (arith, nat_tests)) entries in
    search (arith, find-append, own_pair)

-- and at each other pair stands what stood there
pub with_keeps_others : {V : Type 0} → WithKeepsOthers V
with_keeps_others key rank entries e other =
    let q = has_pair key rank in
    let fails = other_pair key rank e (λ same. other (sym same.0, sym same.1)) in
    find-append q (filter (λ x. precedes x e) entries) (e ∷ filter (λ x. precedes e x) entries)
    ∙ (elim (stands_behind key rank e) as (λ b. stands_behind key rank e ≡ b
    → option_or (find q (filter (λ x. precedes x e) entries)) (find q (e ∷ filter (λ x. precedes e x) entries)) ≡ find q entries) [
      | true ↦ λ k. rw (
        find_filter q (λ x. precedes x e) true (λ x s. grind (arith, nat_tests)) entries,
        fails,
        find_filter q (λ x. precedes e x) false (λ x s. grind (arith, nat_tests)) entries,
      ) (or_none (find q entries))
      | false ↦ λ k. rw (
        find_filter q (λ x. precedes x e) false (λ x s. grind (arith, nat_tests)) entries,
        fails,
        find_filter q (λ x. precedes e x) true (λ x s. grind (arith, nat_tests)) entries,
      ) refl
    ] refl)

pub without_leaves_none : {V : Type 0} → WithoutLeavesNone V
without_leaves_none key rank entries = find_filter (has_pair key rank) (λ x. not (has_pair key rank x)) false (λ x k. rw k refl) entries

pub without_keeps_others : {V : Type 0} → WithoutKeepsOthers V
without_keeps_others key rank gone_key gone_rank entries other =
    find_filter (has_pair key rank) (λ x. not (has_pair gone_key gone_rank x)) true (search (arith, pair_is, other_pair, same)) entries

-- so an entry stays that stood before one of another pair was put in, or another pair was taken out
pub with_keeps : {V : Type 0} (es : List (Entry V)) (e r : Entry V) → entry_at e.key e.rank es ≡ None → StandsIn es r → StandsIn (with_entry e es) r
with_keeps es e r none stands = search (arith, with_keeps_others, same)

pub without_keeps : {V : Type 0} (key rank : ℕ) (es : List (Entry V)) (r : Entry V) → ¬ (AreOnePair r.key r.rank key rank) → StandsIn es r
    → StandsIn (without key rank es) r
without_keeps key rank es r other stands = without_keeps_others r.key r.rank key rank es other ∙ stands

-- the members of a table with an entry
pub members_of_with : {V : Type 0} → MembersOfWith V
members_of_with {V} entries e member h =
    let Was : Entry V → Type 0 = λ x. (x ≡ e) ⊎ (Contains entries x × ¬ (AreOnePair x.key x.rank e.key e.rank)) in
    let sooner_ones = all_weaker (λ x. Contains entries x × (precedes x e ≡ true)) Was (search (arith, same, nat_tests))
    (filter (λ x. precedes x e) entries) (search (arith, all_passed, all_members)) in
    let later_ones = all_weaker (λ x. Contains entries x × (precedes e x ≡ true)) Was (search (arith, same, nat_tests))
    (filter (λ x. precedes e x) entries) (search (arith, all_passed, all_members)) in
    all_contains Was (with_entry e entries) member (search (arith, all_append)) h

pub members_of_without : {V : Type 0} → MembersOfWithout V
members_of_without {V} key rank entries member h =
    let Was : Entry V → Type 0 = λ x. Contains entries x × ¬ (AreOnePair x.key x.rank key rank) in
    all_contains Was (without key rank entries) member (all_weaker (λ x. Contains entries x × (not (has_pair key rank x) ≡ true)) Was
    (search (arith, not_pair, nat_tests)) (without key rank entries) (search (arith, all_passed, all_members))) h

-- one more, unless the pair was there
pub with_counts : {V : Type 0} → WithCounts V
with_counts [] e r = refl
with_counts (x ∷ xs) e r = search (arith, with_parts, later, same, sooner, with_counts xs e r.2)

-- one less, where it was
pub without_counts : {V : Type 0} → WithoutCounts V
without_counts key rank [] r = refl
without_counts key rank (x ∷ xs) r =
    elim (has_pair key rank x) as (λ b. has_pair key rank x ≡ b → length (x ∷ xs) ≡ length (cond (not b) (x ∷ without key rank xs) (without key rank xs))
    + cond (is_some (cond b (Some x) (entry_at key rank xs))) 1 0) [
      | true ↦ λ k. (
          let here : stands_before key rank x ≡ false = grind (arith, nat_tests) in
          search (arith, without_absent, none_at, all_behind))
      | false ↦ search (arith, without_counts key rank xs r.2)
    ] refl
