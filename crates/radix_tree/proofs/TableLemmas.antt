-- A table with or without an entry, by its first entry; and that it stays a table.
use Rattle.radix_tree.proofs.OrderLemmas.{stands_before, beside, stands_behind, pair_is, behind_next, behind_not_before, behind_not_pair, precedes_one_way}
use Rattle.radix_tree.proofs.OrderLemmas.{precedes_transitively}
use Rattle.radix_tree.proofs.ListLemmas.{all_weaker, all_filter, filter_all, filter_none, find_none}
use Rattle.radix_tree.proofs.Words.{arith, ◌≡◌, ℕ, Bool, true, false, filter, IsTrue, List, [], ◌∷◌, None, refl, AllByRecursion, precedes, IsTable, has_pair}
use Rattle.radix_tree.proofs.Words.{entry_at, without, with_entry, AreOnePair, WithIsTable, WithoutIsTable, Entry}

-- behind an entry that doesn't stand before a pair, all stand behind the pair
pub all_behind : {V : Type 0} (key rank : ℕ) (x : Entry V) (xs : List (Entry V)) → stands_before key rank x ≡ false
    → AllByRecursion (λ f. IsTrue (precedes x f)) xs → AllByRecursion (λ f. stands_behind key rank f ≡ true) xs
all_behind key rank x xs h r = search (all_weaker, behind_next)

-- of what stands behind a pair nothing stands before it, and nothing has it
pub none_before : {V : Type 0} (key rank : ℕ) (xs : List (Entry V)) → AllByRecursion (λ f. stands_behind key rank f ≡ true) xs
    → filter (stands_before key rank) xs ≡ []
none_before key rank xs h = search (filter_none, all_weaker, behind_not_before)

pub all_stay : {V : Type 0} (key rank : ℕ) (xs : List (Entry V)) → AllByRecursion (λ f. stands_behind key rank f ≡ true) xs
    → filter (stands_behind key rank) xs ≡ xs
all_stay key rank xs h = filter_all (stands_behind key rank) xs h

pub none_at : {V : Type 0} (key rank : ℕ) (xs : List (Entry V)) → AllByRecursion (λ f. stands_behind key rank f ≡ true) xs → entry_at key rank xs ≡ None
none_at key rank xs h = search (find_none, all_weaker, behind_not_pair)

-- where a pair isn't there, nothing goes with it
pub without_absent : {V : Type 0} (key rank : ℕ) (es : List (Entry V)) → entry_at key rank es ≡ None → without key rank es ≡ es
without_absent key rank [] h = refl
without_absent key rank (e ∷ es) h = search (arith, without_absent key rank es)

-- with an entry behind the first
pub with_later : {V : Type 0} (e x : Entry V) (xs : List (Entry V)) → IsTrue (precedes x e) → with_entry e (x ∷ xs) ≡ x ∷ with_entry e xs
with_later e x xs h = rw (h, precedes_one_way x e h) refl

-- a table with an entry, by where its first one stands: before the entry, at its pair, or behind it
pub data With {V : Type 0} (e x : Entry V) (xs : List (Entry V)) : Type 0 where
  later : IsTrue (precedes x e) → has_pair e.key e.rank x ≡ false → with_entry e (x ∷ xs) ≡ x ∷ with_entry e xs → With e x xs
  same : AreOnePair x.key x.rank e.key e.rank → has_pair e.key e.rank x ≡ true → entry_at e.key e.rank xs ≡ None
      → with_entry e (x ∷ xs) ≡ e ∷ xs → with_entry e xs ≡ e ∷ xs → With e x xs
  sooner : IsTrue (precedes e x) → has_pair e.key e.rank x ≡ false → entry_at e.key e.rank xs ≡ None
      → with_entry e (x ∷ xs) ≡ e ∷ x ∷ xs → With e x xs

pub with_parts : {V : Type 0} (e x : Entry V) (xs : List (Entry V)) → IsTable (x ∷ xs) → With e x xs
with_parts e x xs r = grind (arith, beside, with_later, all_behind, pair_is, none_at, none_before, all_stay)

-- what precedes all members and the entry precedes all of the table with it
all_with_entry : {V : Type 0} (x e : Entry V) (xs : List (Entry V)) → IsTable xs → IsTrue (precedes x e) → AllByRecursion (λ f. IsTrue (precedes x f)) xs
    → AllByRecursion (λ f. IsTrue (precedes x f)) (with_entry e xs)
all_with_entry x e [] r h k = (h, tt)
all_with_entry x e (y ∷ ys) r h k = grind (arith, with_parts, all_with_entry x e ys r.2 h k.1)

-- what an entry precedes is preceded by those that precede it
pub all_ahead : {V : Type 0} (e x : Entry V) (xs : List (Entry V)) → IsTrue (precedes e x) → AllByRecursion (λ f. IsTrue (precedes x f)) xs
    → AllByRecursion (λ f. IsTrue (precedes e f)) xs
all_ahead e x xs h r = search (all_weaker, precedes_transitively)

pub with_is_table : {V : Type 0} → WithIsTable V
with_is_table [] e r route = (route, tt, tt)
with_is_table (x ∷ xs) e r route = grind (arith, with_parts, all_with_entry, all_ahead, with_is_table xs e r.2 route)

pub filter_is_table : {V : Type 0} (q : Entry V → Bool) (es : List (Entry V)) → IsTable es → IsTable (filter q es)
filter_is_table q [] r = tt
filter_is_table q (e ∷ es) r = grind (arith, all_filter, filter_is_table q es r.2)

pub without_is_table : {V : Type 0} → WithoutIsTable V
without_is_table entries key rank r = search (filter_is_table)
