-- The laws of a table: those of its best routes, and of putting an entry in and taking it out.
use Rattle.radix_tree.proofs.{ListLemmas.filter_filter, OrderLemmas.own_pair}
use Rattle.radix_tree.proofs.TableLemmas.{later, same, sooner, with_later, with_parts, without_absent, without_is_table}
use Rattle.radix_tree.proofs.MemberLemmas.{best_is_member, members_stand, members_are_routes, members_of_without, without_keeps}
use Rattle.radix_tree.proofs.Words.{IfSome, ◌≡◌, ℕ, ◌≤◌, true, false, cond, filter, List, [], ◌∷◌, Option, Some, None, refl, sym, ◌∙◌, ap, inl, inr, arith}
use Rattle.radix_tree.proofs.Words.{cases_lt, append-nil, option_map, agrees, precedes, IsRoute, IsTable, has_pair, entry_at, without, with_entry, agreeing}
use Rattle.radix_tree.proofs.Words.{greater, best_of, AreOnePair, StandsIn, Agrees, IsBest, BestIsGreatest, BestIsUnique, NoneAgrees, BestStays, BestIsGreater}
use Rattle.radix_tree.proofs.Words.{BestStaysWithout, WithThenWithout, WithoutThenWith, WithTwiceIsLast, routed, Entry}
use Rattle.std.specs.Borrow.{Bor}
use Rattle.std.proofs.lemmas.List.Elements.{filter-append}

-- the best with an entry before that the address agrees with, or not
best_here : {V : Type 0} (address : ℕ) (x : Entry V) (xs : List (Entry V)) → agrees x.rank x.key address ≡ true
    → best_of address (x ∷ xs) ≡ greater x (best_of address xs)
best_here address x xs h = search

best_behind : {V : Type 0} (address : ℕ) (x : Entry V) (xs : List (Entry V)) → agrees x.rank x.key address ≡ false
    → best_of address (x ∷ xs) ≡ best_of address xs
best_behind address x xs h = search

-- the greater of two is of no lesser rank than either
greater_least : {V : Type 0} (x : Entry V) (m : Option (Entry V)) → (f : Entry V) × (greater x m ≡ Some f) × (x.rank ≤ f.rank)
    × ((y : Entry V) → m ≡ Some y → y.rank ≤ f.rank)
greater_least x None = (x, refl, omega arith, λ y k. cc)
greater_least x (Some f) = elim (cases_lt x.rank f.rank) [
  | inl h ↦ (f, grind arith, omega arith, λ y k. (let is : y ≡ f = cc in rw is (omega arith)))
  | inr h ↦ (x, grind arith, omega arith, λ y k. (let is : y ≡ f = cc in rw is h))
]

-- where an address agrees with an entry of the table there is a best route, of no lesser rank
best_reaches : {V : Type 0} (address : ℕ) (es : List (Entry V)) (o : Entry V) → StandsIn es o → Agrees address o
    → (f : Entry V) × (best_of address es ≡ Some f) × (o.rank ≤ f.rank)
best_reaches address [] o h a = cc
best_reaches {V} address (x ∷ xs) o h a = elim (has_pair o.key o.rank x) as (λ b. cond b (Some x) (entry_at o.key o.rank xs) ≡ Some o
    → (f : Entry V) × (best_of address (x ∷ xs) ≡ Some f) × (o.rank ≤ f.rank)) [
      | true ↦ λ k. (let is : o ≡ x = cc in let b : agrees x.rank x.key address ≡ true = rw (← is) a in
          let least = greater_least x (best_of address xs) in (least.0, best_here address x xs b ∙ least.1, rw is least.2))
      | false ↦ λ k. (let behind = best_reaches address xs o k a in
          elim (agrees x.rank x.key address) as (λ b. agrees x.rank x.key address ≡ b
          → (f : Entry V) × (best_of address (x ∷ xs) ≡ Some f) × (o.rank ≤ f.rank)) [
            | true ↦ λ b. (let least = greater_least x (best_of address xs) in
                (least.0, best_here address x xs b ∙ least.1, omega (arith, behind.2)))
            | false ↦ λ b. (behind.0, best_behind address x xs b ∙ behind.1, behind.2)
          ] refl)
    ] h

-- the laws of the best route
pub best_is_greatest : {V : Type 0} → BestIsGreatest V
best_is_greatest address entries e r h =
    let member = best_is_member address entries e h in search (arith, members_stand, best_reaches)

-- so what is answered as the best route stands in the table
pub best_stands : {V : Type 0} (address : ℕ) (es : List (Entry V)) (o : Option (ℕ × ℕ × Bor V)) → IsTable es → option_map routed o ≡ best_of address es
    → IfSome o (λ r. entry_at r.0 r.1 es ≡ Some (routed r))
best_stands address es None table h = tt
best_stands address es (Some r) table h = (best_is_greatest address es (routed r) table (sym h)).stands

pub none_agrees : {V : Type 0} → NoneAgrees V
none_agrees address entries e h s = search (arith, best_reaches)

-- an entry of the table whose pair has the key and the rank of another is that one
one_of_pair : {V : Type 0} (es : List (Entry V)) (e f : Entry V) → StandsIn es e → StandsIn es f → e.key ≡ f.key → e.rank ≡ f.rank → e ≡ f
one_of_pair es e f s t k n = search

-- routes of one rank with which one address agrees have one key
same_key : {V : Type 0} (address : ℕ) (e f : Entry V) → IsRoute e → IsRoute f → Agrees address e → Agrees address f → e.rank ≡ f.rank → e.key ≡ f.key
same_key address e f route other a b ranks = grind arith

-- an entry of a table is a route
stands_route : {V : Type 0} (es : List (Entry V)) (e : Entry V) → IsTable es → StandsIn es e → IsRoute e
stands_route es e r s = members_are_routes es e r ((members_stand es e r).0 s)

pub best_is_unique : {V : Type 0} → BestIsUnique V
best_is_unique address entries e r best =
    let reached = best_reaches address entries e best.stands best.agrees in
    let member = best_is_member address entries reached.0 reached.1 in
    let stands = (members_stand entries reached.0 r).1 member.0 in
    let ranks : e.rank ≡ reached.0.rank = omega (arith, reached.2, best.greatest reached.0 stands member.1) in
    let keys = same_key address e reached.0 (stands_route entries e r best.stands) (stands_route entries reached.0 r stands) best.agrees member.1 ranks in
    reached.1 ∙ ap (λ x. Some x) (sym (one_of_pair entries e reached.0 best.stands stands keys ranks))

-- an entry that an address doesn't agree with leaves those that it agrees with
agreeing_stays : {V : Type 0} (address : ℕ) (es : List (Entry V)) (e : Entry V) → IsTable es → agrees e.rank e.key address ≡ false
    → agreeing address (with_entry e es) ≡ agreeing address es
agreeing_stays address [] e r h = rw h refl
agreeing_stays address (x ∷ xs) e r h = grind (arith, with_parts, agreeing_stays address xs e r.2 h)

pub best_stays : {V : Type 0} → BestStays V
best_stays address entries e r h = search (agreeing_stays)

-- of two entries of one rank the first counts
greater_again : {V : Type 0} (e x : Entry V) (m : Option (Entry V)) → x.rank ≡ e.rank → greater e m ≡ greater e (greater x m)
greater_again e x m h = search arith

-- of two ranks their order doesn't count
greater_swap : {V : Type 0} (e x : Entry V) (m : Option (Entry V)) → (x.rank ≡ e.rank → ⊥) → greater x (greater e m) ≡ greater e (greater x m)
greater_swap e x m h = search arith

pub best_is_greater : {V : Type 0} → BestIsGreater V
best_is_greater address [] e r route a = rw a refl
best_is_greater address (x ∷ xs) e r route a = elim (with_parts e x xs r) [
  | later p n is ↦ rw is (
      elim (agrees x.rank x.key address) as (λ b. agrees x.rank x.key address ≡ b
      → best_of address (x ∷ with_entry e xs) ≡ greater e (best_of address (x ∷ xs))) [
        | true ↦ λ b. (
            best_here address x (with_entry e xs) b ∙ (ap (greater x) (best_is_greater address xs e r.2 route a)
            ∙ (greater_swap e x (best_of address xs) (λ ranks. (grind arith)) ∙ ap (greater e) (sym (best_here address x xs b)))))
        | false ↦ λ b. best_behind address x (with_entry e xs) b ∙ (best_is_greater address xs e r.2 route a
            ∙ ap (greater e) (sym (best_behind address x xs b)))
      ] refl)
  | same p n gone is alone ↦ (
      rw is (best_here address e xs a ∙ (greater_again e x (best_of address xs) p.1 ∙ ap (greater e) (sym (best_here address x xs (rw (p.0, p.1) a))))))
  | sooner p n gone is ↦ rw is (best_here address e (x ∷ xs) a)
]

-- the best of what is left is the best, where that isn't taken out
best_left : {V : Type 0} {address : ℕ} (key rank : ℕ) (es : List (Entry V)) (e : Entry V) → IsTable es → ¬ (AreOnePair e.key e.rank key rank)
    → IsBest address es e → IsBest address (without key rank es) e
best_left key rank es e r other best = record {
  stands = without_keeps key rank es e other best.stands;
  agrees = best.agrees;
  greatest = λ o s a. best.greatest o ((members_stand es o r).1 (members_of_without key rank es o
      ((members_stand (without key rank es) o (without_is_table es key rank r)).0 s)).0) a;
}

none_left : {V : Type 0} (address key rank : ℕ) (es : List (Entry V)) → IsTable es → best_of address es ≡ None → (m : Option (Entry V))
    → best_of address (without key rank es) ≡ m → m ≡ None
none_left address key rank es r h None k = refl
none_left address key rank es r h (Some e) k =
    let member = best_is_member address (without key rank es) e k in
    cc (none_agrees address es e h ((members_stand es e r).1 (members_of_without key rank es e member.0).0))

best_stays_by : {V : Type 0} (address key rank : ℕ) (es : List (Entry V)) → IsTable es → (m : Option (Entry V)) → best_of address es ≡ m
    → ((e : Entry V) → m ≡ Some e → ¬ (AreOnePair e.key e.rank key rank)) → best_of address (without key rank es) ≡ m
best_stays_by address key rank es r None h other = none_left address key rank es r h (best_of address (without key rank es)) refl
best_stays_by address key rank es r (Some e) h other = search (best_is_unique, without_is_table, best_left, best_is_greatest)

pub best_stays_without : {V : Type 0} → BestStaysWithout V
best_stays_without address key rank entries r other = search (best_stays_by)

-- taking out what was put in
pub with_then_without : {V : Type 0} → WithThenWithout V
with_then_without [] e r h = rw (own_pair e) refl
with_then_without (x ∷ xs) e r h =
    search (arith, with_parts, later, same, sooner, without_absent, with_then_without xs e r.2)

-- putting in again what was taken out
pub without_then_with : {V : Type 0} → WithoutThenWith V
without_then_with [] e r h = cc
without_then_with (x ∷ xs) e r h = elim (with_parts e x xs r) [
  | later p n is ↦ search (with_later, without_then_with xs e r.2 (rw n at h), n)
  | same p n gone is alone ↦ search (arith, without_absent)
  | sooner p n gone is ↦ (cc)
]

-- of two entries with one pair the last stays
pub with_twice_is_last : {V : Type 0} → WithTwiceIsLast V
with_twice_is_last entries e last p =
    let before_last = λ (x : Entry _). precedes x last in
    let behind_last = λ (x : Entry _). precedes last x in
    let first : filter before_last (with_entry e entries) ≡ filter before_last entries =
    filter-append before_last (filter (λ x. precedes x e) entries) (e ∷ filter (λ x. precedes e x) entries)
    ∙ (let fails : precedes e last ≡ false = grind arith in
    rw (
      filter_filter before_last (λ x. precedes x e) true (λ x k. grind arith) entries,
      fails,
      filter_filter before_last (λ x. precedes e x) false (λ x k. grind arith) entries,
    ) (append-nil (filter before_last entries))) in
    let second : filter behind_last (with_entry e entries) ≡ filter behind_last entries =
    filter-append behind_last (filter (λ x. precedes x e) entries) (e ∷ filter (λ x. precedes e x) entries)
    ∙ (let fails : precedes last e ≡ false = grind arith in
    rw (
      filter_filter behind_last (λ x. precedes x e) false (λ x k. grind arith) entries,
      fails,
      filter_filter behind_last (λ x. precedes e x) true (λ x k. grind arith) entries,
    ) refl) in
    rw (first, second) refl
