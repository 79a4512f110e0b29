-- One more address of the interface of a name.
use Rattle.std.proofs.Common.{is_none, ◌≡◌, ℕ, ◌+◌, ◌||◌, Bool, true, false, cond, not, if◌then◌else◌, List, [], ◌∷◌, ◌++◌, Option, Some, None, is_some, nat_le, slice_index_or, slice_set, refl, sym, ap, ◌∙◌, arith}
use Rattle.std.specs.List.{find, list_any, position}
use Rattle.std.specs.Option.{option_or, option_map_or}
use Rattle.std.proofs.lemmas.Bool.Decides.{nat_tests}
use Rattle.std.proofs.lemmas.List.Folds.{find-append}
use Rattle.sock_addrs.proofs.FirstLemmas.{found, find-first, first-position, change_first-set}
use Rattle.sock_addrs.specs.First.{change_first}
use Rattle.sock_addrs.specs.Rules.{Rule, rule, first_fault}
use Rattle.sock_addrs.specs.declared.errno.Errno.TheVariants.{ENXIO, EINVAL, EADDRINUSE, ENOSPC}
use Rattle.if_addrs.specs.declared.limits.TheConstants.{MOST_ADDRESSES}
use Rattle.if_addrs.specs.declared.kind.Kind.{Kind}
use Rattle.if_addrs.specs.declared.kind.Kind.TheVariants.{Broadcast}
use Rattle.if_addrs.specs.Interfaces.{Address, Interface, addresses_of, added, addr_fault, fits, has_name, has_number, holds, kind_of, named, new_address, with_address, with_one_more}
use Rattle.if_addrs.specs.Numbered.{AreNumbered}
use Rattle.if_addrs.proofs.Keeping.{Stays, stays_added}
use Rattle.if_addrs.proofs.Numbers.{next_free}

-- THE INTERFACE OF THE NAME

-- where nothing refuses an address there is one
first_passed : {F X : Type 0} (o : Option X) (x : F) (rest : List (Rule F)) → first_fault (rule (is_none o) x ∷ rest) ≡ None → is_some o ≡ true
first_passed None x rest h = cc
first_passed (Some i) x rest h = refl

pub is_named : (name : List ℕ) (address : ℕ) (far : Option ℕ) (is : List Interface) → addr_fault name address far is ≡ None → list_any (has_name name) is ≡ true
is_named name address far is h =
    found (has_name name) is
    ∙ first_passed (named name is) ENXIO
    (rule (not (fits (kind_of name is) far)) EINVAL ∷ rule (list_any (holds address) is) EADDRINUSE ∷ rule (nat_le MOST_ADDRESSES (added is)) ENOSPC ∷ []) h

-- at its place stands the interface that is found, and its kind is the name's
pub at_place : (name : List ℕ) (is : List Interface) (at : ℕ) (d : Interface) → position (has_name name) is ≡ Some at → find (has_name name) is ≡ Some (slice_index_or is at d)
at_place name is at d h = find-first (has_name name) is at d (first-position (has_name name) is at d h)

pub kind_at : (name : List ℕ) (is : List Interface) (at : ℕ) (d : Interface) → position (has_name name) is ≡ Some at → kind_of name is ≡ (slice_index_or is at d).kind
kind_at name is at d h = ap (λ (o : Option Interface). option_map_or (λ i. i.kind) o Broadcast) (at_place name is at d h)

-- ITS NEW ADDRESS

-- the interfaces as the code has changed them
pub added_is : (count : ℕ) (items : List Interface) (name : List ℕ) (address prefix : ℕ) (cloning : Bool) (far : Option ℕ) (at : ℕ) (kind : Kind) (new held d : Interface) (a : Address)
    → position (has_name name) items ≡ Some at
    → new ≡ with_one_more a held
    → held ≡ slice_index_or items at d
    → kind ≡ held.kind
    → a ≡ new_address (count + 1) kind address prefix cloning far
    → added items ≡ count
    → slice_set items at new ≡ with_address name address prefix cloning far items
added_is count items name address prefix cloning far at kind new held d a place one was of is counted =
    let named : kind ≡ kind_of name items = of ∙ ap (λ (i : Interface). i.kind) was ∙ sym (kind_at name items at d place) in
    let same : a ≡ new_address (added items + 1) (kind_of name items) address prefix cloning far =
    is ∙ ap (λ (k : Kind). new_address (count + 1) k address prefix cloning far) named ∙ ap (λ (n : ℕ). new_address (n + 1) (kind_of name items) address prefix cloning far) (sym counted) in
    change_first-set (has_name name) (with_one_more (new_address (added items + 1) (kind_of name items) address prefix cloning far)) items at new d (first-position (has_name name) items at d place)
    (one ∙ ap (λ (i : Interface). with_one_more a i) was ∙ ap (λ (x : Address). with_one_more x (slice_index_or items at d)) same)

-- it is found by its number
pub none-left : (o r : Option Address) → option_or o r ≡ None → o ≡ None
none-left None r h = refl
none-left (Some a) r h = cc

pub none-right : (o r : Option Address) → option_or o r ≡ None → r ≡ None
none-right None r h = h
none-right (Some a) r h = cc

find_added : (q : Address → Bool) (p : Interface → Bool) (a : Address) (is : List Interface) → q a ≡ true → find q (addresses_of is) ≡ None → list_any p is ≡ true
    → find q (addresses_of (change_first p (with_one_more a) is)) ≡ Some a
find_added q p a [] one none h = cc
find_added q p a (i ∷ is) one none h =
    let rest = addresses_of is in
    let split = sym (find-append q i.addresses rest) ∙ none in
    let here : find q i.addresses ≡ None = none-left _ _ split in
    let more = addresses_of (change_first p (with_one_more a) is) in
    elim (p i) as (λ b. (b || list_any p is) ≡ true → find q (addresses_of (if b then with_one_more a i ∷ is else i ∷ change_first p (with_one_more a) is)) ≡ Some a) [
      | true ↦ λ k. find-append q (i.addresses ++ a ∷ []) rest
          ∙ ap (λ (o : Option Address). option_or o (find q rest)) (find-append q i.addresses (a ∷ []) ∙ ap (λ (o : Option Address). option_or o (find q (a ∷ []))) here ∙ ap (λ (b : Bool). cond b (Some a) None) one)
      | false ↦ λ k. find-append q i.addresses more ∙ ap (λ (o : Option Address). option_or o (find q more)) here ∙ find_added q p a is one (none-right _ _ split) k
    ] h

pub own_number : (a : Address) → has_number a.number a ≡ true
own_number a = grind (arith, nat_tests)

-- all that is known after one more
module _ (count : ℕ) (items : List Interface) (name : List ℕ) (address prefix : ℕ) (cloning : Bool) (far : Option ℕ) (h : AreNumbered count items) (there : list_any (has_name name) items ≡ true) where
  abbrev a : Address
  a = new_address (added items + 1) (kind_of name items) address prefix cloning far

  pub there_is : find (has_number (added items + 1)) (addresses_of (with_address name address prefix cloning far items)) ≡ Some a
  there_is = find_added (has_number (added items + 1)) (has_name name) a items (own_number a) (next_free items h.numbers) there

  pub stays_is : Stays items (with_address name address prefix cloning far items)
  stays_is = stays_added (has_name name) a items (next_free items h.numbers)
