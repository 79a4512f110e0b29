-- A flag is turned in one room, looked at in a room that may be the same, and turned back.
--     there, still_at      both rooms are held after the first turn
--     tells                the flag of the second room has turned where it is the same room
--     turned_back          after the second turn all is as it was
use Rattle.std.proofs.Common.{◌≡◌, ℕ, ◌==◌, Bool, true, false, if◌then◌else◌, Option, Some, inl, inr, refl, sym, ap, ◌∙◌}
use Rattle.std.proofs.lemmas.Bool.{eqb-true, eq-eqb, ne_eqb, cases_eq}
use Rattle.std.specs.FinMap.{get, insert}
use mathlib.Core.Bool.{not, beq}
use denote.RawPtr.{Ptr}
use Rattle.radix_nodes.specs.At.{IsAt}
use Rattle.radix_nodes.specs.declared.flags.Flags.{Flags}
use Rattle.radix_nodes.specs.declared.flags.TheConstants.{IS_BIT_NODE}
use Rattle.radix_nodes.specs.declared.links.Links.{Links}
use Rattle.radix_nodes.specs.declared.room.Full.{Full}
use Rattle.radix_nodes.specs.Flags.{has, turned as turned_flags}
use Rattle.radix_nodes.proofs.FlagBits.{turned_twice, has-turned}
use Rattle.radix_nodes.proofs.Cells.{get_put, same, same_number}
use Rattle.radix_nodes.proofs.RoomLemmas.{inside}
use Rattle.radix_nodes.proofs.RoomRows.{Blocks}

turned_seen : (b : Bool) → not (beq b (not b)) ≡ true
turned_seen true = refl
turned_seen false = refl

same_seen : (b : Bool) → not (beq b b) ≡ false
same_seen true = refl
same_seen false = refl

abbrev turned : Links → Links
turned l = record l { flags = turned_flags l.flags }

-- the flag that is turned
abbrev flag : Links → Bool
flag l = has l.flags IS_BIT_NODE

module _ {V : Type 0} (m : Blocks V) (k : ℕ) (p : Ptr) (x : Full V) (l : Links) (at : get m k ≡ Some (p, x)) where
  abbrev after : Blocks V
  after = insert m k (p, record x { links = l })

  written : get after k ≡ Some (p, record x { links = l })
  written = get_put m k (p, record x { links = l }) k ∙ ap (λ (b : Bool). if b then Some (p, record x { links = l }) else get m k) (same_number k)

  as_before : (n : ℕ) → (n ≡ k → ⊥) → get after n ≡ get m n
  as_before n ne = get_put m k (p, record x { links = l }) n ∙ ap (λ (b : Bool). if b then Some (p, record x { links = l }) else get m n) (ne_eqb n k ne)

  pub there : IsAt after k p
  there = record { value = record x { links = l }; at = written }

  pub still_at : (n : ℕ) (s : Ptr) → IsAt m n s → IsAt after n s
  still_at n s h = elim (cases_eq n k) [
    | inl q ↦ record {
      value = record x { links = l };
      at = ap (get after) q ∙ written ∙ ap (λ (o : Ptr). Some (o, record x { links = l })) (ap (λ (c : Ptr × Full V). c.0) (inside (sym at ∙ ap (get m) (sym q) ∙ h.at)));
    }
    | inr ne ↦ record { value = h.value; at = as_before n ne ∙ h.at }
  ]

  pub tells : (n : ℕ) (s : Ptr) (u w : Full V) (a b : Bool) → l ≡ turned x.links → get m n ≡ Some (s, u) → get after n ≡ Some (s, w) → a ≡ flag u.links → b ≡ flag w.links
      → not (beq a b) ≡ (k == n)
  tells n s u w a b once had has first second = (λ i. not (beq (first i) (second i))) ∙ elim (cases_eq k n) [
    | inl q ↦
        let u_is : u ≡ x = ap (λ (c : Ptr × Full V). c.1) (inside (sym had ∙ ap (get m) (sym q) ∙ at)) in
        let w_is : w ≡ record x { links = l } = ap (λ (c : Ptr × Full V). c.1) (inside (sym has ∙ ap (get after) (sym q) ∙ written)) in
        (λ i. not (beq (flag (u_is i).links) (flag (w_is i).links))) ∙ ap (λ (l : Links). not (beq (flag x.links) (flag l))) once
        ∙ ap (λ (b : Bool). not (beq (flag x.links) b)) (has-turned x.links.flags) ∙ turned_seen (flag x.links) ∙ sym (eq-eqb k n q)
    | inr ne ↦
        let w_is : w ≡ u = ap (λ (c : Ptr × Full V). c.1) (inside (sym has ∙ as_before n (λ q. ne (sym q)) ∙ had)) in
        ap (λ (f : Full V). not (beq (flag u.links) (flag f.links))) w_is ∙ same_seen (flag u.links) ∙ sym (ne_eqb k n ne)
  ]

  pub turned_back : (y : Full V) (r : Links) → l ≡ turned x.links → get after k ≡ Some (p, y) → r ≡ turned y.links → insert after k (p, record y { links = r }) ≡ m
  turned_back y r once has twice =
      let is : y ≡ record x { links = l } = ap (λ (c : Ptr × Full V). c.1) (inside (sym has ∙ written)) in
      let links_back : r ≡ x.links = twice ∙ ap (λ (f : Full V). turned f.links) is ∙ ap turned once ∙ ap (λ (f : Flags). record x.links { flags = f }) (turned_twice x.links.flags) in
      let full_back : record y { links = r } ≡ x = ap (λ (f : Full V). record f { links = r }) is ∙ ap (λ (l : Links). record x { links = l }) links_back in
      ap (λ (f : Full V). insert after k (p, f)) full_back ∙ same _ _ (λ q. get_put after k (p, x) q
      ∙ ap (λ (o : Option (Ptr × Full V)). if q == k then Some (p, x) else o) (get_put m k (p, record x { links = l }) q)
      ∙ elim (q == k) as (λ b. (q == k) ≡ b → (if b then Some (p, x) else (if b then Some (p, record x { links = l }) else get m q)) ≡ get m q) [
        | true ↦ λ e. sym (ap (get m) (eqb-true q k e) ∙ at)
        | false ↦ λ e. refl
      ] refl)
