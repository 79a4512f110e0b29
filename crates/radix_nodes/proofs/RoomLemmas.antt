-- What contracts see of the blocks.
--     get_seen, seen_put, seen_gone, seen_none      the map that is seen, after each change of the blocks
--     Has_at, seen_is, links_put, value_put         a room that is there
--     starts_none, starts_put, starts_there, starts_gone, starts_seen      each block is held under the number of its place
--     view_new, view_seen, view_put, view_valued, view_gone, view_lodged      the value of `Nodes`, after each change
use Rattle.std.proofs.Common.{◌≡◌, ℕ, ◌==◌, Bool, true, false, cond, if◌then◌else◌, List, [], ◌∷◌, Option, Some, None, option_map, map as each, refl, sym, ap, ◌∙◌, subst}
use Rattle.std.proofs.lemmas.Bool.{eqb-true}
use Rattle.std.proofs.lemmas.Cmp.{nat_cmp_total}
use Rattle.std.specs.Ordering.{nat_cmp, eq_by_cmp}
use Rattle.std.specs.FinMap.{FinMap, get, insert, remove, empty, entries, find, get-entries, get-empty, get-from_entries}
use denote.RawPtr.{Ptr}
use Rattle.radix_nodes.specs.At.{IsAt, IsStart, AreStarts}
use Rattle.radix_nodes.specs.Rooms.{Rooms, Seen, Has, seen_of, seen_all, put_room, put_links, put_value}
use Rattle.radix_nodes.specs.declared.id.Id.{Id}
use Rattle.radix_nodes.specs.declared.links.Links.{Links}
use Rattle.radix_nodes.specs.declared.room.Full.{Full}
use Rattle.radix_nodes.proofs.Cells.{get_put, get_gone, same}
use Rattle.radix_nodes.specs.Naming.{number_at, number_of}

pub inside : {A : Type 0} {x y : A} → Some x ≡ Some y → x ≡ y
inside e = cc

pub none_some : {A : Type 0} {x : A} → None ≡ Some x → ⊥
none_some e = cc

module _ {V : Type 0} where
  find_each : (n : ℕ) (es : List (ℕ × (Ptr × Full V))) → find nat_cmp n (each (λ e. (e.0, seen_of e.1)) es) ≡ option_map seen_of (find nat_cmp n es)
  find_each n [] = refl
  find_each n (e ∷ es) =
      elim (eq_by_cmp nat_cmp n e.0) as (λ b. cond b (Some (seen_of e.1)) (find nat_cmp n (each (λ e. (e.0, seen_of e.1)) es)) ≡ option_map seen_of (cond b (Some e.1) (find nat_cmp n es))) [
        | true ↦ refl
        | false ↦ find_each n es
      ]

  pub get_seen : (m : FinMap nat_cmp (Ptr × Full V)) (n : ℕ) → get (seen_all m) n ≡ option_map seen_of (get m n)
  get_seen m n = get-from_entries nat_cmp_total (each (λ e. (e.0, seen_of e.1)) (entries m)) n ∙ find_each n (entries m) ∙ ap (option_map seen_of) (sym (get-entries m n))

  mapped : (b : Bool) (x y : Option (Ptr × Full V)) → option_map seen_of (if b then x else y) ≡ (if b then option_map seen_of x else option_map seen_of y)
  mapped true x y = refl
  mapped false x y = refl

  pub seen_put : (m : FinMap nat_cmp (Ptr × Full V)) (n : ℕ) (c : Ptr × Full V) → seen_all (insert m n c) ≡ insert (seen_all m) n (seen_of c)
  seen_put m n c = same _ _ (λ q. get_seen (insert m n c) q ∙ ap (option_map seen_of) (get_put m n c q) ∙ mapped (q == n) (Some c) (get m q)
      ∙ ap (λ (o : Option (Seen V)). if q == n then Some (seen_of c) else o) (sym (get_seen m q)) ∙ sym (get_put (seen_all m) n (seen_of c) q))

  pub seen_gone : (m : FinMap nat_cmp (Ptr × Full V)) (n : ℕ) → seen_all (remove m n) ≡ remove (seen_all m) n
  seen_gone m n = same _ _ (λ q. get_seen (remove m n) q ∙ ap (option_map seen_of) (get_gone m n q) ∙ mapped (q == n) None (get m q)
      ∙ ap (λ (o : Option (Seen V)). if q == n then None else o) (sym (get_seen m q)) ∙ sym (get_gone (seen_all m) n q))

  pub seen_none : seen_all empty ≡ empty {X = Seen V} {R = nat_cmp}
  seen_none = same _ _ (λ q. get_seen empty q ∙ ap (option_map seen_of) (get-empty nat_cmp q) ∙ sym (get-empty nat_cmp q))

  pub mapped_some : (o : Option (Ptr × Full V)) (s : Seen V) → option_map seen_of o ≡ Some s → (c : Ptr × Full V) × (o ≡ Some c) × (seen_of c ≡ s)
  mapped_some None s e = absurd (none_some e)
  mapped_some (Some c) s e = (c, refl, inside e)

  -- the map that is seen
  pub lodged_is : (m : FinMap nat_cmp (Ptr × Full V)) (turn : ℕ) (r : Rooms V) → record { lodged = seen_all m; turn = turn } ≡ r → seen_all m ≡ r.lodged
  lodged_is m turn r e = ap (λ (x : Rooms V). x.lodged) e

  pub Has_at : (m : FinMap nat_cmp (Ptr × Full V)) {l : FinMap nat_cmp (Seen V)} (id : Id) → seen_all m ≡ l → Has l id → IsAt m (number_of id) id.block
  Has_at m id e h = let c = mapped_some (get m (number_of id)) h.room (sym (get_seen m (number_of id)) ∙ ap (λ (l : FinMap nat_cmp (Seen V)). get l (number_of id)) e ∙ h.at) in
      record { value = c.0.1; at = c.1 ∙ ap (λ (p : Ptr). Some (p, c.0.1)) (ap (λ (s : Seen V). s.block) c.2 ∙ h.block) }

  -- a room that was found is what is seen of its block
  pub seen_is : (m : FinMap nat_cmp (Ptr × Full V)) (n : ℕ) (p : Ptr) (x : Full V) (s : Seen V) {l : FinMap nat_cmp (Seen V)} → seen_all m ≡ l → get m n ≡ Some (p, x) → get l n ≡ Some s → s ≡ seen_of (p, x)
  seen_is m n p x s e at is = inside (sym is ∙ ap (λ (l : FinMap nat_cmp (Seen V)). get l n) (sym e) ∙ get_seen m n ∙ ap (option_map seen_of) at)

  seen_at : (m : FinMap nat_cmp (Ptr × Full V)) (n : ℕ) (c : Ptr × Full V) → get m n ≡ Some c → get (seen_all m) n ≡ Some (seen_of c)
  seen_at m n c at = get_seen m n ∙ ap (option_map seen_of) at

  abbrev links_with : FinMap nat_cmp (Seen V) → Id → Links → Option (Seen V) → FinMap nat_cmp (Seen V)
  links_with m id links None = m
  links_with m id links (Some s) = put_room m id s.value links

  pub links_put : (m : FinMap nat_cmp (Ptr × Full V)) (id : Id) (x : Full V) (links : Links) → get m (number_of id) ≡ Some (id.block, x)
      → seen_all (insert m (number_of id) (id.block, record x { links = links })) ≡ put_links (seen_all m) id links
  links_put m id x links at = seen_put m (number_of id) (id.block, record x { links = links }) ∙ sym (ap (links_with (seen_all m) id links) (seen_at m (number_of id) (id.block, x) at))

  abbrev value_with : FinMap nat_cmp (Seen V) → Id → V → Option (Seen V) → FinMap nat_cmp (Seen V)
  value_with m id value None = m
  value_with m id value (Some s) = put_room m id value s.links

  pub value_put : (m : FinMap nat_cmp (Ptr × Full V)) (id : Id) (x : Full V) (value : V) → get m (number_of id) ≡ Some (id.block, x)
      → seen_all (insert m (number_of id) (id.block, record x { value = value })) ≡ put_value (seen_all m) id value
  value_put m id x value at = seen_put m (number_of id) (id.block, record x { value = value }) ∙ sym (ap (value_with (seen_all m) id value) (seen_at m (number_of id) (id.block, x) at))

  -- ---- each block is held under the number of its place
  pub starts_none : (m : FinMap nat_cmp (Ptr × Full V)) → m ≡ empty → AreStarts m
  starts_none m e k c at = absurd (none_some (sym (get-empty nat_cmp k) ∙ sym (ap (λ (m : FinMap nat_cmp (Ptr × Full V)). get m k) e) ∙ at))

  pub starts_put : (m : FinMap nat_cmp (Ptr × Full V)) (n : ℕ) (x : Ptr × Full V) → (n ≡ number_at x.0) × IsStart x.0 → AreStarts m → AreStarts (insert m n x)
  starts_put m n x start h k c at =
      elim (k == n) as (λ b. (k == n) ≡ b → (if b then Some x else get m k) ≡ Some c → (k ≡ number_at c.0) × IsStart c.0) [
        | true ↦ λ e is. subst (λ (d : Ptr × Full V). (k ≡ number_at d.0) × IsStart d.0) (inside is) (eqb-true k n e ∙ start.0, start.1)
        | false ↦ λ e is. h k c is
      ] refl (sym (get_put m n x k) ∙ at)

  -- a room is written again in its block
  pub starts_there : (m : FinMap nat_cmp (Ptr × Full V)) (n : ℕ) (p : Ptr) (x y : Full V) → get m n ≡ Some (p, x) → AreStarts m → AreStarts (insert m n (p, y))
  starts_there m n p x y at h = starts_put m n (p, y) (h n (p, x) at) h

  pub starts_gone : (m : FinMap nat_cmp (Ptr × Full V)) (n : ℕ) → AreStarts m → AreStarts (remove m n)
  starts_gone m n h k c at =
      elim (k == n) as (λ b. (if b then None else get m k) ≡ Some c → (k ≡ number_at c.0) × IsStart c.0) [ true ↦ λ is. absurd (none_some is) | false ↦ λ is. h k c is ] (sym (get_gone m n k) ∙ at)

  -- where the blocks are is seen
  pub starts_seen : (m l : FinMap nat_cmp (Ptr × Full V)) → seen_all l ≡ seen_all m → AreStarts m → AreStarts l
  starts_seen m l e h k c at =
      let there = mapped_some (get m k) (seen_of c) (sym (get_seen m k) ∙ ap (λ (s : FinMap nat_cmp (Seen V)). get s k) (sym e) ∙ get_seen l k ∙ ap (option_map seen_of) at) in
      subst (λ (p : Ptr). (k ≡ number_at p) × IsStart p) (ap (λ (s : Seen V). s.block) there.2) (h k there.0 there.1)

  -- a number that is not among the blocks is not seen
  pub free_seen : (m : FinMap nat_cmp (Ptr × Full V)) (n : ℕ) → get m n ≡ None → get (seen_all m) n ≡ None
  free_seen m n e = get_seen m n ∙ ap (option_map seen_of) e

-- ---- the value of `Nodes`, after each change of its blocks
module _ {V : Type 0} where
  abbrev pub view : FinMap nat_cmp (Ptr × Full V) → ℕ → Rooms V
  view m turn = record { lodged = seen_all m; turn = turn }

  pub view_seen : (m n : FinMap nat_cmp (Ptr × Full V)) (turn : ℕ) → seen_all n ≡ seen_all m → view n turn ≡ view m turn
  view_seen m n turn e = ap (λ (l : FinMap nat_cmp (Seen V)). record { lodged = l; turn = turn }) e

  pub view_put : (m : FinMap nat_cmp (Ptr × Full V)) (turn : ℕ) (r : Rooms V) (id : Id) (x : Full V) (links : Links) → view m turn ≡ r → get m (number_of id) ≡ Some (id.block, x)
      → view (insert m (number_of id) (id.block, record x { links = links })) turn ≡ record r { lodged = put_links r.lodged id links }
  view_put m turn r id x links e at =
      ap (λ (l : FinMap nat_cmp (Seen V)). record { lodged = l; turn = turn }) (links_put m id x links at)
      ∙ ap (λ (r : Rooms V). record r { lodged = put_links r.lodged id links }) e

  pub view_valued : (m : FinMap nat_cmp (Ptr × Full V)) (turn : ℕ) (r : Rooms V) (id : Id) (x : Full V) (value : V) → view m turn ≡ r → get m (number_of id) ≡ Some (id.block, x)
      → view (insert m (number_of id) (id.block, record x { value = value })) turn ≡ record r { lodged = put_value r.lodged id value }
  view_valued m turn r id x value e at =
      ap (λ (l : FinMap nat_cmp (Seen V)). record { lodged = l; turn = turn }) (value_put m id x value at)
      ∙ ap (λ (r : Rooms V). record r { lodged = put_value r.lodged id value }) e

  pub view_gone : (m n : FinMap nat_cmp (Ptr × Full V)) (turn : ℕ) (r : Rooms V) (k : ℕ) → view m turn ≡ r → n ≡ remove m k → view n turn ≡ record r { lodged = remove r.lodged k }
  view_gone m n turn r k e is =
      ap (λ (m : FinMap nat_cmp (Ptr × Full V)). view m turn) is
      ∙ ap (λ (l : FinMap nat_cmp (Seen V)). record { lodged = l; turn = turn }) (seen_gone m k) ∙ ap (λ (r : Rooms V). record r { lodged = remove r.lodged k }) e

  pub view_lodged : (m n : FinMap nat_cmp (Ptr × Full V)) (turn : ℕ) (r : Rooms V) (id : Id) (x : Full V) → view m turn ≡ r → n ≡ insert m (number_of id) (id.block, x)
      → view n turn ≡ record r { lodged = put_room r.lodged id x.value x.links }
  view_lodged m n turn r id x e put =
      ap (λ (m : FinMap nat_cmp (Ptr × Full V)). view m turn) put
      ∙ ap (λ (l : FinMap nat_cmp (Seen V)). record { lodged = l; turn = turn }) (seen_put m (number_of id) (id.block, x))
      ∙ ap (λ (r : Rooms V). record r { lodged = put_room r.lodged id x.value x.links }) e

  pub view_new : (m : FinMap nat_cmp (Ptr × Full V)) (turn : ℕ) → turn ≡ 0 → m ≡ empty → view m turn ≡ record { lodged = empty; turn = 0 }
  view_new m turn nought e = ap (λ (m : FinMap nat_cmp (Ptr × Full V)). view m turn) e
      ∙ ap (λ (l : FinMap nat_cmp (Seen V)). record { lodged = l; turn = turn }) seen_none
      ∙ ap (λ (t : ℕ). record { lodged = empty; turn = t }) nought

  -- a number that is not among the blocks is of no room of the map
  pub free_is : (m : FinMap nat_cmp (Ptr × Full V)) (turn : ℕ) (r : Rooms V) (n : ℕ) → view m turn ≡ r → get m n ≡ None → get r.lodged n ≡ None
  free_is m turn r n e free = ap (λ (r : Rooms V). get r.lodged n) (sym e) ∙ free_seen m n free
