-- What callers need of the map of rooms.
--     get-put_room, get-put_links, get-removed      what a number says after each change
--     put_links-is                                  a room whose links are written is that room with these
--     Has-lodged, Has-put, Has-written, Has-removed      a room that is still there
use Rattle.std.proofs.Common.{◌≡◌, ℕ, ◌==◌, Bool, true, false, if◌then◌else◌, Option, Some, None, refl, sym, ap, ◌∙◌}
use Rattle.std.proofs.lemmas.Bool.{eqb-true, ne_eqb}
use Rattle.std.specs.Ordering.{nat_cmp}
use Rattle.std.specs.FinMap.{FinMap, get, remove}
use Rattle.radix_nodes.specs.Rooms.{Seen, seen, Has, put_room, put_links}
use Rattle.radix_nodes.specs.declared.id.Id.{Id}
use Rattle.radix_nodes.specs.declared.links.Links.{Links}
use Rattle.radix_nodes.proofs.Cells.{get_put, get_gone, same_number}
use Rattle.radix_nodes.specs.Naming.{number_of}

inside : {A : Type 0} {x y : A} → Some x ≡ Some y → x ≡ y
inside e = cc

none_some : {A : Type 0} {x : A} → None ≡ Some x → ⊥
none_some e = cc

module _ {V : Type 0} where
  abbrev links_put : FinMap nat_cmp (Seen V) → Id → Links → Option (Seen V) → FinMap nat_cmp (Seen V)
  links_put m i links None = m
  links_put m i links (Some s) = put_room m i s.value links

  pub put_links-is : (m : FinMap nat_cmp (Seen V)) (i : Id) (links : Links) (h : Has m i) → put_links m i links ≡ put_room m i h.room.value links
  put_links-is m i links h = ap (links_put m i links) h.at

  pub get-put_room : (m : FinMap nat_cmp (Seen V)) (i : Id) (value : V) (links : Links) (n : ℕ)
      → get (put_room m i value links) n ≡ (if n == (number_of i) then Some (seen i.block value links) else get m n)
  get-put_room m i value links n = get_put m (number_of i) (seen i.block value links) n

  pub get-put_links : (m : FinMap nat_cmp (Seen V)) (i : Id) (links : Links) (h : Has m i) (n : ℕ)
      → get (put_links m i links) n ≡ (if n == (number_of i) then Some (seen i.block h.room.value links) else get m n)
  get-put_links m i links h n = ap (λ (l : FinMap nat_cmp (Seen V)). get l n) (put_links-is m i links h) ∙ get-put_room m i h.room.value links n

  pub get-removed : (m : FinMap nat_cmp (Seen V)) (k n : ℕ) → get (remove m k) n ≡ (if n == k then None else get m n)
  get-removed m k n = get_gone m k n

  pub Has-lodged : (m : FinMap nat_cmp (Seen V)) (i : Id) (value : V) (links : Links) → Has (put_room m i value links) i
  Has-lodged m i value links = record {
    room = seen i.block value links;
    at = get-put_room m i value links (number_of i) ∙ ap (λ (b : Bool). if b then Some (seen i.block value links) else get m (number_of i)) (same_number (number_of i));
    block = refl;
  }

  -- a room stays where another one is written
  other : (m : FinMap nat_cmp (Seen V)) (i j : Id) (value : V) (links : Links) → ((number_of i) == (number_of j)) ≡ false → Has m i → Has (put_room m j value links) i
  other m i j value links apart h = record {
    room = h.room;
    at = get-put_room m j value links (number_of i) ∙ ap (λ (b : Bool). if b then Some (seen j.block value links) else get m (number_of i)) apart ∙ h.at;
    block = h.block;
  }

  -- it stays where one is lodged that was not in the map
  pub Has-put : (m : FinMap nat_cmp (Seen V)) (i j : Id) (value : V) (links : Links) → get m (number_of j) ≡ None → Has m i → Has (put_room m j value links) i
  Has-put m i j value links free h = other m i j value links (ne_eqb (number_of i) (number_of j) (λ e. none_some (sym free ∙ ap (get m) (sym e) ∙ h.at))) h

  -- it stays where it or another one is put again with its block
  again : (m : FinMap nat_cmp (Seen V)) (i j : Id) (value : V) (links : Links) → Has m j → Has m i → Has (put_room m j value links) i
  again m i j value links there h =
      elim ((number_of i) == (number_of j)) as (λ b. ((number_of i) == (number_of j)) ≡ b → Has (put_room m j value links) i) [
        | true ↦ λ e. record {
          room = seen j.block value links;
          at = get-put_room m j value links (number_of i) ∙ ap (λ (b : Bool). if b then Some (seen j.block value links) else get m (number_of i)) e;
          block = sym there.block ∙ ap (λ (s : Seen V). s.block) (inside (sym there.at ∙ ap (get m) (sym (eqb-true (number_of i) (number_of j) e)) ∙ h.at)) ∙ h.block;
        }
        | false ↦ λ e. other m i j value links e h
      ] refl

  pub Has-written : (m : FinMap nat_cmp (Seen V)) (i j : Id) (links : Links) → Has m j → Has m i → Has (put_links m j links) i
  Has-written m i j links there h = rw (put_links-is m j links there) (again m i j there.room.value links there h)

  pub Has-removed : (m : FinMap nat_cmp (Seen V)) (i : Id) (n : ℕ) → ((number_of i) ≡ n → ⊥) → Has m i → Has (remove m n) i
  Has-removed m i n apart h = record {
    room = h.room;
    at = get-removed m n (number_of i) ∙ ap (λ (b : Bool). if b then None else get m (number_of i)) (ne_eqb (number_of i) n apart) ∙ h.at;
    block = h.block;
  }
