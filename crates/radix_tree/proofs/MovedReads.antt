-- What rooms say where a bit node is renamed, moved or lifted, and where the links of a chain change.
use Rattle.radix_tree.proofs.{Beside.named_leaf, Beside.named_bit, Facts.off_room, Facts.own_room, RoomReads.AreLinks}
use Rattle.radix_tree.proofs.Words.{inside, none_some, ◌≡◌, ℕ, ◌≤◌, ◌==◌, ◌⊎◌, if◌then◌else◌, Option, Some, None, refl, ap, ◌∙◌, inl, inr, arith, eq-eqb}
use Rattle.radix_tree.proofs.Words.{ne_eqb, is_some, get, Seen, Has, Id, Node, LeafOf, BitOf, Tree, LeafPart, BitPart, leaf_in, leaves_in, name_of, one_if}
use Rattle.radix_tree.proofs.Words.{leaves_at, forks_at, lift_leaf, lift_bit, renamed, rename, Content, content_of, Lodged, cases_eq, number_of, eqb-true}
use Rattle.radix_tree.proofs.Words.{leaf_of, Leaf, Links, put_leaf, lodge_leaf, KeepsLeaves, leaf_next, leaf_back, name_next, name_back, link_in, link_out}

pub none_or_some : (k : ℕ) → (k ≡ 0) ⊎ (1 ≤ k)
none_or_some k = elim (cases_eq k 0) [ inl e ↦ inl e | inr other ↦ inr (omega arith) ]

pub one_if_is : {a : ℕ} (b : ℕ) → a ≡ b → one_if (a == b) ≡ 1
one_if_is {a = a} b e = ap one_if (eq-eqb a b e)

pub one_if_not : (a b : ℕ) → (a ≡ b → ⊥) → one_if (a == b) ≡ 0
one_if_not a b other = ap one_if (ne_eqb a b other)

-- a write to one room
pub at_room : {A : Type 0} (room : Id) (n : ℕ) (x y : A) → n ≡ number_of room → (if n == (number_of room) then x else y) ≡ x
at_room room n x y same = ap (λ t. if t then x else y) (eq-eqb n (number_of room) same)

-- ---- a node is lifted
pub content_lift : {A : Type 0} (at : Node) (above : Option Id) (n : ℕ) (said : Option (LeafPart A)) → content_of (lift_leaf at above n said) ≡ content_of said
content_lift at above n said = search arith

pub lift_used : (at : Node) (above : Option Id) (n : ℕ) (said : Option BitPart) → is_some (lift_bit at above n said) ≡ is_some said
lift_used at above n said = search arith

-- ---- a bit node has another name
pub rename_used : (above : Option Id) (from to : Id) (n : ℕ) (said : Option BitPart) → is_some (rename above from to n said) ≡ is_some said
rename_used above from to n said = search arith

pub rename_misses : (above : Option Id) (from to : Id) (n : ℕ) (said : Option BitPart) → ((up : Id) → above ≡ Some up → n ≡ number_of up → ⊥)
    → rename above from to n said ≡ said
rename_misses above from to n said other = search arith

pub renamed_to : (from to room : Id) → number_of room ≡ number_of from → renamed from to (BitOf room) ≡ BitOf to
renamed_to from to room same = search (arith, eq-eqb)

module _ {V : Type 0} where
  -- a name of a tree without bit nodes in the room stays
  pub renamed_off : (from to : Id) (t : Tree V) → forks_at (number_of from) t ≡ 0 → renamed from to (name_of t) ≡ name_of t
  renamed_off from to t none = search (arith, ne_eqb)

  -- a room outside of a tree is not that of its name
  pub leaf_off : (t : Tree V) {name : Node} (n : ℕ) → name ≡ name_of t → leaves_at n t ≡ 0 → (r : Id) → name ≡ LeafOf r → n ≡ number_of r → ⊥
  leaf_off t n named none r is same = search (arith, named_leaf)

  pub bit_off : (t : Tree V) {name : Node} (n : ℕ) → name ≡ name_of t → forks_at n t ≡ 0 → (r : Id) → name ≡ BitOf r → n ≡ number_of r → ⊥
  bit_off t n named none r is same = search (arith, named_bit)

  -- ---- a room that has its route
  pub content_there : (m : Lodged V) (room : Id) (o : Option (Seen V)) {c : Content V} → get m (number_of room) ≡ o → content_of (leaf_in o) ≡ Some c
      → c.block ≡ room.block → Has m room
  content_there m room None at e block = absurd (none_some e)
  content_there m room (Some s) at e block = record { room = s; at = at; block = ap (λ d. d.block) (inside e) ∙ block }

  -- stays
  pub Has_kept : {m : Lodged V} (new : Lodged V) {room : Id} → content_of (leaves_in new (number_of room)) ≡ content_of (leaves_in m (number_of room))
      → Has m room → Has new room
  Has_kept new {room = room} same h = content_there new room (get new (number_of room)) refl (same ∙ ap (λ o. content_of (leaf_in o)) h.at) h.block

  pub content_used : (o p : Option (LeafPart V)) → content_of o ≡ content_of p → is_some o ≡ is_some p
  content_used o p e = search arith

  -- -------- writes to the links of a chain's members
  module _ {m : Lodged V} {room : Id} (h : Has m room) where
    abbrev pub own_part : LeafPart V
    own_part = record { block = h.room.block; value = h.room.value; leaf = leaf_of h.room.links }

    pub own_said : leaves_in m (number_of room) ≡ Some own_part
    own_said = ap leaf_in h.at

    pub next_put : (links : Links) {l : Leaf} (next : Option Id) (n : ℕ) → AreLinks m room links → l ≡ leaf_of links
        → put_leaf room (record l { next = next }) n (leaves_in m n) ≡ (if n == (number_of room) then leaf_next next (leaves_in m n) else leaves_in m n)
    next_put links {l = l} next n are read = search (arith, eqb-true, own_said)

    pub back_put : (links : Links) {l : Leaf} (above previous : Option Id) (n : ℕ) → AreLinks m room links → l ≡ leaf_of links
        → put_leaf room (record l { above = above; previous = previous }) n (leaves_in m n) ≡
        (if n == (number_of room) then leaf_back above previous (leaves_in m n) else leaves_in m n)
    back_put links {l = l} above previous n are read = search (arith, eqb-true, own_said)

  -- ---- rooms that keep their routes stay there
  -- a member that names others has the route that it had
  next_content : (next : Option Id) (said : Option (LeafPart V)) → content_of (leaf_next next said) ≡ content_of said
  next_content next None = refl
  next_content next (Some p) = refl

  back_content : (above previous : Option Id) (said : Option (LeafPart V)) → content_of (leaf_back above previous said) ≡ content_of said
  back_content above previous None = refl
  back_content above previous (Some p) = refl

  pub next_same : (before next : Option Id) (n : ℕ) (said : Option (LeafPart V)) → content_of (name_next before next n said) ≡ content_of said
  next_same None next n said = refl
  next_same (Some room) next n said = search (arith, next_content)

  pub back_same : (behind above previous : Option Id) (n : ℕ) (said : Option (LeafPart V))
      → content_of (name_back behind above previous n said) ≡ content_of said
  back_same None above previous n said = refl
  back_same (Some room) above previous n said = search (arith, back_content)

  module _ {m : Lodged V} {at : Id} (h : Has m at) where
    pub Has-kept : (new : Lodged V) → KeepsLeaves m new → Has new at
    Has-kept new is = Has_kept new (ap content_of (is (number_of at))) h

    pub Has-next : (new : Lodged V) (before next : Option Id) → ((n : ℕ) → leaves_in new n ≡ name_next before next n (leaves_in m n)) → Has new at
    Has-next new before next is = Has_kept new (search (arith, next_same)) h

    pub Has-back : (new : Lodged V) (behind above previous : Option Id) → ((n : ℕ) → leaves_in new n ≡ name_back behind above previous n (leaves_in m n))
        → Has new at
    Has-back new behind above previous is = Has_kept new (search (arith, back_same)) h

    pub Has-linked_out : (new : Lodged V) (l : Leaf) → ((n : ℕ) → leaves_in new n ≡ link_out l n (leaves_in m n)) → Has new at
    Has-linked_out new l is = Has_kept new (search (arith, next_same, back_same)) h

    pub Has-lodged : (new : Lodged V) (room : Id) (value : V) (l : Leaf) → leaves_in m (number_of room) ≡ None
        → ((n : ℕ) → leaves_in new n ≡ lodge_leaf room value l n (leaves_in m n)) → Has new at
    Has-lodged new room value l free is = Has_kept new (search (arith, off_room, own_said, none_some)) h

  -- the new room is there, whatever its neighbours say
  pub Has-linked_in : (m new : Lodged V) (room : Id) (value : V) (l : Leaf) → ((n : ℕ) → leaves_in new n ≡ link_in room value l n (leaves_in m n))
      → Has new room
  Has-linked_in m new room value l is =
      let lodged : content_of (leaves_in new (number_of room)) ≡ content_of (Some (record { block = room.block; value = value; leaf = l })) =
      search (arith, back_same, next_same, own_room) in
      content_there new room (get new (number_of room)) refl lodged refl
