-- The row of the lodged rooms, after each change of the blocks.
--     row_new, row_put, row_more, row_less          where rooms come and go
--     newest_there, row_taken, row_ends             where all rooms are taken out
--     names_start                                   what names a room that is held names the start of a block
--     last_there, older_there, newer_there          the rooms of the row that are named
--     named_newer, named_older                      a room names another one beside it
--     said_newer, said_older                        and so it does by equal names
--     seen_newer, seen_older                        what is seen of the rooms stays
use Rattle.std.proofs.Common.{◌≡◌, ℕ, ◌-◌, ◌<◌, ◌==◌, Bool, true, false, cond, if◌then◌else◌, List, [], ◌∷◌, Option, Some, None, option_map, inl, inr, refl, sym, ap, ◌∙◌, subst, arith}
use Rattle.std.specs.Prelude.{is_some}
use Rattle.std.proofs.lemmas.Bool.{eqb-true, ne_eqb, cases_eq}
use Rattle.std.proofs.lemmas.Cmp.{nat_cmp_total}
use Rattle.std.specs.Ordering.{nat_cmp}
use Rattle.std.specs.FinMap.{FinMap, get, insert, remove, empty, len, len-remove, empty_of_len, get-empty}
use denote.RawPtr.{Ptr}
use Rattle.radix_nodes.specs.At.{IsAt, AreStarts}
use Rattle.radix_nodes.specs.Beside.{IsRoom}
use Rattle.radix_nodes.specs.Rooms.{seen_of, seen_all}
use Rattle.radix_nodes.specs.Row.{without, put_newer, put_older, IsRow, AreRow, newest_after}
use Rattle.radix_nodes.specs.declared.id.Id.{Id}
use Rattle.radix_nodes.specs.declared.room.Full.{Full}
use Rattle.radix_nodes.proofs.Cells.{get_put, get_gone, same}
use Rattle.radix_nodes.proofs.Rows.{row_same, row_touched, row_lodged, row_older, row_newer, row_left, first_there, Left}
use Rattle.radix_nodes.proofs.RoomLemmas.{inside, none_some, get_seen}
use Rattle.radix_nodes.specs.Naming.{number_of}

either_is : {A : Type 0} (b : Bool) (x : A) → (if b then x else x) ≡ x
either_is true x = refl
either_is false x = refl

abbrev pub Blocks : Type 0 → Type 0
Blocks V = FinMap nat_cmp (Ptr × Full V)

module _ {V : Type 0} where
  pub row_new : (m : Blocks V) → m ≡ empty → AreRow m None None
  row_new m e = ([], (refl, λ n. ap (λ (m : Blocks V). get m n) e ∙ get-empty nat_cmp n))

  -- other links or another value stand in a room
  pub row_put : (m : Blocks V) (newest : Option Id) (n : ℕ) (p : Ptr) (x y : Full V) → get m n ≡ Some (p, x) → y.newer ≡ x.newer → y.older ≡ x.older → AreRow m None newest
      → AreRow (insert m n (p, y)) None newest
  row_put m newest n p x y at up down h = (h.0, row_touched (get m) (get (insert m n (p, y))) None newest h.0 n p x y at up down (get_put m n (p, y)) h.1)

  -- the room at the front of a row is held, and the others are a row once it is out
  pub newest_there : (m : Blocks V) (newer newest : Option Id) (id : Id) → newest ≡ Some id → AreRow m newer newest → IsAt m (number_of id) id.block
  newest_there m newer newest id is h = let at = first_there (get m) newer newest h.0 id h.1 is in record { value = at.0; at = at.1 }

  pub row_taken : (m n : Blocks V) (newer newest : Option Id) (id : Id) (full : Full V) → newest ≡ Some id → AreRow m newer newest
      → (get m (number_of id) ≡ Some (id.block, full)) × (n ≡ remove m (number_of id)) → AreRow n (Some id) full.older
  row_taken m n newer newest id full is h took = taken h.0 h.1
    where
      taken : (rooms : List Id) → IsRow (get m) newer newest rooms → AreRow n (Some id) full.older
      taken [] h = absurd (none_some (sym h.0 ∙ is))
      taken (i ∷ is') h =
          let same : i ≡ id = inside (sym h.0 ∙ is) in
          let what : full ≡ h.1 = ap (λ (c : Ptr × Full V). c.1) (inside (sym took.0 ∙ ap (λ (j : Id). get m (number_of j)) (sym same) ∙ h.2)) in (
            is',
            row_same (without (get m) (number_of i)) (get n) (Some id) full.older is'
                (λ k. ap (λ (m : Blocks V). get m k) took.1 ∙ get_gone m (number_of id) k ∙ ap (λ (j : Id). if k == (number_of j) then None else get m k) (sym same))
                (subst (λ (j : Id). IsRow (without (get m) (number_of i)) (Some j) full.older is') same
                (subst (λ (o : Option Id). IsRow (without (get m) (number_of i)) (Some i) o is') (ap (λ (x : Full V). x.older) (sym what)) h.4)),
          )

  -- a name of a room that is held is of the start of a block
  pub names_start : (m : Blocks V) (name : Option Id) → ((room : Id) → name ≡ Some room → IsAt m (number_of room) room.block) → AreStarts m → IsRoom name
  names_start m name there starts room is = let at = there room is in (starts (number_of room) (room.block, at.value) at.at).1

  -- a row that begins with nobody is of no room
  pub row_ends : (m : Blocks V) (newer newest : Option Id) → newest ≡ None → AreRow m newer newest → m ≡ empty
  row_ends m newer newest none h = ends h.0 h.1
    where
      ends : (rooms : List Id) → IsRow (get m) newer newest rooms → m ≡ empty
      ends [] h = same _ _ (λ n. h.1 n ∙ sym (get-empty nat_cmp n))
      ends (i ∷ is) h = absurd (none_some (sym none ∙ h.0))

  -- a room is lodged: the room that was the last one is held, and all are a row with the new one
  pub last_there : (m n : Blocks V) (newest : Option Id) (id : Id) (x : Full V) → get m (number_of id) ≡ None → n ≡ insert m (number_of id) (id.block, x) → AreRow m None newest
      → (room : Id) → newest ≡ Some room → IsAt n (number_of room) room.block
  last_there m n newest id x free put h room is =
      let at = first_there (get m) None newest h.0 room h.1 is in
      let other : (number_of room) ≡ (number_of id) → ⊥ = λ q. none_some (sym free ∙ ap (get m) (sym q) ∙ at.1) in
      record {
        value = at.0;
        at = ap (λ (m : Blocks V). get m (number_of room)) put ∙ get_put m (number_of id) (id.block, x) (number_of room)
            ∙ ap (λ (b : Bool). if b then Some (id.block, x) else get m (number_of room)) (ne_eqb (number_of room) (number_of id) other) ∙ at.1;
      }

  pub row_more : (m n l : Blocks V) (newest : Option Id) (id : Id) (x : Full V) → get m (number_of id) ≡ None → x.newer ≡ None → x.older ≡ newest → n ≡ insert m (number_of id) (id.block, x)
      → ((k : ℕ) → get l k ≡ put_newer newest (Some id) k (get n k)) → AreRow m None newest → AreRow l None (Some id)
  row_more m n l newest id x free up down put named h = (
    id ∷ h.0,
    row_lodged (get m) (get l) newest h.0 id x free up down
        (λ k. named k ∙ ap (put_newer newest (Some id) k) (ap (λ (m : Blocks V). get m k) put ∙ get_put m (number_of id) (id.block, x) k)) h.1,
  )

  -- a room goes: those beside it are held, and the others are a row
  pub older_there : (m n : Blocks V) (newest : Option Id) (k : ℕ) (p : Ptr) (x : Full V) → get m k ≡ Some (p, x) → n ≡ remove m k → AreRow m None newest
      → (room : Id) → x.older ≡ Some room → IsAt n (number_of room) room.block
  older_there m n newest k p x at out h room is =
      let found = row_older (get m) None newest h.0 k p x room h.1 at is in
      record { value = found.0; at = left_in m n k (number_of room) _ out found.2 found.1 }
    where
      left_in : (m n : Blocks V) (k j : ℕ) (c : Ptr × Full V) → n ≡ remove m k → (j ≡ k → ⊥) → get m j ≡ Some c → get n j ≡ Some c
      left_in m n k j c out other at = ap (λ (m : Blocks V). get m j) out ∙ get_gone m k j ∙ ap (λ (b : Bool). if b then None else get m j) (ne_eqb j k other) ∙ at

  pub newer_there : (m n l : Blocks V) (newest : Option Id) (k : ℕ) (p : Ptr) (x : Full V) → get m k ≡ Some (p, x) → n ≡ remove m k
      → ((j : ℕ) → get l j ≡ put_newer x.older x.newer j (get n j)) → AreRow m None newest
      → (room : Id) → x.newer ≡ Some room → IsAt l (number_of room) room.block
  newer_there m n l newest k p x at out named h room is = elim (row_newer (get m) None newest h.0 k p x h.1 at) [
    | inl none ↦ absurd (none_some (sym none ∙ is))
    | inr w ↦
        let same : w.0 ≡ room = inside (sym w.2 ∙ is) in
        let held : get n (number_of w.0) ≡ Some (w.0.block, w.1)
        = ap (λ (m : Blocks V). get m (number_of w.0)) out ∙ get_gone m k (number_of w.0) ∙ ap (λ (b : Bool). if b then None else get m (number_of w.0)) (ne_eqb (number_of w.0) k w.4) ∙ w.3 in
        let still = newer_stays x.older x.newer (number_of w.0) (get n (number_of w.0)) w.0.block w.1 held in
        record { value = still.0; at = subst (λ (j : Id). get l (number_of j) ≡ Some (j.block, still.0)) same (named (number_of w.0) ∙ still.1) }
  ]
    where
      newer_stays : (at newer : Option Id) (n : ℕ) (o : Option (Ptr × Full V)) (p : Ptr) (x : Full V) → o ≡ Some (p, x) → (y : Full V) × (put_newer at newer n o ≡ Some (p, y))
      newer_stays None newer n o p x e = (x, e)
      newer_stays (Some at) newer n o p x e = elim (n == (number_of at)) as (λ b. (y : Full V) × ((if b then option_map (λ (c : Ptr × Full V). (c.0, record c.1 { newer = newer })) o else o) ≡ Some (p, y))) [
        | true ↦ (record x { newer = newer }, ap (option_map (λ (c : Ptr × Full V). (c.0, record c.1 { newer = newer }))) e)
        | false ↦ (x, e)
      ]

  pub row_less : (m n l r : Blocks V) (newest : Option Id) (k : ℕ) (p : Ptr) (x : Full V) → get m k ≡ Some (p, x) → n ≡ remove m k
      → ((j : ℕ) → get l j ≡ put_newer x.older x.newer j (get n j)) → ((j : ℕ) → get r j ≡ put_older x.newer x.older j (get l j)) → AreRow m None newest
      → AreRow r None (newest_after x.newer x.older newest)
  row_less m n l r newest k p x at out named again h = less (row_left (get m) (get r) None newest h.0 k p x h.1 at (λ a e. absurd (none_some e))
      (λ j. again j ∙ ap (put_older x.newer x.older j) (named j ∙ ap (put_newer x.older x.newer j) (ap (λ (m : Blocks V). get m j) out ∙ get_gone m k j))))
    where
      less : Left (get m) (get r) None newest x → AreRow r None (newest_after x.newer x.older newest)
      less w = elim w.row [
        | inl v ↦ (w.rooms, subst (λ (o : Option Id). IsRow (get r) None (newest_after o x.older newest) w.rooms) (sym v.0) v.1)
        | inr v ↦ (w.rooms, subst (λ (o : Option Id). IsRow (get r) None (newest_after o x.older newest) w.rooms) (sym v.2) v.4)
      ]

  -- names of the row are not seen
  newer_seen : (at newer : Option Id) (n : ℕ) (o : Option (Ptr × Full V)) → option_map seen_of (put_newer at newer n o) ≡ option_map seen_of o
  newer_seen None newer n o = refl
  newer_seen (Some at) newer n None = ap (option_map seen_of) (either_is (n == (number_of at)) None)
  newer_seen (Some at) newer n (Some c) =
      elim (n == (number_of at)) as (λ b. option_map seen_of (if b then Some (c.0, record c.1 { newer = newer }) else Some c) ≡ Some (seen_of c)) [ true ↦ refl | false ↦ refl ]

  older_seen : (at older : Option Id) (n : ℕ) (o : Option (Ptr × Full V)) → option_map seen_of (put_older at older n o) ≡ option_map seen_of o
  older_seen None older n o = refl
  older_seen (Some at) older n None = ap (option_map seen_of) (either_is (n == (number_of at)) None)
  older_seen (Some at) older n (Some c) =
      elim (n == (number_of at)) as (λ b. option_map seen_of (if b then Some (c.0, record c.1 { older = older }) else Some c) ≡ Some (seen_of c)) [ true ↦ refl | false ↦ refl ]

  pub seen_newer : (m l : Blocks V) (at newer : Option Id) → ((k : ℕ) → get l k ≡ put_newer at newer k (get m k)) → seen_all l ≡ seen_all m
  seen_newer m l at newer named = same _ _ (λ k. get_seen l k ∙ ap (option_map seen_of) (named k) ∙ newer_seen at newer k (get m k) ∙ sym (get_seen m k))

  pub seen_older : (m l : Blocks V) (at older : Option Id) → ((k : ℕ) → get l k ≡ put_older at older k (get m k)) → seen_all l ≡ seen_all m
  seen_older m l at older named = same _ _ (λ k. get_seen l k ∙ ap (option_map seen_of) (named k) ∙ older_seen at older k (get m k) ∙ sym (get_seen m k))

  -- the same said of equal names
  pub said_newer : (m l : Blocks V) (a b at newer : Option Id) → a ≡ at → b ≡ newer → ((k : ℕ) → get l k ≡ put_newer a b k (get m k)) → (k : ℕ) → get l k ≡ put_newer at newer k (get m k)
  said_newer m l a b at newer p q named k = named k ∙ (λ i. put_newer (p i) (q i) k (get m k))

  pub said_older : (m l : Blocks V) (a b at older : Option Id) → a ≡ at → b ≡ older → ((k : ℕ) → get l k ≡ put_older a b k (get m k)) → (k : ℕ) → get l k ≡ put_older at older k (get m k)
  said_older m l a b at older p q named k = named k ∙ (λ i. put_older (p i) (q i) k (get m k))

  -- a room of the row names another one as the newer one, or as the older one
  pub named_newer : (m : Blocks V) (at newer : Option Id) (room : Id) (x : Full V) → at ≡ Some room → get m (number_of room) ≡ Some (room.block, x)
      → (n : ℕ) → get (insert m (number_of room) (room.block, record x { newer = newer })) n ≡ put_newer at newer n (get m n)
  named_newer m at newer room x is there n = get_put m (number_of room) _ n ∙ elim (n == (number_of room)) as (λ b. (n == (number_of room)) ≡ b
      → (if b then Some (room.block, record x { newer = newer }) else get m n) ≡ (if b then option_map (λ (c : Ptr × Full V). (c.0, record c.1 { newer = newer })) (get m n) else get m n)) [
        | true ↦ λ e. sym (ap (option_map (λ (c : Ptr × Full V). (c.0, record c.1 { newer = newer }))) (ap (get m) (eqb-true n (number_of room) e) ∙ there))
        | false ↦ λ e. refl
      ] refl ∙ ap (λ (o : Option Id). put_newer o newer n (get m n)) (sym is)

  pub named_older : (m : Blocks V) (at older : Option Id) (room : Id) (x : Full V) → at ≡ Some room → get m (number_of room) ≡ Some (room.block, x)
      → (n : ℕ) → get (insert m (number_of room) (room.block, record x { older = older })) n ≡ put_older at older n (get m n)
  named_older m at older room x is there n = get_put m (number_of room) _ n ∙ elim (n == (number_of room)) as (λ b. (n == (number_of room)) ≡ b
      → (if b then Some (room.block, record x { older = older }) else get m n) ≡ (if b then option_map (λ (c : Ptr × Full V). (c.0, record c.1 { older = older })) (get m n) else get m n)) [
        | true ↦ λ e. sym (ap (option_map (λ (c : Ptr × Full V). (c.0, record c.1 { older = older }))) (ap (get m) (eqb-true n (number_of room) e) ∙ there))
        | false ↦ λ e. refl
      ] refl ∙ ap (λ (o : Option Id). put_older o older n (get m n)) (sym is)

  -- there are fewer rooms once one is out
  pub fewer : (m n : Blocks V) (k : ℕ) (c : Ptr × Full V) → (get m k ≡ Some c) × (n ≡ remove m k) → len n < len m
  fewer m n k c took =
      let some : 0 < len m = elim (cases_eq (len m) 0) [
        | inl none ↦ absurd (none_some (sym (get-empty nat_cmp k) ∙ ap (λ (m : Blocks V). get m k) (sym (empty_of_len m none)) ∙ took.0))
        | inr more ↦ omega (arith, more)
      ] in
      let less : len (remove m k) ≡ len m - 1 = len-remove nat_cmp_total m k ∙ ap (λ (o : Option (Ptr × Full V)). cond (is_some o) (len m - 1) (len m)) took.0 in
      omega (arith, some, less, ap (λ (m : Blocks V). len m) took.1)
