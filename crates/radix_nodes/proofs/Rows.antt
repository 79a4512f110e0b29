-- The row of the lodged rooms, after each change of what their blocks say.
--     row_same, row_touched       where no link of the row changes
--     row_lodged                  a room comes to its front
--     row_older, row_newer        which rooms are beside one of it
--     row_left                    a room goes out of it
use Rattle.std.proofs.Common.{◌≡◌, ℕ, ◌==◌, Bool, true, false, if◌then◌else◌, List, [], ◌∷◌, Option, Some, None, option_map, ◌⊎◌, inl, inr, refl, sym, ap, ◌∙◌, subst}
use Rattle.std.proofs.lemmas.Bool.{eq-eqb, ne_eqb, cases_eq}
use denote.RawPtr.{Ptr}
use Rattle.radix_nodes.specs.Row.{without, put_newer, put_older, IsRow}
use Rattle.radix_nodes.specs.declared.id.Id.{Id}
use Rattle.radix_nodes.specs.declared.room.Full.{Full}
use Rattle.radix_nodes.specs.Naming.{number_of}

inside : {A : Type 0} {x y : A} → Some x ≡ Some y → x ≡ y
inside e = cc

none_some : {A : Type 0} {x : A} → None ≡ Some x → ⊥
none_some e = cc

then_is : {A : Type 0} (n k : ℕ) (x y : A) → n ≡ k → (if n == k then x else y) ≡ x
then_is n k x y e = ap (λ (b : Bool). if b then x else y) (eq-eqb n k e)

else_is : {A : Type 0} (n k : ℕ) (x y : A) → (n ≡ k → ⊥) → (if n == k then x else y) ≡ y
else_is n k x y ne = ap (λ (b : Bool). if b then x else y) (ne_eqb n k ne)

either_is : {A : Type 0} (b : Bool) (x : A) → (if b then x else x) ≡ x
either_is true x = refl
either_is false x = refl

-- what each number says
abbrev Cells : Type 0 → Type 0
Cells V = ℕ → Option (Ptr × Full V)

module _ {V : Type 0} where
  -- what is said without a room
  gone : (F : Cells V) (k n : ℕ) → n ≡ k → without F k n ≡ None
  gone F k n e = then_is n k None (F n) e

  left : (F : Cells V) (k n : ℕ) → (n ≡ k → ⊥) → without F k n ≡ F n
  left F k n ne = else_is n k None (F n) ne

  there : (F : Cells V) (k n : ℕ) (c : Ptr × Full V) → without F k n ≡ Some c → (n ≡ k → ⊥) × (F n ≡ Some c)
  there F k n c at = let ne : n ≡ k → ⊥ = λ e. none_some (sym (gone F k n e) ∙ at) in (ne, sym (left F k n ne) ∙ at)

  -- pointwise the same without a room
  beside : (F G : Cells V) (k : ℕ) → ((n : ℕ) → (n ≡ k → ⊥) → G n ≡ F n) → (n : ℕ) → without G k n ≡ without F k n
  beside F G k e n = elim (cases_eq n k) [ inl is ↦ gone G k n is ∙ sym (gone F k n is) | inr ne ↦ left G k n ne ∙ e n ne ∙ sym (left F k n ne) ]

  newer_none : (at newer : Option Id) (n : ℕ) → put_newer {V = V} at newer n None ≡ None
  newer_none None newer n = refl
  newer_none (Some at) newer n = either_is (n == (number_of at)) None

  older_none : (at older : Option Id) (n : ℕ) → put_older {V = V} at older n None ≡ None
  older_none None older n = refl
  older_none (Some at) older n = either_is (n == (number_of at)) None

  newer_else : (at newer : Option Id) (n : ℕ) (o : Option (Ptr × Full V)) → ((room : Id) → at ≡ Some room → n ≡ (number_of room) → ⊥) → put_newer at newer n o ≡ o
  newer_else None newer n o other = refl
  newer_else (Some at) newer n o other = else_is n (number_of at) _ o (other at refl)

  older_else : (at older : Option Id) (n : ℕ) (o : Option (Ptr × Full V)) → ((room : Id) → at ≡ Some room → n ≡ (number_of room) → ⊥) → put_older at older n o ≡ o
  older_else None older n o other = refl
  older_else (Some at) older n o other = else_is n (number_of at) _ o (other at refl)

  pub row_same : (F G : Cells V) (newer first : Option Id) (rooms : List Id) → ((n : ℕ) → G n ≡ F n) → IsRow F newer first rooms → IsRow G newer first rooms
  row_same F G newer first [] e h = (h.0, λ n. e n ∙ h.1 n)
  row_same F G newer first (i ∷ is) e h =
      (h.0, h.1, e (number_of i) ∙ h.2, h.3, row_same (without F (number_of i)) (without G (number_of i)) (Some i) h.1.older is (beside F G (number_of i) (λ n ne. e n)) h.4)

  -- the first of a row
  pub first_there : (F : Cells V) (newer first : Option Id) (rooms : List Id) (f : Id) → IsRow F newer first rooms → first ≡ Some f → (full : Full V) × (F (number_of f) ≡ Some (f.block, full))
  first_there F newer first [] f h e = absurd (none_some (sym h.0 ∙ e))
  first_there F newer first (i ∷ is) f h e = (h.1, subst (λ (j : Id). F (number_of j) ≡ Some (j.block, h.1)) (inside (sym h.0 ∙ e)) h.2)

  -- a room whose links in the row stay
  pub row_touched : (F G : Cells V) (newer first : Option Id) (rooms : List Id) (k : ℕ) (p : Ptr) (x y : Full V) → F k ≡ Some (p, x) → y.newer ≡ x.newer → y.older ≡ x.older
      → ((n : ℕ) → G n ≡ (if n == k then Some (p, y) else F n)) → IsRow F newer first rooms → IsRow G newer first rooms
  row_touched F G newer first [] k p x y at up down e h = absurd (none_some (sym (h.1 k) ∙ at))
  row_touched F G newer first (i ∷ is) k p x y at up down e h = elim (cases_eq (number_of i) k) [
    | inl is_it ↦
        let same = inside (sym h.2 ∙ ap F is_it ∙ at) in (
          h.0,
          y,
          e (number_of i) ∙ then_is (number_of i) k (Some (p, y)) (F (number_of i)) is_it ∙ ap (λ (q : Ptr × Full V). Some (q.0, y)) (sym same),
          up ∙ ap (λ (q : Ptr × Full V). q.1.newer) (sym same) ∙ h.3,
          subst (λ (o : Option Id). IsRow (without G (number_of i)) (Some i) o is) (ap (λ (q : Ptr × Full V). q.1.older) same ∙ sym down)
              (row_same (without F (number_of i)) (without G (number_of i)) (Some i) h.1.older is
              (beside F G (number_of i) (λ n ne. e n ∙ else_is n k (Some (p, y)) (F n) (λ q. ne (q ∙ sym is_it)))) h.4),
        )
    | inr other ↦ (
      h.0,
      h.1,
      e (number_of i) ∙ else_is (number_of i) k (Some (p, y)) (F (number_of i)) other ∙ h.2,
      h.3,
      row_touched (without F (number_of i)) (without G (number_of i)) (Some i) h.1.older is k p x y (left F (number_of i) k (λ q. other (sym q)) ∙ at) up down
          (λ n. elim (cases_eq n (number_of i)) [
            | inl q ↦ gone G (number_of i) n q ∙ sym (else_is n k (Some (p, y)) (without F (number_of i) n) (λ r. other (sym q ∙ r)) ∙ gone F (number_of i) n q)
            | inr ne ↦ left G (number_of i) n ne ∙ e n ∙ ap (λ (o : Option (Ptr × Full V)). if n == k then Some (p, y) else o) (sym (left F (number_of i) n ne))
          ]) h.4,
    )
  ]

  -- the first of a row names another room as the one before it
  row_headed : (F G : Cells V) (newer new first : Option Id) (rooms : List Id) → IsRow F newer first rooms → ((n : ℕ) → G n ≡ put_newer first new n (F n)) → IsRow G new first rooms
  row_headed F G newer new first [] h e = (h.0, λ n. e n ∙ ap (λ (o : Option Id). put_newer o new n (F n)) h.0 ∙ h.1 n)
  row_headed F G newer new first (i ∷ is) h e =
      let put : (n : ℕ) → G n ≡ put_newer (Some i) new n (F n) = λ n. e n ∙ ap (λ (o : Option Id). put_newer o new n (F n)) h.0 in (
        h.0,
        record h.1 { newer = new },
        put (number_of i) ∙ then_is (number_of i) (number_of i) _ (F (number_of i)) refl ∙ ap (option_map (λ (c : Ptr × Full V). (c.0, record c.1 { newer = new }))) h.2,
        refl,
        row_same (without F (number_of i)) (without G (number_of i)) (Some i) h.1.older is (beside F G (number_of i) (λ n ne. put n ∙ else_is n (number_of i) _ (F n) ne)) h.4,
      )

  -- a room is lodged
  pub row_lodged : (F G : Cells V) (first : Option Id) (rooms : List Id) (id : Id) (full : Full V) → F (number_of id) ≡ None → full.newer ≡ None → full.older ≡ first
      → ((n : ℕ) → G n ≡ put_newer first (Some id) n (if n == (number_of id) then Some (id.block, full) else F n)) → IsRow F None first rooms → IsRow G None (Some id) (id ∷ rooms)
  row_lodged F G first rooms id full free up down e h = (
    refl,
    full,
    e (number_of id) ∙ newer_else first (Some id) (number_of id) _ (λ f is q. let at = first_there F None first rooms f h is in none_some (sym free ∙ ap F q ∙ at.1)) ∙ then_is (number_of id) (number_of id) _ (F (number_of id)) refl,
    up,
    row_headed F (without G (number_of id)) None (Some id) full.older rooms (subst (λ (o : Option Id). IsRow F None o rooms) (sym down) h)
        (λ n. elim (cases_eq n (number_of id)) [
          | inl q ↦ gone G (number_of id) n q ∙ sym (ap (put_newer full.older (Some id) n) (ap F q ∙ free) ∙ newer_none full.older (Some id) n)
          | inr ne ↦ left G (number_of id) n ne ∙ e n ∙ ap (put_newer first (Some id) n) (else_is n (number_of id) _ (F n) ne) ∙ ap (λ (o : Option Id). put_newer o (Some id) n (F n)) (sym down)
        ]),
  )

  -- the older one of a room is there
  pub row_older : (F : Cells V) (newer first : Option Id) (rooms : List Id) (k : ℕ) (p : Ptr) (x : Full V) (b : Id) → IsRow F newer first rooms → F k ≡ Some (p, x) → x.older ≡ Some b
      → (full : Full V) × (F (number_of b) ≡ Some (b.block, full)) × ((number_of b) ≡ k → ⊥)
  row_older F newer first [] k p x b h at is = absurd (none_some (sym (h.1 k) ∙ at))
  row_older F newer first (i ∷ is) k p x b h at down = elim (cases_eq (number_of i) k) [
    | inl is_it ↦
        let same = inside (sym h.2 ∙ ap F is_it ∙ at) in
        let found = first_there (without F (number_of i)) (Some i) h.1.older is b h.4 (ap (λ (q : Ptr × Full V). q.1.older) same ∙ down) in
        let kept = there F (number_of i) (number_of b) _ found.1 in (found.0, kept.1, λ q. kept.0 (q ∙ sym is_it))
    | inr other ↦
        let found = row_older (without F (number_of i)) (Some i) h.1.older is k p x b h.4 (left F (number_of i) k (λ q. other (sym q)) ∙ at) down in
        (found.0, (there F (number_of i) (number_of b) _ found.1).1, found.2)
  ]

  -- the newer one of a room is there, or the room is the first
  pub row_newer : (F : Cells V) (newer first : Option Id) (rooms : List Id) (k : ℕ) (p : Ptr) (x : Full V) → IsRow F newer first rooms → F k ≡ Some (p, x)
      → (x.newer ≡ newer) ⊎ ((a : Id) × (full : Full V) × (x.newer ≡ Some a) × (F (number_of a) ≡ Some (a.block, full)) × ((number_of a) ≡ k → ⊥))
  row_newer F newer first [] k p x h at = absurd (none_some (sym (h.1 k) ∙ at))
  row_newer F newer first (i ∷ is) k p x h at = elim (cases_eq (number_of i) k) [
    | inl is_it ↦ inl (ap (λ (q : Ptr × Full V). q.1.newer) (inside (sym at ∙ ap F (sym is_it) ∙ h.2)) ∙ h.3)
    | inr other ↦ elim (row_newer (without F (number_of i)) (Some i) h.1.older is k p x h.4 (left F (number_of i) k (λ q. other (sym q)) ∙ at)) [
      | inl up ↦ inr (i, h.1, up, h.2, other)
      | inr w ↦ inr (w.0, w.1, w.2, (there F (number_of i) (number_of w.0) _ w.3).1, w.4)
    ]
  ]

  -- what number n says once room k has left the row, in which it said this
  abbrev pub left_out : Cells V → ℕ → Full V → Cells V
  left_out F k x n = put_older x.newer x.older n (put_newer x.older x.newer n (without F k n))

  pub record Left (F G : Cells V) (newer first : Option Id) (x : Full V) : Type 0 where
    pub rooms : List Id
    pub row : ((x.newer ≡ newer) × IsRow G newer x.older rooms) ⊎ ((a : Id) × (full : Full V) × (x.newer ≡ Some a) × (F (number_of a) ≡ Some (a.block, full)) × IsRow G newer first rooms)

  -- a room goes
  pub row_left : (F G : Cells V) (newer first : Option Id) (rooms : List Id) (k : ℕ) (p : Ptr) (x : Full V) → IsRow F newer first rooms → F k ≡ Some (p, x)
      → ((a : Id) → newer ≡ Some a → F (number_of a) ≡ None) → ((n : ℕ) → G n ≡ left_out F k x n) → Left F G newer first x
  row_left F G newer first [] k p x h at above e = absurd (none_some (sym (h.1 k) ∙ at))
  row_left F G newer first (i ∷ is) k p x h at above e = elim (cases_eq (number_of i) k) [
    | inl is_it ↦
        let same = inside (sym h.2 ∙ ap F is_it ∙ at) in
        let up : x.newer ≡ newer = ap (λ (q : Ptr × Full V). q.1.newer) (sym same) ∙ h.3 in
        record {
          rooms = is;
          row = inl (
            up,
            row_headed (without F (number_of i)) G (Some i) newer x.older is
                (subst (λ (o : Option Id). IsRow (without F (number_of i)) (Some i) o is) (ap (λ (q : Ptr × Full V). q.1.older) same) h.4)
                (λ n. e n ∙ ap (λ (j : ℕ). put_older x.newer x.older n (put_newer x.older x.newer n (without F j n))) (sym is_it)
                ∙ ap (λ (o : Option Id). put_older o x.older n (put_newer x.older o n (without F (number_of i) n))) up
                ∙ no_one F newer x.older (number_of i) above n),
          );
        }
    | inr other ↦
        let older_at = row_older (without F (number_of i)) (Some i) h.1.older is k p x in
        let ahead : without F (number_of i) k ≡ Some (p, x) = left F (number_of i) k (λ q. other (sym q)) ∙ at in
        let apart : (b : Id) → x.older ≡ Some b → (number_of i) ≡ (number_of b) → ⊥ = λ b down q. (there F (number_of i) (number_of b) _ (older_at b h.4 ahead down).1).0 (sym q) in
        let said : G (number_of i) ≡ put_older x.newer x.older (number_of i) (Some (i.block, h.1))
        = e (number_of i) ∙ ap (put_older x.newer x.older (number_of i)) (newer_else x.older x.newer (number_of i) _ apart ∙ left F k (number_of i) other ∙ h.2) in
        let rest = row_left (without F (number_of i)) (without G (number_of i)) (Some i) h.1.older is k p x h.4 ahead
        (λ a q. gone F (number_of i) (number_of a) (ap (λ (j : Id). (number_of j)) (inside (sym q))))
        (λ n. elim (cases_eq n (number_of i)) [
          | inl q ↦ gone G (number_of i) n q ∙ sym (nothing x n _ (left (without F (number_of i)) k n (λ r. other (sym q ∙ r)) ∙ gone F (number_of i) n q))
          | inr ne ↦ left G (number_of i) n ne ∙ e n ∙ ap (λ (o : Option (Ptr × Full V)). put_older x.newer x.older n (put_newer x.older x.newer n (if n == k then None else o))) (sym (left F (number_of i) n ne))
        ]) in
        elim rest.row [
          | inl w ↦ record {
            rooms = i ∷ rest.rooms;
            row = inr (
              i,
              h.1,
              w.0,
              h.2,
              (
                h.0,
                record h.1 { older = x.older },
                said ∙ ap (λ (o : Option Id). put_older o x.older (number_of i) (Some (i.block, h.1))) w.0 ∙ then_is (number_of i) (number_of i) _ _ refl,
                h.3,
                w.1,
              ),
            );
          }
          | inr w ↦ record {
            rooms = i ∷ rest.rooms;
            row = let at_a = there F (number_of i) (number_of w.0) _ w.3 in inr (
              w.0,
              w.1,
              w.2,
              at_a.1,
              (
                h.0,
                h.1,
                said ∙ older_else x.newer x.older (number_of i) _ (λ a q r. at_a.0 (ap (λ (j : Id). (number_of j)) (inside (sym w.2 ∙ q)) ∙ sym r)),
                h.3,
                w.4,
              ),
            );
          }
        ]
  ]
    where
      nothing : (x : Full V) (n : ℕ) (o : Option (Ptr × Full V)) → o ≡ None → put_older x.newer x.older n (put_newer x.older x.newer n o) ≡ None
      nothing x n o e = ap (λ (o : Option (Ptr × Full V)). put_older x.newer x.older n (put_newer x.older x.newer n o)) e
          ∙ ap (put_older x.newer x.older n) (newer_none x.older x.newer n) ∙ older_none x.newer x.older n

      no_one : (F : Cells V) (newer older : Option Id) (k : ℕ) → ((a : Id) → newer ≡ Some a → F (number_of a) ≡ None) → (n : ℕ)
          → put_older newer older n (put_newer older newer n (without F k n)) ≡ put_newer older newer n (without F k n)
      no_one F None older k above n = refl
      no_one F (Some a) older k above n = elim (cases_eq n (number_of a)) [
        | inl q ↦
            let none : without F k n ≡ None = elim (cases_eq n k) [ inl r ↦ gone F k n r | inr ne ↦ left F k n ne ∙ ap F q ∙ above a refl ] in
            let out : put_newer older (Some a) n (without F k n) ≡ None = ap (put_newer older (Some a) n) none ∙ newer_none older (Some a) n in
            ap (put_older (Some a) older n) out ∙ older_none (Some a) older n ∙ sym out
        | inr ne ↦ else_is n (number_of a) _ _ ne
      ]
