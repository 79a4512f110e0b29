-- A table whose entries stand where they may, while one is put, freed or moved.
use Rattle.std.proofs.Common.{◌≡◌, ℕ, ◌*◌, ◌^◌, ◌<◌, ◌≤◌, ◌==◌, if◌then◌else◌, ◌⊎◌, Option, Some, None, slice_index, length, sym, ap, subst, ◌∙◌, refl, inl, inr}
use Rattle.std.proofs.lemmas.Bool.{cases_eq, eq-eqb, ne_eqb}
use Rattle.std.proofs.lemmas.Option.{none-some, same_Some}
use Rattle.room_index.specs.Homes.{tag_of}
use Rattle.room_index.specs.Places.{standing, stands, tag_in, used_in, Adds, AreFiled, Changes, HasSamePlaces, HasSize, HaveSame, IsHome, IsIn, IsTable, Moves}
use Rattle.room_index.specs.Filed.{Filed}
use Rattle.room_index.specs.declared.places.Places.{Places}

module _ {P : Type 0} where
  pub same_then : (p q r : Places P) → HaveSame p q → HaveSame q r → HaveSame p r
  same_then p q r one two = record { kept = λ e at. two.kept e (one.kept e at); had = λ e at. one.had e (two.had e at) }

  -- entries that may stand where they do may also by another rule
  pub filed_by : (p : Places P) (may now : ℕ → ℕ → Type 0) → AreFiled p may → ((n : ℕ) (e : Filed) → stands p n ≡ Some e → may n e.pair → now n e.pair) → AreFiled p now
  filed_by p may now are also = record {
    places = λ n e at. also n e at (are.places n e at);
    tags = are.tags;
    once = are.once;
  }

  -- as many places are as large a table
  pub size_kept : (p q : Places P) → HasSize p → HasSamePlaces p q → HasSize q
  size_kept p q is same = record {
    even = same.entries ∙ is.even ∙ sym same.tags;
    size = λ some. same.tags ∙ is.size (subst (λ n. 0 < n) same.tags some) ∙ ap (λ b. 8 * 2 ^ b) (sym same.bits);
    few = subst (λ b. b ≤ 24) (sym same.bits) is.few;
  }

  -- where all places have the same, all is filed as before
  pub same_as : (p q : Places P) → ((n : ℕ) → stands q n ≡ stands p n) → HaveSame p q
  same_as p q alike = record { kept = λ e at. (at.0, alike at.0 ∙ at.1); had = λ e at. (at.0, sym (alike at.0) ∙ at.1) }

  pub filed_as : (p q : Places P) (may : ℕ → ℕ → Type 0) → AreFiled p may → ((n : ℕ) → stands q n ≡ stands p n)
      → ((n : ℕ) (e : Filed) → stands p n ≡ Some e → slice_index q.tags.items n ≡ slice_index p.tags.items n) → AreFiled q may
  filed_as p q may are alike tags = record {
    places = λ n e at. are.places n e (sym (alike n) ∙ at);
    tags = λ n e at. tags n e (sym (alike n) ∙ at) ∙ are.tags n e (sym (alike n) ∙ at);
    once = λ n m e f at to same. are.once n m e f (sym (alike n) ∙ at) (sym (alike m) ∙ to) same;
  }

  pub table_as : (p q : Places P) → IsTable p → q.tags.items ≡ p.tags.items → q.entries.items ≡ p.entries.items → q.bits ≡ p.bits → q.used ≡ p.used → IsTable q
  table_as p q is tags entries bits used = record {
    used = used ∙ is.used ∙ ap used_in (sym tags);
    size = size_kept p q is.size (record { tags = ap length tags; entries = ap length entries; bits = bits });
    filed = filed_as p q (IsHome q.bits) (subst (λ b. AreFiled p (IsHome b)) (sym bits) is.filed)
        (λ n. ap (λ ts. standing ts q.entries.items n) tags ∙ ap (λ es. standing p.tags.items es n) entries) (λ n e at. ap (λ ts. slice_index ts n) tags);
  }

  -- ---- one place changes
  module _ (old new : Places P) (place : ℕ) (now : Option Filed) (is : Changes old new place now) where
    here : stands new place ≡ now
    here = is.stand place ∙ ap (λ b. if b then now else stands old place) (eq-eqb place place refl)

    tag_here : slice_index new.tags.items place ≡ tag_in now
    tag_here = is.tags place ∙ ap (λ b. if b then tag_in now else slice_index old.tags.items place) (eq-eqb place place refl)

    there : (n : ℕ) → (n ≡ place → ⊥) → stands new n ≡ stands old n
    there n other = is.stand n ∙ ap (λ b. if b then now else stands old n) (ne_eqb n place other)

    tag_there : (n : ℕ) → (n ≡ place → ⊥) → slice_index new.tags.items n ≡ slice_index old.tags.items n
    tag_there n other = is.tags n ∙ ap (λ b. if b then tag_in now else slice_index old.tags.items n) (ne_eqb n place other)

  -- an entry of a new pair stands in a place that was free
  module _ (old new : Places P) (may : ℕ → ℕ → Type 0) (are : AreFiled old may) (place : ℕ) (own : Filed) (puts : Changes old new place (Some own))
      (free : stands old place ≡ None) (fits : may place own.pair) (absent : (e : Filed) → IsIn old e → e.pair ≡ own.pair → ⊥) where
    -- what stands somewhere is the new entry, or stood there
    pub put_cases : (n : ℕ) (e : Filed) → stands new n ≡ Some e → ((n ≡ place) × (e ≡ own)) ⊎ ((n ≡ place → ⊥) × (stands old n ≡ Some e))
    put_cases n e at = elim (cases_eq n place) [
      | inl same ↦ inl (same, same_Some e own (sym at ∙ ap (stands new) same ∙ here old new place (Some own) puts))
      | inr other ↦ inr (other, sym (there old new place (Some own) puts n other) ∙ at)
    ]

    put_once : (n m : ℕ) (e f : Filed) → stands new n ≡ Some e → stands new m ≡ Some f → e.pair ≡ f.pair → n ≡ m
    put_once n m e f at to same = elim (put_cases n e at) [
      | inl a ↦ elim (put_cases m f to) [
        | inl b ↦ a.0 ∙ sym b.0
        | inr b ↦ absurd (absent f (m, b.1) (sym same ∙ ap (λ x. x.pair) a.1))
      ]
      | inr a ↦ elim (put_cases m f to) [
        | inl b ↦ absurd (absent e (n, a.1) (same ∙ ap (λ x. x.pair) b.1))
        | inr b ↦ are.once n m e f a.1 b.1 same
      ]
    ]

    pub filed_put : AreFiled new may
    filed_put = record {
      places = λ n e at. elim (put_cases n e at) [
        | inl a ↦ subst (λ x. may n x.pair) (sym a.1) (subst (λ k. may k own.pair) (sym a.0) fits)
        | inr a ↦ are.places n e a.1
      ];
      tags = λ n e at. elim (put_cases n e at) [
        | inl a ↦ ap (slice_index new.tags.items) a.0 ∙ tag_here old new place (Some own) puts ∙ ap (λ x. tag_of x.pair) (sym a.1)
        | inr a ↦ tag_there old new place (Some own) puts n a.0 ∙ are.tags n e a.1
      ];
      once = put_once;
    }

    still_there : (n : ℕ) (e : Filed) → stands old n ≡ Some e → IsIn new e
    still_there n e at =
        let other : n ≡ place → ⊥ = λ same. none-some e (sym free ∙ ap (stands old) (sym same) ∙ at) in
        (n, there old new place (Some own) puts n other ∙ at)

    pub put_adds : Adds old new own
    put_adds = record {
      own = (place, here old new place (Some own) puts);
      kept = λ e at. still_there at.0 e at.1;
      had = λ e at. elim (put_cases at.0 e at.1) [
        | inl a ↦ inl a.1
        | inr a ↦ inr (at.0, a.1)
      ];
    }

  -- ---- an entry moves to a place that was free
  module _ (old new : Places P) (from to : ℕ) (moves : Moves old new from to) (own : Filed) (stood : stands old from ≡ Some own) (free : stands old to ≡ None) where
    at_to : stands new to ≡ Some own
    at_to = moves.stand to ∙ ap (λ b. if b then stands old from else (if to == from then None else stands old to)) (eq-eqb to to refl) ∙ stood

    apart : from ≡ to → ⊥
    apart same = none-some own (sym free ∙ ap (stands old) (sym same) ∙ stood)

    at_from : stands new from ≡ None
    at_from = moves.stand from ∙ ap (λ b. if b then stands old from else (if from == from then None else stands old from)) (ne_eqb from to apart)
        ∙ ap (λ b. if b then None else stands old from) (eq-eqb from from refl)

    pub at_other : (n : ℕ) → (n ≡ to → ⊥) → (n ≡ from → ⊥) → stands new n ≡ stands old n
    at_other n not_to not_from = moves.stand n ∙ ap (λ b. if b then stands old from else (if n == from then None else stands old n)) (ne_eqb n to not_to)
        ∙ ap (λ b. if b then None else stands old n) (ne_eqb n from not_from)

    -- what stands somewhere is the entry that was moved, or stood there
    pub move_cases : (n : ℕ) (e : Filed) → stands new n ≡ Some e
        → ((n ≡ to) × (e ≡ own)) ⊎ ((n ≡ to → ⊥) × (n ≡ from → ⊥) × (stands old n ≡ Some e))
    move_cases n e at = elim (cases_eq n to) [
      | inl same ↦ inl (same, same_Some e own (sym at ∙ ap (stands new) same ∙ at_to))
      | inr other ↦
          let not_from : n ≡ from → ⊥ = λ same. none-some e (sym (ap (stands new) same ∙ at_from) ∙ at) in
          inr (other, not_from, sym (at_other n other not_from) ∙ at)
    ]

    -- where it stood before
    was : (n : ℕ) (e : Filed) → stands new n ≡ Some e → IsIn old e
    was n e at = elim (move_cases n e at) [
      | inl a ↦ (from, stood ∙ ap Some (sym a.1))
      | inr a ↦ (n, a.2)
    ]

    still : (n : ℕ) (e : Filed) → stands old n ≡ Some e → IsIn new e
    still n e at = elim (cases_eq n from) [
      | inl same ↦ (to, at_to ∙ sym stood ∙ ap (stands old) (sym same) ∙ at)
      | inr not_from ↦ (n, at_other n (λ same. none-some e (sym free ∙ ap (stands old) (sym same) ∙ at)) not_from ∙ at)
    ]

    pub moved_same : HaveSame old new
    moved_same = record { kept = λ e at. still at.0 e at.1; had = λ e at. was at.0 e at.1 }

    tag_to : slice_index new.tags.items to ≡ slice_index old.tags.items from
    tag_to = moves.tags to
        ∙ ap (λ b. if b then slice_index old.tags.items from else (if to == from then 0 else slice_index old.tags.items to)) (eq-eqb to to refl)

    tag_other : (n : ℕ) → (n ≡ to → ⊥) → (n ≡ from → ⊥) → slice_index new.tags.items n ≡ slice_index old.tags.items n
    tag_other n not_to not_from = moves.tags n
        ∙ ap (λ b. if b then slice_index old.tags.items from else (if n == from then 0 else slice_index old.tags.items n)) (ne_eqb n to not_to)
        ∙ ap (λ b. if b then 0 else slice_index old.tags.items n) (ne_eqb n from not_from)

    module _ (may now : ℕ → ℕ → Type 0) (are : AreFiled old may) (fits : now to own.pair)
        (also : (n : ℕ) (e : Filed) → (n ≡ from → ⊥) → stands old n ≡ Some e → may n e.pair → now n e.pair) where
      moved_once : (n m : ℕ) (e f : Filed) → stands new n ≡ Some e → stands new m ≡ Some f → e.pair ≡ f.pair → n ≡ m
      moved_once n m e f at there same = elim (move_cases n e at) [
        | inl a ↦ elim (move_cases m f there) [
          | inl b ↦ a.0 ∙ sym b.0
          | inr b ↦ absurd (b.1 (sym (are.once from m own f stood b.2 (sym (ap (λ x. x.pair) a.1) ∙ same))))
        ]
        | inr a ↦ elim (move_cases m f there) [
          | inl b ↦ absurd (a.1 (are.once n from e own a.2 stood (same ∙ ap (λ x. x.pair) b.1)))
          | inr b ↦ are.once n m e f a.2 b.2 same
        ]
      ]

      pub filed_moved : AreFiled new now
      filed_moved = record {
        places = λ n e at. elim (move_cases n e at) [
          | inl a ↦ subst (λ x. now n x.pair) (sym a.1) (subst (λ k. now k own.pair) (sym a.0) fits)
          | inr a ↦ also n e a.1 a.2 (are.places n e a.2)
        ];
        tags = λ n e at. elim (move_cases n e at) [
          | inl a ↦ ap (slice_index new.tags.items) a.0 ∙ tag_to ∙ are.tags from own stood ∙ ap (λ x. tag_of x.pair) (sym a.1)
          | inr a ↦ tag_other n a.0 a.1 ∙ are.tags n e a.2
        ];
        once = moved_once;
      }
