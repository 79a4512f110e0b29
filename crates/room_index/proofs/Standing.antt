-- What stands in a place, by its tag and its entry.
use Rattle.std.proofs.Common.{◌≡◌, ℕ, ◌<◌, if◌then◌else◌, List, length, slice_get, slice_index, slice_index_or, Some, None, sym, ap, ◌∙◌, refl}
use Rattle.std.proofs.lemmas.Bool.{eq-eqb, ne_eqb}
use Rattle.std.proofs.lemmas.Option.{get_or_from_slice_get, slice_get_read, slice_get_within, none-some}
use Rattle.room_index.specs.Places.{standing}
use Rattle.room_index.specs.Filed.{Filed}

-- a tag as it is read
pub tag_read : (tags : List ℕ) (n tag : ℕ) → n < length tags → tag ≡ slice_index_or tags n tag → slice_index tags n ≡ tag
tag_read tags n tag within read = get_or_from_slice_get tags n tag 0 (slice_get_read tags (length tags) n tag refl within read)

module _ (tags : List ℕ) (entries : List Filed) (n : ℕ) where
  pub stands_free : slice_index tags n ≡ 0 → standing tags entries n ≡ None
  stands_free free = ap (λ b. if b then None else slice_get entries n) (eq-eqb (slice_index tags n) 0 free)

  pub stands_in : (slice_index tags n ≡ 0 → ⊥) → standing tags entries n ≡ slice_get entries n
  stands_in used = ap (λ b. if b then None else slice_get entries n) (ne_eqb (slice_index tags n) 0 used)

  pub is_used : {e : Filed} → standing tags entries n ≡ Some e → slice_index tags n ≡ 0 → ⊥
  is_used {e} at free = none-some e (sym (stands_free free) ∙ at)

  pub entry_of : {e : Filed} → standing tags entries n ≡ Some e → slice_get entries n ≡ Some e
  entry_of at = sym (stands_in (is_used at)) ∙ at

  pub stands_within : {e : Filed} → standing tags entries n ≡ Some e → n < length entries
  stands_within {e} at = slice_get_within entries n e (entry_of at)
