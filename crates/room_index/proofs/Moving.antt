-- What moves from place to place.
use Rattle.std.proofs.Common.{◌≡◌, ℕ, ◌==◌, if◌then◌else◌, Some, None, slice_index, sym, ap, ◌∙◌}
use Rattle.room_index.specs.Homes.{tag_of}
use Rattle.room_index.specs.Places.{stands, Changes, Moves}
use Rattle.room_index.specs.Filed.{Filed}
use Rattle.room_index.specs.declared.places.Places.{Places}

module _ {P : Type 0} where
  -- to free a place and to put what stood there into another one is to move it
  pub moved : (old free new : Places P) (from to : ℕ) (e : Filed) → stands old from ≡ Some e → slice_index old.tags.items from ≡ tag_of e.pair
      → Changes old free from None → Changes free new to (Some e) → Moves old new from to
  moved old free new from to e at tag frees puts = record {
    same = record {
      tags = puts.same.tags ∙ frees.same.tags;
      entries = puts.same.entries ∙ frees.same.entries;
      bits = puts.same.bits ∙ frees.same.bits;
    };
    stand = λ n. puts.stand n ∙ ap (λ s. if n == to then Some e else s) (frees.stand n) ∙ ap (λ s. if n == to then s else (if n == from then None else stands old n)) (sym at);
    tags = λ n. puts.tags n ∙ ap (λ t. if n == to then tag_of e.pair else t) (frees.tags n)
        ∙ ap (λ t. if n == to then t else (if n == from then 0 else slice_index old.tags.items n)) (sym tag);
  }
