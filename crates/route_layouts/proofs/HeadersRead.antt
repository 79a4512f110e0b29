-- A header that was written is read again.
use Rattle.std.proofs.Common.{◌≡◌, ℕ, zero, suc, ◌<◌, ◌^◌, ◌+◌, ◌*◌, ◌%◌, ◌==◌, ◌||◌, Bool, true, false, List, [], ◌∷◌, ◌++◌, length, drop, replicate, refl, ap, ◌∙◌, arith, drop_at, if◌then◌else◌, slice_index, pow-suc, pow-add, mod-eq_of_lt}
use Rattle.std.specs.Prelude.{nat_lt}
use Rattle.std.proofs.lemmas.Bool.{eqb-true, ltb-true}
use Rattle.std.proofs.lemmas.List.{length-replicate}
use Rattle.route_layouts.specs.Fields.{in_order}
use Rattle.route_layouts.specs.Places.{all_fit, all_kept, are_within, has_room, kept, numbers_in, with_numbers}
use Rattle.route_layouts.specs.Layouts.{IsHeader, WrittenIsRead}
use Rattle.route_layouts.specs.Conversion.{ConvertedIsRead, addresses_in, all_placed, head_of, is_narrow, its_header, placed, renumbered}
use Rattle.route_layouts.specs.declared.fields.Fields.{Fields}
use Rattle.route_layouts.specs.declared.order.Order.{Order}
use Rattle.route_layouts.specs.declared.place.Place.{Place}
use Rattle.route_layouts.proofs.HeadersOf.{header_is}
use Rattle.route_layouts.proofs.NumbersRead.{both, numbers_read, numbers_in-append, length-with_numbers}

-- two headers have as many fields
pub same_count : {A B : Type 0} (a : Fields A) (b : Fields B) → length (in_order a) ≡ length (in_order b)
unfolding in_order
same_count a b = refl

pub header_read : WrittenIsRead
header_read size f o numbers behind h =
    let zeros = replicate size 0 in
    let count : length zeros ≡ size = length-replicate size 0 in
    let fits : are_within (length zeros) (in_order f) ≡ true = rw count h.within in
    let whole : are_within (length (with_numbers o (in_order f) (in_order numbers) zeros)) (in_order f) ≡ true =
    rw (length-with_numbers o (in_order f) (in_order numbers) zeros fits) fits in
    numbers_in-append o (in_order f) (with_numbers o (in_order f) (in_order numbers) zeros) behind whole
    ∙ numbers_read o (in_order f) (in_order numbers) zeros (same_count numbers f) fits h.apart

pow256 : (n : ℕ) → 256 ^ n ≡ 2 ^ (8 * n)
pow256 zero = refl
pow256 (suc n) =
    let e : 8 * suc n ≡ 8 * n + 8 = omega arith in
    rw (pow-suc 256 n, pow256 n, e, pow-add 2 (8 * n) 8) refl

-- a header has its size
pub length_written : (size : ℕ) (f : Fields Place) (o : Order) (numbers : Fields ℕ) → IsHeader size f → length (with_numbers o (in_order f) (in_order numbers) (replicate size 0)) ≡ size
length_written size f o numbers h =
    let count : length (replicate size 0) ≡ size = length-replicate {A = ℕ} size 0 in
    let fits : are_within (length (replicate size 0)) (in_order f) ≡ true = rw count h.within in
    length-with_numbers o (in_order f) (in_order numbers) (replicate size 0) fits ∙ count

-- a number that a place has room for is kept whole, and nothing is where there is no place
kept_of : (w n : ℕ) (b : Bool) → (w == 0) ≡ b → (b || nat_lt n (2 ^ (8 * w))) ≡ true → n % 256 ^ w ≡ (if b then 0 else n)
kept_of w n true none h = let e : w ≡ 0 = eqb-true w 0 none in rw e (omega arith)
kept_of w n false none h =
    let less : n < 256 ^ w = rw (pow256 w) (ltb-true n (2 ^ (8 * w)) h) in
    mod-eq_of_lt less

kept_placed : (ps : List Place) (ns : List ℕ) → all_fit ps ns ≡ true → all_kept ps ns ≡ all_placed ps ns
kept_placed [] ns h = refl
kept_placed (p ∷ ps) [] h = refl
kept_placed (p ∷ ps) (n ∷ ns) h =
    let fit : (has_room p n ≡ true) × (all_fit ps ns ≡ true) = both _ _ h in
    let first : kept p n ≡ placed p n = kept_of p.width n (p.width == 0) refl fit.0 in
    rw (first, kept_placed ps ns fit.1) refl

pub converted_read : ConvertedIsRead
unfolding is_narrow head_of
converted_read from to m new h converted =
    let head = its_header to m in
    let is : IsHeader head.size head.places = header_is to (slice_index m 3) h in
    let numbers = renumbered from to m in
    let behind = addresses_in from to m in
    let bytes = with_numbers to.order (in_order head.places) (in_order numbers) (replicate head.size 0) in
    let size : length bytes ≡ head.size = length_written head.size head.places to.order numbers is in
    let e : new ≡ bytes ++ behind = converted.bytes in (
      ap (numbers_in to.order (in_order head.places)) e
          ∙ header_read head.size head.places to.order numbers behind is
          ∙ kept_placed (in_order head.places) (in_order numbers) (both _ _ converted.narrow).1,
      ap (drop head.size) e ∙ drop_at bytes behind head.size size,
    )
