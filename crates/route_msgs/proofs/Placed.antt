-- A number written at its place in a slice, as `with_field` says it.
use Rattle.std.proofs.Common.{◌≡◌, ℕ, ◌+◌, ◌-◌, ◌≤◌, List, [], ◌++◌, length, take, drop, arith, length-drop, append-nil, append_assoc, drop-drop, take_all, ap, sym, ◌∙◌}
use Rattle.std.proofs.lemmas.List.{drop_all}
use borrow.Rule.Slice.PartMut.{put_mid, mid_of, post_of}
use Rattle.byteorder.specs.Endian.{big_bytes}
use Rattle.route_msgs.specs.Layout.{field, with_field}

pub placed : (width value at : ℕ) (bytes ys : List ℕ) → at + width ≤ length bytes → ys ≡ big_bytes width value ++ drop width (mid_of at (length bytes - at) bytes) → put_mid at (length bytes - at) bytes ys ≡ with_field (field at width value) bytes
unfolding with_field
placed width value at bytes ys fits h =
    let mid : mid_of at (length bytes - at) bytes ≡ drop at bytes = take_all (length bytes - at) (drop at bytes) (omega (arith, length-drop at bytes)) in
    let behind : post_of at (length bytes - at) bytes ≡ [] = drop_all (length bytes - at) (drop at bytes) (omega (arith, length-drop at bytes)) in
    let rest : drop width (mid_of at (length bytes - at) bytes) ≡ drop (at + width) bytes = ap (drop width) mid ∙ drop-drop width at bytes in
    let written : ys ≡ big_bytes width value ++ drop (at + width) bytes = h ∙ ap (λ (xs : List ℕ). big_bytes width value ++ xs) rest in
    ap (λ (xs : List ℕ). take at bytes ++ (ys ++ xs)) behind
    ∙ ap (λ (xs : List ℕ). take at bytes ++ xs) (append-nil ys ∙ written)
    ∙ sym (append_assoc (take at bytes) (big_bytes width value) (drop (at + width) bytes))
