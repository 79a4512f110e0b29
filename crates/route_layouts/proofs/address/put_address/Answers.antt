use Rattle.std.proofs.Common.{◌≡◌, ℕ, ◌-◌, ◌≤◌, ◌++◌, Bool, List, length, take, replicate, arith, ap, sym, ◌∙◌, append_assoc}
use Rattle.std.specs.Prelude.{slice_index}
use Rattle.std.proofs.lemmas.List.{take-replicate}
use Rattle.route_layouts.specs.Addresses.{fitted, length_as, rounded_to, sized, turned}
use Rattle.route_layouts.proofs.Fitted.{first-fitted, length-fitted}
use Rattle.route_layouts.proofs.address.put_address.Goals as goal

pub returns-clause-bytes : goal.returns-clause-bytes
returns-clause-bytes c =
    let ch = c.args.change.now in
    let k = c.args.bit in
    let s = c.args.address.now in
    let old = c.args.bytes.now.items in
    let f : List ℕ = fitted ch k s in
    let gap : ℕ = c.rounded.result - c.len.result in
    let padded = rw c.unwrap.ensures at c.try_extend_from_slice.ensures.ok in
    let few : gap ≤ 8 = omega (arith, c.rounded.ensures.tight, c.len.ensures.value, c.sized-address.ensures.size, c.requires.change.most_to) in
    let zeros : take gap (replicate 8 0) ≡ replicate gap 0 = take-replicate gap 8 0 few in
    let size : c.length_as-size.result ≡ length_as ch k s = c.length_as-size.ensures.value in
    let its : c.sized-address.result.items ≡ sized (length_as ch k s) s = c.sized-address.ensures.address ∙ ap (λ (n : ℕ). sized n s) size in
    let turn : turned c.turns.result c.deref.result.now ≡ f =
    ap (turned c.turns.result) (c.deref.ensures.0 ∙ its) ∙ ap (λ (b : Bool). turned b (sized (length_as ch k s) s)) c.turns.ensures in
    let room : c.rounded.result ≡ rounded_to ch.to_word (slice_index f 0) =
    c.rounded.ensures.value ∙ ap (rounded_to ch.to_word) (size ∙ sym (first-fitted ch k s)) in
    let there : 1 ≤ length s = omega (arith, c.requires.whole) in
    let count : gap ≡ rounded_to ch.to_word (slice_index f 0) - length f =
    omega (arith, room, c.len.ensures.value, c.sized-address.ensures.size, size, length-fitted ch k s there) in
    padded
    ∙ ap (λ (xs : List ℕ). c.put_turned.new.bytes.items ++ xs) zeros
    ∙ ap (λ (xs : List ℕ). xs ++ replicate gap 0) (c.put_turned.ensures.turned ∙ ap (λ (xs : List ℕ). old ++ xs) turn)
    ∙ append_assoc old f (replicate gap 0)
    ∙ ap (λ (n : ℕ). old ++ (f ++ replicate n 0)) count
