-- What stands in a room once a piece was put into it.
use Rattle.std.proofs.Common.{◌≡◌, ◌∙◌, ℕ, ◌+◌, ◌≤◌, List, ◌++◌, length, take, drop, ap, arith}
use Rattle.std.proofs.Math.Seq.{take-add, take-append_seam}
use Rattle.std.proofs.lemmas.Slice.{take-put_mid}
use borrow.Rule.Slice.PartMut.{put_mid}
use Rattle.message_text.specs.Room.{written}

-- a piece that is copied behind what stands there
pub written_put : (at k end : ℕ) (room piece : List ℕ) → end ≡ at + length piece → at ≤ length room
    → written (put_mid at k room piece) end ≡ written room at ++ piece
unfolding written
written_put at k end room piece e fits = take-put_mid at k room piece end e fits

-- digits that are put before their end
pub written_digits : (at begin end : ℕ) (room new digits : List ℕ) → end ≡ at + length digits → begin + length digits ≡ end
    → drop begin new ≡ digits ++ drop end room → take begin new ≡ take begin room → written new end ≡ written room at ++ digits
unfolding written
written_digits at begin end room new digits is begins put kept =
    let here : begin ≡ at = omega arith in
    let rest = rw here at put in
    let front = rw here at kept in
    ap (λ (n : ℕ). take n new) is ∙ take-add at (length digits) new
    ∙ ap (λ (l : List ℕ). take at new ++ take (length digits) l) rest
    ∙ ap (λ (l : List ℕ). take at new ++ l) (take-append_seam digits (drop end room))
    ∙ ap (λ (l : List ℕ). l ++ digits) front
