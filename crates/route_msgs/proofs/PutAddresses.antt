-- Bytes that are put into a room one after another, and addresses that are put so behind the place of a header.
use Rattle.std.proofs.Common.{◌≡◌, ℕ, ◌+◌, ◌≤◌, ◌∙◌, List, ◌++◌, length, take, drop, sym, ap, arith, append_assoc, length-append, length-drop, length-take-le}
use Rattle.std.proofs.lemmas.List.{drop-drop, drop_at, take_at}
use Rattle.route_msgs.specs.Pasted.{pasted}

-- what is put behind other bytes is put with them
pub pasted-then : (at : ℕ) (xs ys room : List ℕ) → at + length xs ≤ length room → pasted (at + length xs) ys (pasted at xs room) ≡ pasted at (xs ++ ys) room
pasted-then at xs ys room fits =
    let n = at + length xs in
    let front = take at room ++ xs in
    let long : length front ≡ n = omega (arith, length-append (take at room) xs, length-take-le at room (omega arith)) in
    let before : take n (pasted at xs room) ≡ front = take_at front (drop n room) n long in
    let behind : drop n (pasted at xs room) ≡ drop n room = drop_at front (drop n room) n long in
    let rest : drop (n + length ys) (pasted at xs room) ≡ drop (n + length ys) room =
    sym (drop-drop (length ys) n (pasted at xs room)) ∙ ap (drop (length ys)) behind ∙ drop-drop (length ys) n room in
    let end : n + length ys ≡ at + length (xs ++ ys) = omega (arith, length-append xs ys) in
    ap (λ f. (f ++ ys) ++ drop (n + length ys) (pasted at xs room)) before
    ∙ ap (λ d. (front ++ ys) ++ d) rest
    ∙ ap (λ f. f ++ drop (n + length ys) room) (append_assoc (take at room) xs ys)
    ∙ ap (λ m. (take at room ++ (xs ++ ys)) ++ drop m room) end

-- what was put behind others stands behind them
pub put_behind : (at : ℕ) (xs room after : List ℕ) (end : ℕ) → at ≤ length room → end ≡ at + length xs → after ≡ pasted at xs room → take end after ≡ take at room ++ xs
put_behind at xs room after end fits ended stands =
    let long : length (take at room ++ xs) ≡ at + length xs = omega (arith, length-append (take at room) xs, length-take-le at room fits) in
    ap (λ (n : ℕ). take n after) ended ∙ ap (take (at + length xs)) stands ∙ take_at (take at room ++ xs) (drop (at + length xs) room) (at + length xs) long

-- ---- addresses, behind the header of their message

-- these bytes stand behind the header, up to this place
pub record Laid (old new : List ℕ) (at : ℕ) (bytes : List ℕ) : Type 0 where
  pub stand : new ≡ pasted 76 bytes old
  pub ended : at ≡ 76 + length bytes

pub Laid-more : (old new after : List ℕ) (at end : ℕ) (bytes more : List ℕ) → Laid old new at bytes → at ≤ length old
    → after ≡ pasted at more new → end ≡ at + length more
    → Laid old after end (bytes ++ more)
Laid-more old new after at end bytes more h fits is ends = record {
  stand = is ∙ ap (λ (n : ℕ). pasted n more new) h.ended ∙ ap (λ (r : List ℕ). pasted (76 + length bytes) more r) h.stand
      ∙ pasted-then 76 bytes more old (omega (arith, h.ended, fits));
  ended = omega (arith, h.ended, ends, length-append bytes more);
}

-- the header put before them makes the message
pub message_put : (head whole bytes room laid after : List ℕ) (at : ℕ) → head ≡ whole → at ≡ 76 + length bytes → at ≤ length room
    → laid ≡ pasted 76 bytes room → after ≡ head ++ drop 76 laid → after ≡ (whole ++ bytes) ++ drop at room
message_put head whole bytes room laid after at same ends fits stands is =
    let behind : drop 76 laid ≡ bytes ++ drop at room = ap (drop 76) (stands ∙ append_assoc (take 76 room) bytes (drop (76 + length bytes) room))
    ∙ drop_at (take 76 room) (bytes ++ drop (76 + length bytes) room) 76 (length-take-le 76 room (omega (arith, fits, ends)))
    ∙ ap (λ (n : ℕ). bytes ++ drop n room) (sym ends) in
    is ∙ ap (λ (h : List ℕ). h ++ drop 76 laid) same ∙ ap (λ (rest : List ℕ). whole ++ rest) behind ∙ sym (append_assoc whole bytes (drop at room))

pub message_size : (head whole bytes laid after : List ℕ) (at : ℕ) → head ≡ whole → at ≡ 76 + length bytes → 76 ≤ length laid
    → after ≡ head ++ drop 76 laid → length after ≡ length laid → at ≡ length (whole ++ bytes)
message_size head whole bytes laid after at same ends fits is long =
    omega (
      arith,
      ap length same,
      ap length is,
      length-append head (drop 76 laid),
      length-drop 76 laid,
      length-append whole bytes,
      ends,
      fits,
      long,
    )
