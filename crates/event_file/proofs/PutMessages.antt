-- The lines of messages, put one after another to the front of a room.
use Rattle.std.proofs.Common.{◌≡◌, ℕ, ◌+◌, ◌*◌, ◌≤◌, List, [], ◌∷◌, ◌++◌, length, take, drop, refl, sym, ap, ◌∙◌, arith, append_assoc, append-nil, length-append, length-drop}
use Rattle.hex.specs.Hex.{encode_lower, lower_digits}
use Rattle.hex.proofs.HexLemmas.{length-encode_with}
use Rattle.route_core.specs.Received.{cut, AreMessages}
use Rattle.route_msgs.specs.Pasted.{pasted}
use Rattle.route_msgs.proofs.PutAddresses.{pasted-then, put_behind}
use Rattle.event_file.specs.Answers.{message_line}
use Rattle.event_file.proofs.MessageLines.{lines, lines-append}

pub length-message_line : (m : List ℕ) → length (message_line m) ≡ 5 + 2 * length m
length-message_line m =
    let e = length-encode_with lower_digits m in
    let f = length-append (encode_lower m) (10 ∷ []) in
    omega (arith, e, f)

-- three texts, each put behind the one before, are put together
pub pasted_thrice : (at : ℕ) (xs ys zs room first second third : List ℕ) (here there : ℕ) → at + length xs + length ys ≤ length room → here ≡ at + length xs → there ≡ here + length ys
    → first ≡ pasted at xs room → second ≡ pasted here ys first → third ≡ pasted there zs second → third ≡ pasted at (xs ++ ys ++ zs) room
pasted_thrice at xs ys zs room first second third here there fits ends stops is_first is_second is_third =
    let place : there ≡ at + length (xs ++ ys) = omega (arith, length-append xs ys, ends, stops) in
    let both : second ≡ pasted at (xs ++ ys) room =
    is_second ∙ ap (λ (n : ℕ). pasted n ys first) ends ∙ ap (λ (r : List ℕ). pasted (at + length xs) ys r) is_first ∙ pasted-then at xs ys room (omega (arith, fits)) in
    is_third ∙ ap (λ (n : ℕ). pasted n zs second) place ∙ ap (λ (r : List ℕ). pasted (at + length (xs ++ ys)) zs r) both
    ∙ pasted-then at (xs ++ ys) zs room (omega (arith, length-append xs ys, fits))

-- the line of a message, put behind others
pub line_behind : (at : ℕ) (m room after : List ℕ) (end : ℕ) → at ≤ length room → end ≡ at + (5 + 2 * length m) → after ≡ pasted at (message_line m) room
    → take end after ≡ take at room ++ message_line m
line_behind at m room after end fits ended stands = put_behind at (message_line m) room after end fits (omega (arith, length-message_line m, ended)) stands

-- of the messages of the bytes, the lines of those before the rest stand at the front of the room, up to the end
pub record PutLines (bytes rest old new : List ℕ) (end : ℕ) : Type 0 where
  pub messages : List (List ℕ)
  pub parted : cut bytes ≡ messages ++ cut rest
  pub ended : end ≡ length (lines messages)
  pub stand : new ≡ pasted 0 (lines messages) old
  pub whole : AreMessages rest

-- there is room for the next
pub PutLines-room : {bytes rest old new : List ℕ} {end : ℕ} (m left : List ℕ) → PutLines bytes rest old new end → cut rest ≡ m ∷ cut left → length (lines (cut bytes)) ≤ length old
    → (end + (5 + 2 * length m) ≤ length old) × (length new ≡ length old)
PutLines-room {bytes} {rest} {old} {new} {end} m left p e fits =
    let all : lines (cut bytes) ≡ lines p.messages ++ (message_line m ++ lines (cut left)) =
    ap lines (p.parted ∙ ap (λ ms. p.messages ++ ms) e) ∙ lines-append p.messages (m ∷ cut left) in
    let long = ap length all ∙ length-append (lines p.messages) (message_line m ++ lines (cut left)) in
    let more = length-append (message_line m) (lines (cut left)) in
    let one = length-message_line m in
    let ended = p.ended in
    let most : end + (5 + 2 * length m) ≤ length old = omega arith in
    let stands : length new ≡ length (lines p.messages) + length (drop (0 + length (lines p.messages)) old) = ap length p.stand ∙ length-append (lines p.messages) (drop (0 + length (lines p.messages)) old) in
    let dropped = length-drop (0 + length (lines p.messages)) old in
    (most, omega arith)

-- and it stands behind them
pub PutLines-more : {bytes rest old new : List ℕ} {end : ℕ} (m left after : List ℕ) → PutLines bytes rest old new end → cut rest ≡ m ∷ cut left → AreMessages left
    → length (lines (cut bytes)) ≤ length old → after ≡ pasted end (message_line m) new → PutLines bytes left old after (end + (5 + 2 * length m))
PutLines-more {bytes} {rest} {old} {new} {end} m left after p e h fits is =
    let room = (PutLines-room m left p e fits).0 in
    let one = length-message_line m in
    let both : lines (p.messages ++ m ∷ []) ≡ lines p.messages ++ message_line m = lines-append p.messages (m ∷ []) ∙ ap (λ l. lines p.messages ++ l) (append-nil (message_line m)) in
    record {
      messages = p.messages ++ m ∷ [];
      parted = p.parted ∙ ap (λ ms. p.messages ++ ms) e ∙ sym (append_assoc p.messages (m ∷ []) (cut left));
      ended = let a = ap length both ∙ length-append (lines p.messages) (message_line m) in let b = p.ended in omega arith;
      stand = is ∙ ap (λ (r : List ℕ). pasted end (message_line m) r) p.stand ∙ ap (λ (n : ℕ). pasted n (message_line m) (pasted 0 (lines p.messages) old)) (p.ended ∙ omega arith)
          ∙ pasted-then 0 (lines p.messages) (message_line m) old (let b = p.ended in omega arith) ∙ ap (λ (l : List ℕ). pasted 0 l old) (sym both);
      whole = h;
    }
