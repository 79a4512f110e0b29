-- Texts that are put one behind the other.
use Rattle.std.proofs.Common.{◌≡◌, ◌∙◌, ℕ, List, ◌∷◌, ◌++◌, ap, sym, append_assoc}
use Rattle.message_text.specs.Addresses.{Place, address_line, address_lines, behind}

-- a text, and another behind it
pub onto : (old a b one two : List ℕ) → one ≡ old ++ a → two ≡ one ++ b → two ≡ old ++ (a ++ b)
onto old a b one two e f = f ∙ ap (λ (l : List ℕ). l ++ b) e ∙ append_assoc old a b

-- a piece that is put into a room, behind what was taken from there before
pub put_onto : (taken front piece new old : List ℕ) → new ≡ front ++ piece → taken ++ front ≡ old → taken ++ new ≡ old ++ piece
put_onto taken front piece new old e f =
    ap (λ (l : List ℕ). taken ++ l) e ∙ sym (append_assoc taken front piece) ∙ ap (λ (l : List ℕ). l ++ piece) f

-- a piece of a text, whose rest is still to be put
pub piece_then : (taken front piece new old rest left whole : List ℕ) → new ≡ front ++ piece → taken ++ front ≡ old
    → rest ≡ piece ++ left → old ++ rest ≡ whole → (taken ++ new) ++ left ≡ whole
piece_then taken front piece new old rest left whole e f g h =
    ap (λ (l : List ℕ). l ++ left) (put_onto taken front piece new old e f) ∙ append_assoc old piece left
    ∙ ap (λ (l : List ℕ). old ++ l) (sym g) ∙ h

-- the line of an address, and the lines of those behind it
pub lines_then : (p : Place) (ps : List Place) (addrs : ℕ) (bytes rest one two three : List ℕ)
    → two ≡ one ++ address_line p addrs bytes → rest ≡ behind p.bit addrs bytes
    → three ≡ two ++ address_lines ps addrs rest → three ≡ one ++ address_lines (p ∷ ps) addrs bytes
lines_then p ps addrs bytes rest one two three e r f =
    onto one (address_line p addrs bytes) (address_lines ps addrs (behind p.bit addrs bytes)) two three e
    (f ∙ ap (λ (b : List ℕ). two ++ address_lines ps addrs b) r)
