-- Texts of bytes, and the bytes of numbers.
use Rattle.std.proofs.Common.{◌≡◌, ◌<◌, ◌≤◌, ℕ, zero, suc, true, List, [], ◌∷◌, ◌++◌, length, take, drop, replicate, arith, nat_lt, inl, inr, lit<}
use Rattle.std.specs.Int.{byte_at, bytes_high_first}
use Rattle.std.specs.List.{All, list_all}
use Rattle.std.proofs.lemmas.Bool.{and_parts, cases_lt, ltb-true}
use Rattle.std.proofs.lemmas.List.{get_or_past}
use Rattle.std.proofs.lemmas.List.Elements.{All-append, All-cons, All-drop, All-from_get_or, All-get_or, All-nil, All-replicate, All-take}
use Rattle.hex.specs.Hex.{IsBytes}

abbrev pub AreBytes : List ℕ → Type 0
AreBytes text = All (λ b. b < 256) text

pub AreBytes-from : (text : List ℕ) → IsBytes text → AreBytes text
AreBytes-from text are = All-from_get_or (λ b. b < 256) text 0 (λ i _. are i)

pub IsBytes-from : (text : List ℕ) → AreBytes text → IsBytes text
IsBytes-from text are i = elim (cases_lt i (length text)) [
  | inl within ↦ All-get_or (λ b. b < 256) text i 0 within are
  | inr past ↦ rw (get_or_past text i 0 past) (lit< tt)
]

-- bytes that are written out
pub AreBytes-said : (text : List ℕ) → list_all (λ b. nat_lt b 256) text ≡ true → AreBytes text
AreBytes-said [] said = All-nil (λ b. b < 256)
AreBytes-said (b ∷ bs) said =
    let (first, rest) = and_parts _ _ said in
    All-cons (λ b. b < 256) b bs (ltb-true b 256 first) (AreBytes-said bs rest)

pub AreBytes-cons : (b : ℕ) (bs : List ℕ) → b < 256 → AreBytes bs → AreBytes (b ∷ bs)
AreBytes-cons b bs small are = All-cons (λ b. b < 256) b bs small are

pub AreBytes-append : (front behind : List ℕ) → AreBytes front → AreBytes behind → AreBytes (front ++ behind)
AreBytes-append front behind are too = All-append (λ b. b < 256) front behind are too

pub AreBytes-take : (n : ℕ) (text : List ℕ) → AreBytes text → AreBytes (take n text)
AreBytes-take n text are = All-take (λ b. b < 256) n text are

pub AreBytes-drop : (n : ℕ) (text : List ℕ) → AreBytes text → AreBytes (drop n text)
AreBytes-drop n text are = All-drop (λ b. b < 256) n text are

pub AreBytes-zeros : (n : ℕ) → AreBytes (replicate n 0)
AreBytes-zeros n = All-replicate (λ b. b < 256) n 0 (lit< tt)

-- ---- numbers

pub byte_at-small : (i n : ℕ) → byte_at i n ≤ 255
byte_at-small zero n = omega arith
byte_at-small (suc i) n = omega arith

pub AreBytes-number : (k n : ℕ) → AreBytes (bytes_high_first k n)
AreBytes-number zero n = All-nil (λ b. b < 256)
AreBytes-number (suc k) n = AreBytes-cons (byte_at k n) (bytes_high_first k n) (omega (arith, byte_at-small k n)) (AreBytes-number k n)
