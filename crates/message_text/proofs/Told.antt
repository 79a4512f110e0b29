-- The fields of a header are told by the text of its rows, whatever follows.
use Rattle.std.proofs.Common.{◌≡◌, ◌∙◌, ℕ, zero, suc, ◌+◌, ◌<◌, ◌^◌, Bool, true, false, ◌&&◌, not, nat_le, nat_eq, ◌==◌, bytes_eq, List, [], ◌∷◌, ◌++◌, length, take, drop, refl, sym, ap, arith, lit<, append_assoc, get_or-drop}
use Rattle.std.specs.Prelude.{if◌then◌else◌, unwrap_or, Option, Some, None, ⊤}
use Rattle.std.specs.Int.{w32, to_be_bytes, from_be_bytes}
use Rattle.std.specs.Fmt.{digits}
use Rattle.std.specs.List.{list_all}
use Rattle.std.specs.Str.Parse.{digits_value}
use Rattle.std.proofs.lemmas.Bool.{and_parts, leb-true, eqb-true}
use Rattle.std.proofs.lemmas.Slice.Eq.{bytes_eq-Decides}
use Rattle.std.proofs.lemmas.List.{append_cancel_left, take-append-le}
use Rattle.std.proofs.lemmas.Nat.{from_be_bytes-to_be_bytes_4}
use Rattle.hex.specs.Hex.{IsBytes, encode_lower, lower_digits}
use Rattle.hex.proofs.HexLemmas.{length-encode_with}
use Rattle.route_msgs.specs.Layout.{number_at}
use Rattle.sock_addrs.proofs.Below.{passes_below, passes_at}
use Rattle.message_text.specs.Names.{Named, kind_text, kinds}
use Rattle.message_text.specs.Rows.{Bits, Decimal, Kind, Row, Style, number_text, row_text, rows_text}
use Rattle.message_text.proofs.Numbers.{decimal_told, hex_told, is_digit}
use Rattle.message_text.proofs.Parting.{differs, parted, parted_even, same_tail}

-- ---- numbers in bytes

pub bytes_behind : (o : ℕ) (m : List ℕ) → IsBytes m → IsBytes (drop o m)
bytes_behind o m are i = rw get_or-drop (are (o + i))

pub number_small : (o w : ℕ) (m : List ℕ) → IsBytes m → nat_le w 4 ≡ true → number_at o w m < 2 ^ 32
unfolding number_at
number_small o zero m are few = lit< tt
number_small o (suc zero) m are few = omega (arith, bytes_behind o m are 0)
number_small o (suc (suc zero)) m are few = omega (arith, bytes_behind o m are 0, bytes_behind o m are 1)
number_small o (suc (suc (suc zero))) m are few =
    omega (arith, bytes_behind o m are 0, bytes_behind o m are 1, bytes_behind o m are 2)
number_small o (suc (suc (suc (suc zero)))) m are few =
    omega (arith, bytes_behind o m are 0, bytes_behind o m are 1, bytes_behind o m are 2, bytes_behind o m are 3)
number_small o (suc (suc (suc (suc (suc w))))) m are few = absurd (omega (arith, leb-true _ _ few))

pub byte_small : (o : ℕ) (m : List ℕ) → IsBytes m → number_at o 1 m < 256
unfolding number_at
byte_small o m are = omega (arith, bytes_behind o m are 0)

-- ---- types

is_no_colon : ℕ → Bool
is_no_colon b = not (nat_eq b 58)

number_among : List Named → List ℕ → Option ℕ
number_among [] t = None
number_among (x ∷ xs) t = if bytes_eq t x.name then Some x.number else number_among xs t

-- the type that a text names
kind_named : List ℕ → ℕ
kind_named t = unwrap_or (number_among kinds t) (digits_value 10 t)

kinds_have_no_colon : passes_below 256 (λ n. list_all is_no_colon (kind_text n)) ≡ true
unfolding passes_below digits is_no_colon
kinds_have_no_colon = refl

kinds_are_named : passes_below 256 (λ n. kind_named (kind_text n) == n) ≡ true
unfolding passes_below digits kind_named number_among
kinds_are_named = refl

pub kind_told : (n k : ℕ) (x y : List ℕ) → n < 256 → k < 256
    → kind_text n ++ 58 ∷ x ≡ kind_text k ++ 58 ∷ y → (n ≡ k) × (x ≡ y)
unfolding is_no_colon
kind_told n k x y a b e =
    let parts = parted is_no_colon (kind_text n) (kind_text k) (58 ∷ x) (58 ∷ y)
    (passes_at 256 (λ i. list_all is_no_colon (kind_text i)) n kinds_have_no_colon a)
    (passes_at 256 (λ i. list_all is_no_colon (kind_text i)) k kinds_have_no_colon b) refl refl e in
    let one = eqb-true _ _ (passes_at 256 (λ i. kind_named (kind_text i) == i) n kinds_are_named a) in
    let two = eqb-true _ _ (passes_at 256 (λ i. kind_named (kind_text i) == i) k kinds_are_named b) in
    (sym one ∙ ap kind_named parts.0 ∙ two, same_tail 58 58 x y parts.1)

-- ---- bits

pub four_bytes : (n : ℕ) → IsBytes (to_be_bytes w32 n)
four_bytes n zero = omega arith
four_bytes n (suc zero) = omega arith
four_bytes n (suc (suc zero)) = omega arith
four_bytes n (suc (suc (suc zero))) = omega arith
four_bytes n (suc (suc (suc (suc i)))) = lit< tt

bits_told : (n k : ℕ) (x y : List ℕ) → n < 2 ^ 32 → k < 2 ^ 32
    → encode_lower (to_be_bytes w32 n) ++ x ≡ encode_lower (to_be_bytes w32 k) ++ y → (n ≡ k) × (x ≡ y)
bits_told n k x y a b e =
    let even = length-encode_with lower_digits (to_be_bytes w32 n) ∙ sym (length-encode_with lower_digits (to_be_bytes w32 k)) in
    let parts = parted_even (encode_lower (to_be_bytes w32 n)) (encode_lower (to_be_bytes w32 k)) x y even e in
    let same = hex_told (to_be_bytes w32 n) (to_be_bytes w32 k) (four_bytes n) (four_bytes k) parts.0 in
    (sym (from_be_bytes-to_be_bytes_4 n a) ∙ ap (from_be_bytes w32) same ∙ from_be_bytes-to_be_bytes_4 k b, parts.1)

-- ---- one row

-- the byte behind a number is none that a number of this style has, and a type has one byte
unfoldable pub style_ends : Style → ℕ → ℕ → Bool
style_ends Kind width stop = nat_eq width 1 && nat_eq stop 58
style_ends Decimal width stop = not (is_digit stop)
style_ends Bits width stop = true

pub same_stop : (s t : ℕ) → nat_eq s t ≡ true → s ≡ t
same_stop s t e = eqb-true s t e

number_told : (s : Style) (o w stop : ℕ) (m n x y : List ℕ) → IsBytes m → IsBytes n
    → nat_le w 4 ≡ true → style_ends s w stop ≡ true
    → number_text s (number_at o w m) ++ stop ∷ x ≡ number_text s (number_at o w n) ++ stop ∷ y
    → (number_at o w m ≡ number_at o w n) × (x ≡ y)
unfolding style_ends
number_told Kind o w stop m n x y a b few ends e =
    let one : w ≡ 1 = same_stop w 1 (and_parts _ _ ends).0 in
    let colon : stop ≡ 58 = same_stop stop 58 (and_parts _ _ ends).1 in
    let small : number_at o w m < 256 = rw one (byte_small o m a) in
    let small_too : number_at o w n < 256 = rw one (byte_small o n b) in
    kind_told (number_at o w m) (number_at o w n) x y small small_too (rw colon at e)
number_told Decimal o w stop m n x y a b few ends e =
    let parts = decimal_told (number_at o w m) (number_at o w n) (stop ∷ x) (stop ∷ y)
    (number_small o w m a few) (number_small o w n b few) ends ends e in
    (parts.0, same_tail stop stop x y parts.1)
number_told Bits o w stop m n x y a b few ends e =
    let parts = bits_told (number_at o w m) (number_at o w n) (stop ∷ x) (stop ∷ y)
    (number_small o w m a few) (number_small o w n b few) e in
    (parts.0, same_tail stop stop x y parts.1)

-- a row that is printed
word : Row → ℕ → List ℕ
word r n = r.name ++ number_text r.style n ++ r.stop ∷ r.note n

nested : (a b : List ℕ) (s : ℕ) (c x : List ℕ) → ((a ++ b) ++ s ∷ c) ++ x ≡ a ++ (b ++ s ∷ (c ++ x))
nested a b s c x = append_assoc (a ++ b) (s ∷ c) x ∙ append_assoc a b (s ∷ (c ++ x))

unfoldable pub row_ends : Row → Bool
row_ends r = nat_le r.width 4 && style_ends r.style r.width r.stop

word_told : (r : Row) (m n x y : List ℕ) → IsBytes m → IsBytes n → row_ends r ≡ true
    → word r (number_at r.offset r.width m) ++ x ≡ word r (number_at r.offset r.width n) ++ y
    → (number_at r.offset r.width m ≡ number_at r.offset r.width n) × (x ≡ y)
unfolding word row_ends
word_told r m n x y a b ends e =
    let i = number_at r.offset r.width m in
    let k = number_at r.offset r.width n in
    let inner = append_cancel_left r.name _ _
    (sym (nested r.name (number_text r.style i) r.stop (r.note i) x) ∙ e ∙ nested r.name (number_text r.style k) r.stop (r.note k) y) in
    let told = number_told r.style r.offset r.width r.stop m n (r.note i ++ x) (r.note k ++ y) a b
    (and_parts _ _ ends).0 (and_parts _ _ ends).1 inner in
    (told.0, append_cancel_left (r.note i) x y (told.1 ∙ ap (λ (j : ℕ). r.note j ++ y) (sym told.0)))

-- ---- all rows

-- a row may be missing before these only if its name begins as none of theirs does, up to one that always stands
unfoldable pub starts_apart : List ℕ → List Row → Bool
starts_apart name [] = false
starts_apart name (r ∷ rs) =
    nat_le 5 (length r.name) && not (bytes_eq (take 5 r.name) (take 5 name))
    && (if r.is_optional then starts_apart name rs else true)

unfoldable pub rows_end : List Row → Bool
rows_end [] = true
rows_end (r ∷ rs) =
    row_ends r && (if r.is_optional then nat_le 5 (length r.name) && starts_apart r.name rs else true) && rows_end rs

-- two messages have one number in each of these fields
abbrev pub AreSame : List Row → List ℕ → List ℕ → Type 0
AreSame [] m n = ⊤
AreSame (r ∷ rs) m n = (number_at r.offset r.width m ≡ number_at r.offset r.width n) × AreSame rs m n

-- a name stands at the front of its row
name_first : (r : Row) (n : ℕ) (x : List ℕ) → nat_le 5 (length r.name) ≡ true → take 5 (word r n ++ x) ≡ take 5 r.name
unfolding word
name_first r n x long =
    ap (take 5) (nested r.name (number_text r.style n) r.stop (r.note n) x)
    ∙ take-append-le 5 r.name (number_text r.style n ++ r.stop ∷ (r.note n ++ x)) (leb-true 5 (length r.name) long)

apart_by : (absent optional later : Bool) (r : Row) (n : ℕ) (name rest t : List ℕ) → (absent ≡ true → optional ≡ true)
    → nat_le 5 (length r.name) ≡ true → not (bytes_eq (take 5 r.name) (take 5 name)) ≡ true
    → (if optional then later else true) ≡ true
    → (later ≡ true → bytes_eq (take 5 (rest ++ t)) (take 5 name) ≡ true → ⊥)
    → bytes_eq (take 5 (((if absent then [] else word r n) ++ rest) ++ t)) (take 5 name) ≡ true → ⊥
apart_by true true later r n name rest t is long unlike h next same = next h same
apart_by true false later r n name rest t is long unlike h next same = let no : false ≡ true = is refl in cc
apart_by false optional later r n name rest t is long unlike h next same =
    let front : take 5 ((word r n ++ rest) ++ t) ≡ take 5 r.name =
    ap (λ (l : List ℕ). take 5 l) (append_assoc (word r n) rest t) ∙ name_first r n (rest ++ t) long in
    differs (bytes_eq (take 5 r.name) (take 5 name)) (ap (λ (l : List ℕ). bytes_eq l (take 5 name)) (sym front) ∙ same) unlike

-- what stands behind a row that is missing doesn't begin as that row would
apart : (name : List ℕ) (rs : List Row) (m t : List ℕ) → starts_apart name rs ≡ true
    → bytes_eq (take 5 (rows_text rs m ++ t)) (take 5 name) ≡ true → ⊥
unfolding starts_apart rows_text word
apart name [] m t far same = let no : false ≡ true = far in cc
apart name (r ∷ rs) m t far same =
    let first = and_parts _ _ far in
    let front = and_parts _ _ first.0 in
    apart_by (r.is_optional && number_at r.offset r.width m == 0) r.is_optional (starts_apart name rs)
    r (number_at r.offset r.width m) name (rows_text rs m) t (λ h. (and_parts _ _ h).0) front.0 front.1 first.1
    (λ later. apart name rs m t later) same

-- a row that may be missing is told
row_told : (a b : Bool) (r : Row) (m n x y : List ℕ) → IsBytes m → IsBytes n → row_ends r ≡ true
    → (a ≡ true → number_at r.offset r.width m ≡ 0) → (b ≡ true → number_at r.offset r.width n ≡ 0)
    → (a ≡ true → bytes_eq (take 5 x) (take 5 r.name) ≡ true → ⊥)
    → (b ≡ true → bytes_eq (take 5 y) (take 5 r.name) ≡ true → ⊥)
    → (a ≡ true → nat_le 5 (length r.name) ≡ true) → (b ≡ true → nat_le 5 (length r.name) ≡ true)
    → (if a then [] else word r (number_at r.offset r.width m)) ++ x
    ≡ (if b then [] else word r (number_at r.offset r.width n)) ++ y
    → (number_at r.offset r.width m ≡ number_at r.offset r.width n) × (x ≡ y)
row_told true true r m n x y p q ends i k far far_too long long_too e = (i refl ∙ sym (k refl), e)
row_told true false r m n x y p q ends i k far far_too long long_too e =
    let same : take 5 x ≡ take 5 r.name =
    ap (λ (l : List ℕ). take 5 l) e ∙ name_first r (number_at r.offset r.width n) y (long refl) in
    absurd (far refl ((bytes_eq-Decides (take 5 x) (take 5 r.name)).1 same))
row_told false true r m n x y p q ends i k far far_too long long_too e =
    let same : take 5 y ≡ take 5 r.name =
    ap (λ (l : List ℕ). take 5 l) (sym e) ∙ name_first r (number_at r.offset r.width m) x (long_too refl) in
    absurd (far_too refl ((bytes_eq-Decides (take 5 y) (take 5 r.name)).1 same))
row_told false false r m n x y p q ends i k far far_too long long_too e = word_told r m n x y p q ends e

optional_said : (o : Bool) (long far : Bool) → (if o then long && far else true) ≡ true → o ≡ true → (long ≡ true) × (far ≡ true)
optional_said true long far h o = and_parts long far h
optional_said false long far h o = cc

-- the rows of a table are told
pub rows_told : (rs : List Row) (m n t u : List ℕ) → IsBytes m → IsBytes n → rows_end rs ≡ true
    → rows_text rs m ++ t ≡ rows_text rs n ++ u → AreSame rs m n × (t ≡ u)
unfolding rows_text rows_end word
rows_told [] m n t u p q ends e = (tt, e)
rows_told (r ∷ rs) m n t u p q ends e =
    let i = number_at r.offset r.width m in
    let k = number_at r.offset r.width n in
    let parts = and_parts _ _ ends in
    let front = and_parts _ _ parts.0 in
    let said = optional_said r.is_optional (nat_le 5 (length r.name)) (starts_apart r.name rs) front.1 in
    let absent_m : (r.is_optional && i == 0) ≡ true → r.is_optional ≡ true = λ h. (and_parts _ _ h).0 in
    let absent_n : (r.is_optional && k == 0) ≡ true → r.is_optional ≡ true = λ h. (and_parts _ _ h).0 in
    let told = row_told (r.is_optional && i == 0) (r.is_optional && k == 0) r m n (rows_text rs m ++ t) (rows_text rs n ++ u)
    p q front.0 (λ h. eqb-true _ _ (and_parts _ _ h).1) (λ h. eqb-true _ _ (and_parts _ _ h).1)
    (λ h same. apart r.name rs m t (said (absent_m h)).1 same) (λ h same. apart r.name rs n u (said (absent_n h)).1 same)
    (λ h. (said (absent_m h)).0) (λ h. (said (absent_n h)).0)
    (sym (append_assoc (row_text r i) (rows_text rs m) t) ∙ e ∙ append_assoc (row_text r k) (rows_text rs n) u) in
    let later = rows_told rs m n t u p q parts.1 told.1 in
    ((told.0, later.0), later.1)
