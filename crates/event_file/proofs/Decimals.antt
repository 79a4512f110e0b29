-- A word is read as a decimal where some number prints as it.
use Rattle.std.proofs.Common.{◌≡◌, ◌<◌, ◌≤◌, ◌^◌, ◌*◌, ◌+◌, ◌/◌, ◌%◌, ◌∙◌, ◌++◌, ◌∷◌, [], ℕ, zero, suc, Bool, true, cond, ◌&&◌, List, length, get_or, ap, sym, subst, arith, nat_le, bytes_eq, decimal, pow-suc, Option, Some, None}
use Rattle.std.specs.Char.{digit_value}
use Rattle.std.specs.Str.Parse.{AllDigits, digits_value}
use Rattle.std.proofs.lemmas.Fmt.{decimal-digits_value, decimal_digit, decimal_is_IsNumeral, decimal_step, decimal_nonempty, first_decimal, length-decimal-le, length-decimal-le_succ}
use Rattle.std.proofs.lemmas.Slice.Eq.{bytes_eq-Decides}
use Rattle.std.proofs.lemmas.Str.{digit_value_digit}
use Rattle.std.proofs.lemmas.Str.Parse.{numerals_by_value, tells_digits}
use Rattle.event_file.specs.Words.{number_to}

-- ---- the words that numbers print as

-- they have digits alone, at least one and at most ten, and the first of several isn't 0
pub printed_digits : (n : ℕ) (word : List ℕ) → n < 2 ^ 32 → word ≡ decimal n → AllDigits 10 word
printed_digits n word small e = subst (AllDigits 10) (sym e) (decimal_is_IsNumeral n (omega arith)).0.1

pub printed_some : (n : ℕ) (word : List ℕ) → n < 2 ^ 32 → word ≡ decimal n → 0 < length word
printed_some n word small e = omega (arith, ap length e, decimal_nonempty n (omega arith))

pub printed_short : (n : ℕ) (word : List ℕ) → n < 2 ^ 32 → word ≡ decimal n → length word ≤ 10
printed_short n word small e = omega (arith, ap length e, length-decimal-le 10 n (omega arith) (omega arith) (omega arith))

pub printed_lead : (n : ℕ) (word : List ℕ) → n < 2 ^ 32 → word ≡ decimal n → get_or word 0 0 ≡ 48 → length word ≤ 1
printed_lead zero word small e lead = omega (arith, ap length e, length-decimal-le_succ 0 (omega arith))
printed_lead (suc m) word small e lead =
    let first : 48 < get_or (decimal (suc m)) 0 0 = first_decimal (suc m) (omega arith) (omega arith) in
    absurd (omega (arith, lead, ap (λ w. get_or w 0 0) e, first))

-- such digits are what their number prints as
pub digits_printed : (word : List ℕ) → AllDigits 10 word → 0 < length word → (get_or word 0 0 ≡ 48 → length word ≡ 1) → digits_value 10 word < 2 ^ 64 → word ≡ decimal (digits_value 10 word)
digits_printed word digits some lead small = sym (decimal-digits_value (numerals_by_value _ tells_digits) word digits some lead small)

-- they write that number
pub printed_value : (n : ℕ) (word : List ℕ) → n < 2 ^ 32 → word ≡ decimal n → digits_value 10 word ≡ n
printed_value n word small e = ap (λ (w : List ℕ). digits_value 10 w) e ∙ (decimal_is_IsNumeral n (omega arith)).1

-- ---- the digits of a byte

pub two_digits : (n : ℕ) → 10 ≤ n → n < 100 → decimal n ≡ (48 + n / 10) ∷ (48 + n % 10) ∷ []
two_digits n least most = decimal_step n least (omega arith)
    ∙ ap (λ (text : List ℕ). text ++ (48 + n % 10) ∷ []) (decimal_digit (n / 10) (omega arith))

pub three_digits : (n : ℕ) → 100 ≤ n → n < 256 → decimal n ≡ (48 + n / 100) ∷ (48 + n / 10 % 10) ∷ (48 + n % 10) ∷ []
three_digits n least most = decimal_step n (omega arith) (omega arith)
    ∙ ap (λ (text : List ℕ). text ++ (48 + n % 10) ∷ []) (two_digits (n / 10) (omega arith) (omega arith))
    ∙ ap (λ (hundreds : ℕ). (48 + hundreds) ∷ (48 + n / 10 % 10) ∷ (48 + n % 10) ∷ []) (omega arith)

-- ---- digits, one after another

-- the byte that stands so far behind `0` is the digit
pub digit_is : (byte : ℕ) → byte < 256 → (byte + 208) % 256 ≤ 9 → digit_value byte ≡ (byte + 208) % 256
digit_is byte fits small = omega (arith, digit_value_digit byte (omega (arith, small)))

pub one_more_digit : (number digit at : ℕ) → number < 10 ^ at → digit ≤ 9 → 10 * number + digit < 10 ^ (at + 1)
one_more_digit number digit at small few =
    let next : 10 ^ (at + 1) ≡ 10 ^ at * 10 = ap (λ (k : ℕ). 10 ^ k) (omega arith) ∙ pow-suc 10 at in omega (arith, next)

-- ---- a number up to a bound

-- the number n, where it is at most so many and the test of its text passes
abbrev chosen : ℕ → ℕ → Bool → ℕ → Option ℕ
chosen most len same n = cond (nat_le len 10 && nat_le n most && same) (Some n) None

passes : (most len n : ℕ) (same : Bool) → len ≤ 10 → n ≤ most → same ≡ true → chosen most len same n ≡ Some n
passes most len n same short small h = grind arith

stays : (most len n : ℕ) (same : Bool) → (n ≤ most → same ≡ true → ⊥) → chosen most len same n ≡ None
stays most len n same h = grind arith

read_as : (most n : ℕ) (word : List ℕ) → n < 2 ^ 32 → word ≡ decimal n → number_to most word ≡ chosen most (length word) (bytes_eq word (decimal n)) n
read_as most n word small e =
    ap (λ (k : ℕ). chosen most (length word) (bytes_eq word (decimal k)) k) (printed_value n word small e)

-- a number up to the bound is read from what it prints as
pub printed_read : (most n : ℕ) (word : List ℕ) → most < 2 ^ 32 → n ≤ most → word ≡ decimal n → number_to most word ≡ Some n
printed_read most n word room small e =
    read_as most n word (omega arith) e ∙ passes most (length word) n _ (printed_short n word (omega arith) e) small ((bytes_eq-Decides word (decimal n)).1 e)

-- a number past the bound is not
pub larger_refused : (most n : ℕ) (word : List ℕ) → n < 2 ^ 32 → most < n → word ≡ decimal n → number_to most word ≡ None
larger_refused most n word small large e = read_as most n word small e ∙ stays most (length word) n _ (λ fits _. omega (arith, large, fits))

-- a word that no number up to the bound prints as is none
pub no_number : (most : ℕ) (word : List ℕ) → ((n : ℕ) → n ≤ most → word ≡ decimal n → ⊥) → number_to most word ≡ None
no_number most word h =
    let n = digits_value 10 word in stays most (length word) n (bytes_eq word (decimal n)) (λ fits same. h n fits ((bytes_eq-Decides word (decimal n)).0 same))

-- digits of a number up to the bound, without leading zeros
pub digits_are : (most : ℕ) (word : List ℕ) → most < 2 ^ 32 → AllDigits 10 word → 0 < length word → (get_or word 0 0 ≡ 48 → length word ≡ 1)
    → digits_value 10 word ≤ most → number_to most word ≡ Some (digits_value 10 word)
digits_are most word room digits some lead small =
    printed_read most (digits_value 10 word) word room small (digits_printed word digits some lead (omega (arith, room, small)))

-- a byte prints as at most three digits
pub printed_byte : (n : ℕ) (word : List ℕ) → n ≤ 255 → word ≡ decimal n → length word ≤ 3
printed_byte n word small e = omega (arith, ap length e, length-decimal-le 3 n (omega arith) (omega (arith, small)) (omega (arith, small)))

chosen_is : (most len n m : ℕ) (same : Bool) → chosen most len same n ≡ Some m → (m ≤ most) × (m ≡ n) × (same ≡ true)
chosen_is most len n m same h = grind arith

-- a word that is a number is what that prints as
pub is_printed : (most n : ℕ) (word : List ℕ) → number_to most word ≡ Some n → (n ≤ most) × (word ≡ decimal n)
is_printed most n word read =
    let is = chosen_is most (length word) (digits_value 10 word) n (bytes_eq word (decimal (digits_value 10 word))) read in
    (is.0, (bytes_eq-Decides word (decimal (digits_value 10 word))).0 is.2 ∙ ap decimal (sym is.1))
