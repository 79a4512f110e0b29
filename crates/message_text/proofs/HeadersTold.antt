-- The bytes of a header are told by its fields.
use Rattle.std.proofs.Common.{◌≡◌, ◌∙◌, ℕ, zero, suc, ◌+◌, ◌<◌, ◌≤◌, true, List, ◌++◌, length, get_or, take, drop, refl, sym, ap, arith, get_or-take, length-drop, length-take-le}
use Rattle.std.specs.Prelude.{slice_index}
use Rattle.std.proofs.Math.Seq.{take-add}
use Rattle.std.proofs.lemmas.List.{get_or_default, same_lists}
use Rattle.hex.specs.Hex.{IsBytes}
use Rattle.route_msgs.specs.Layout.{number_at}
use Rattle.message_text.specs.Rows.{rows_text}
use Rattle.message_text.specs.Tables.{ifa_field_rows, ifa_first_rows, ifa_rows, path_rows, route_addrs_rows, route_field_rows, route_first_rows, route_rows, time_rows}
use Rattle.message_text.proofs.Told.{AreSame, bytes_behind, row_ends, rows_end, rows_told, starts_apart, style_ends}

-- the bytes of a number of one, two or four bytes
pub one_told : (o : ℕ) (m n : List ℕ) → number_at o 1 m ≡ number_at o 1 n → slice_index (drop o m) 0 ≡ slice_index (drop o n) 0
unfolding number_at
one_told o m n e = omega (arith, e)

two_told : (o : ℕ) (m n : List ℕ) → IsBytes m → IsBytes n → number_at o 2 m ≡ number_at o 2 n
    → (slice_index (drop o m) 0 ≡ slice_index (drop o n) 0) × (slice_index (drop o m) 1 ≡ slice_index (drop o n) 1)
unfolding number_at
two_told o m n p q e =
    let a0 = bytes_behind o m p 0 in let a1 = bytes_behind o m p 1 in
    let b0 = bytes_behind o n q 0 in let b1 = bytes_behind o n q 1 in
    (omega (arith, e, a0, a1, b0, b1), omega (arith, e, a0, a1, b0, b1))

four_told : (o : ℕ) (m n : List ℕ) → IsBytes m → IsBytes n → number_at o 4 m ≡ number_at o 4 n
    → (slice_index (drop o m) 0 ≡ slice_index (drop o n) 0) × (slice_index (drop o m) 1 ≡ slice_index (drop o n) 1)
    × (slice_index (drop o m) 2 ≡ slice_index (drop o n) 2) × (slice_index (drop o m) 3 ≡ slice_index (drop o n) 3)
unfolding number_at
four_told o m n p q e =
    let a0 = bytes_behind o m p 0 in let a1 = bytes_behind o m p 1 in
    let a2 = bytes_behind o m p 2 in let a3 = bytes_behind o m p 3 in
    let b0 = bytes_behind o n q 0 in let b1 = bytes_behind o n q 1 in
    let b2 = bytes_behind o n q 2 in let b3 = bytes_behind o n q 3 in (
      omega (arith, e, a0, a1, a2, a3, b0, b1, b2, b3),
      omega (arith, e, a0, a1, a2, a3, b0, b1, b2, b3),
      omega (arith, e, a0, a1, a2, a3, b0, b1, b2, b3),
      omega (arith, e, a0, a1, a2, a3, b0, b1, b2, b3),
    )

abbrev Same : ℕ → List ℕ → List ℕ → ℕ → Type 0
Same o m n j = slice_index (drop o m) j ≡ slice_index (drop o n) j

at_one : (o : ℕ) (m n : List ℕ) → Same o m n 0 → (j : ℕ) → j < 1 → Same o m n j
at_one o m n h zero few = h
at_one o m n h (suc j) few = absurd (omega arith)

at_two : (o : ℕ) (m n : List ℕ) → Same o m n 0 × Same o m n 1 → (j : ℕ) → j < 2 → Same o m n j
at_two o m n h zero few = h.0
at_two o m n h (suc zero) few = h.1
at_two o m n h (suc (suc j)) few = absurd (omega arith)

at_four : (o : ℕ) (m n : List ℕ) → Same o m n 0 × Same o m n 1 × Same o m n 2 × Same o m n 3 → (j : ℕ) → j < 4 → Same o m n j
at_four o m n h zero few = h.0
at_four o m n h (suc zero) few = h.1
at_four o m n h (suc (suc zero)) few = h.2
at_four o m n h (suc (suc (suc zero))) few = h.3
at_four o m n h (suc (suc (suc (suc j)))) few = absurd (omega arith)

any_default : (w : ℕ) (xs ys : List ℕ) (k d : ℕ) → k < w → w ≤ length xs → w ≤ length ys → slice_index xs k ≡ slice_index ys k
    → get_or (take w xs) k d ≡ get_or (take w ys) k d
any_default w xs ys k d few room room_too same =
    let here : k < length xs = omega arith in
    let there : k < length ys = omega arith in
    get_or-take w xs k d few ∙ get_or_default xs k d 0 here ∙ same ∙ sym (get_or_default ys k d 0 there) ∙ sym (get_or-take w ys k d few)

-- one field more
more : (o w : ℕ) (m n : List ℕ) → o + w ≤ length m → o + w ≤ length n → take o m ≡ take o n
    → ((j : ℕ) → j < w → slice_index (drop o m) j ≡ slice_index (drop o n) j) → take (o + w) m ≡ take (o + w) n
more o w m n fits fits_too before same =
    let room : w ≤ length (drop o m) = omega (arith, length-drop o m) in
    let room_too : w ≤ length (drop o n) = omega (arith, length-drop o n) in
    let len : length (take w (drop o m)) ≡ w = length-take-le w (drop o m) room in
    let len_too : length (take w (drop o n)) ≡ w = length-take-le w (drop o n) room_too in
    let field : take w (drop o m) ≡ take w (drop o n) = same_lists (take w (drop o m)) (take w (drop o n)) (len ∙ sym len_too)
    (λ k d within.
    let k_small : k < w = omega (arith, within, len) in
    any_default w (drop o m) (drop o n) k d k_small room room_too (same k k_small)) in
    take-add o w m ∙ ap (λ (l : List ℕ). l ++ take w (drop o m)) before ∙ ap (λ (l : List ℕ). take o n ++ l) field ∙ sym (take-add o w n)

pub more_one : (o : ℕ) (m n : List ℕ) → o + 1 ≤ length m → o + 1 ≤ length n → take o m ≡ take o n
    → number_at o 1 m ≡ number_at o 1 n → take (o + 1) m ≡ take (o + 1) n
more_one o m n fits fits_too before e = more o 1 m n fits fits_too before (λ j few. at_one o m n (one_told o m n e) j few)

pub more_two : (o : ℕ) (m n : List ℕ) → IsBytes m → IsBytes n → o + 2 ≤ length m → o + 2 ≤ length n → take o m ≡ take o n
    → number_at o 2 m ≡ number_at o 2 n → take (o + 2) m ≡ take (o + 2) n
more_two o m n p q fits fits_too before e = more o 2 m n fits fits_too before (λ j few. at_two o m n (two_told o m n p q e) j few)

pub more_four : (o : ℕ) (m n : List ℕ) → IsBytes m → IsBytes n → o + 4 ≤ length m → o + 4 ≤ length n → take o m ≡ take o n
    → number_at o 4 m ≡ number_at o 4 n → take (o + 4) m ≡ take (o + 4) n
more_four o m n p q fits fits_too before e = more o 4 m n fits fits_too before (λ j few. at_four o m n (four_told o m n p q e) j few)

-- ---- the two headers

pub route_told : (m n : List ℕ) → IsBytes m → IsBytes n → 76 ≤ length m → 76 ≤ length n → AreSame route_rows m n → take 76 m ≡ take 76 n
unfolding route_rows route_first_rows route_field_rows path_rows time_rows route_addrs_rows
route_told m n p q long long_too same =
    let to_2 : take 2 m ≡ take 2 n = more_two 0 m n p q (omega arith) (omega arith) refl same.1.0 in
    let to_3 : take 3 m ≡ take 3 n = more_one 2 m n (omega arith) (omega arith) to_2 same.1.1.0 in
    let to_4 : take 4 m ≡ take 4 n = more_one 3 m n (omega arith) (omega arith) to_3 same.0 in
    let to_6 : take 6 m ≡ take 6 n = more_two 4 m n p q (omega arith) (omega arith) to_4 same.1.1.1.1.1.0 in
    let to_8 : take 8 m ≡ take 8 n = more_two 6 m n p q (omega arith) (omega arith) to_6 same.1.1.1.1.1.1.1.1.1.0 in
    let to_12 : take 12 m ≡ take 12 n = more_four 8 m n p q (omega arith) (omega arith) to_8 same.1.1.1.1.1.1.0 in
    let to_16 : take 16 m ≡ take 16 n = more_four 12 m n p q (omega arith) (omega arith) to_12 same.1.1.1.1.1.1.1.1.1.1.1.1.1.1.1.1.1.1.1.1.1.0 in
    let to_20 : take 20 m ≡ take 20 n = more_four 16 m n p q (omega arith) (omega arith) to_16 same.1.1.1.0 in
    let to_24 : take 24 m ≡ take 24 n = more_four 20 m n p q (omega arith) (omega arith) to_20 same.1.1.1.1.0 in
    let to_28 : take 28 m ≡ take 28 n = more_four 24 m n p q (omega arith) (omega arith) to_24 same.1.1.1.1.1.1.1.0 in
    let to_32 : take 32 m ≡ take 32 n = more_four 28 m n p q (omega arith) (omega arith) to_28 same.1.1.1.1.1.1.1.1.0 in
    let to_36 : take 36 m ≡ take 36 n = more_four 32 m n p q (omega arith) (omega arith) to_32 same.1.1.1.1.1.1.1.1.1.1.0 in
    let to_40 : take 40 m ≡ take 40 n = more_four 36 m n p q (omega arith) (omega arith) to_36 same.1.1.1.1.1.1.1.1.1.1.1.0 in
    let to_44 : take 44 m ≡ take 44 n = more_four 40 m n p q (omega arith) (omega arith) to_40 same.1.1.1.1.1.1.1.1.1.1.1.1.0 in
    let to_48 : take 48 m ≡ take 48 n = more_four 44 m n p q (omega arith) (omega arith) to_44 same.1.1.1.1.1.1.1.1.1.1.1.1.1.0 in
    let to_52 : take 52 m ≡ take 52 n = more_four 48 m n p q (omega arith) (omega arith) to_48 same.1.1.1.1.1.1.1.1.1.1.1.1.1.1.0 in
    let to_56 : take 56 m ≡ take 56 n = more_four 52 m n p q (omega arith) (omega arith) to_52 same.1.1.1.1.1.1.1.1.1.1.1.1.1.1.1.0 in
    let to_60 : take 60 m ≡ take 60 n = more_four 56 m n p q (omega arith) (omega arith) to_56 same.1.1.1.1.1.1.1.1.1.1.1.1.1.1.1.1.0 in
    let to_64 : take 64 m ≡ take 64 n = more_four 60 m n p q (omega arith) (omega arith) to_60 same.1.1.1.1.1.1.1.1.1.1.1.1.1.1.1.1.1.0 in
    let to_68 : take 68 m ≡ take 68 n = more_four 64 m n p q (omega arith) (omega arith) to_64 same.1.1.1.1.1.1.1.1.1.1.1.1.1.1.1.1.1.1.0 in
    let to_72 : take 72 m ≡ take 72 n = more_four 68 m n p q (omega arith) (omega arith) to_68 same.1.1.1.1.1.1.1.1.1.1.1.1.1.1.1.1.1.1.1.0 in
    more_four 72 m n p q (omega arith) (omega arith) to_72 same.1.1.1.1.1.1.1.1.1.1.1.1.1.1.1.1.1.1.1.1.0

pub ifa_told : (m n : List ℕ) → IsBytes m → IsBytes n → 20 ≤ length m → 20 ≤ length n → AreSame ifa_rows m n → take 20 m ≡ take 20 n
unfolding ifa_rows ifa_first_rows ifa_field_rows
ifa_told m n p q long long_too same =
    let to_2 : take 2 m ≡ take 2 n = more_two 0 m n p q (omega arith) (omega arith) refl same.1.0 in
    let to_3 : take 3 m ≡ take 3 n = more_one 2 m n (omega arith) (omega arith) to_2 same.1.1.0 in
    let to_4 : take 4 m ≡ take 4 n = more_one 3 m n (omega arith) (omega arith) to_3 same.0 in
    let to_8 : take 8 m ≡ take 8 n = more_four 4 m n p q (omega arith) (omega arith) to_4 same.1.1.1.1.1.1.1.0 in
    let to_12 : take 12 m ≡ take 12 n = more_four 8 m n p q (omega arith) (omega arith) to_8 same.1.1.1.1.1.0 in
    let to_14 : take 14 m ≡ take 14 n = more_two 12 m n p q (omega arith) (omega arith) to_12 same.1.1.1.0 in
    let to_16 : take 16 m ≡ take 16 n = more_two 14 m n p q (omega arith) (omega arith) to_14 same.1.1.1.1.1.1.0 in
    more_four 16 m n p q (omega arith) (omega arith) to_16 same.1.1.1.1.0

pub route_rows_end : rows_end route_rows ≡ true
unfolding rows_end row_ends style_ends starts_apart route_rows route_first_rows route_field_rows path_rows time_rows route_addrs_rows
route_rows_end = refl

pub ifa_rows_end : rows_end ifa_rows ≡ true
unfolding rows_end row_ends style_ends starts_apart ifa_rows ifa_first_rows ifa_field_rows
ifa_rows_end = refl

-- the addresses that it names
route_addrs_told : (m n : List ℕ) → AreSame route_rows m n → number_at 12 4 m ≡ number_at 12 4 n
unfolding route_rows route_first_rows route_field_rows path_rows time_rows route_addrs_rows
route_addrs_told m n same = same.1.1.1.1.1.1.1.1.1.1.1.1.1.1.1.1.1.1.1.1.1.0

ifa_addrs_told : (m n : List ℕ) → AreSame ifa_rows m n → number_at 4 4 m ≡ number_at 4 4 n
unfolding ifa_rows ifa_first_rows ifa_field_rows
ifa_addrs_told m n same = same.1.1.1.1.1.1.1.0

-- a header is told by its rows, whatever follows
pub route_header_told : (m n t u : List ℕ) → IsBytes m → IsBytes n → 76 ≤ length m → 76 ≤ length n
    → rows_text route_rows m ++ t ≡ rows_text route_rows n ++ u
    → (take 76 m ≡ take 76 n) × (number_at 12 4 m ≡ number_at 12 4 n) × (t ≡ u)
route_header_told m n t u p q long long_too e =
    let told = rows_told route_rows m n t u p q route_rows_end e in
    (route_told m n p q long long_too told.0, route_addrs_told m n told.0, told.1)

pub ifa_header_told : (m n t u : List ℕ) → IsBytes m → IsBytes n → 20 ≤ length m → 20 ≤ length n
    → rows_text ifa_rows m ++ t ≡ rows_text ifa_rows n ++ u
    → (take 20 m ≡ take 20 n) × (number_at 4 4 m ≡ number_at 4 4 n) × (t ≡ u)
ifa_header_told m n t u p q long long_too e =
    let told = rows_told ifa_rows m n t u p q ifa_rows_end e in
    (ifa_told m n p q long long_too told.0, ifa_addrs_told m n told.0, told.1)
