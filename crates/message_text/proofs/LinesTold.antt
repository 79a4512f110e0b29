-- The bytes behind a header are told by the lines of their addresses.
use Rattle.std.proofs.Common.{◌≡◌, ◌∙◌, ℕ, ◌<◌, ◌≤◌, ◌^◌, Bool, true, false, ◌&&◌, not, ◌==◌, List, [], ◌∷◌, ◌++◌, length, drop, codes, decimal, refl, sym, ap, arith, append_assoc, take-append-drop}
use Rattle.std.specs.Prelude.{if◌then◌else◌, slice_index}
use Rattle.std.specs.List.{list_all}
use Rattle.std.proofs.lemmas.Bool.{and_parts, eqb-true}
use Rattle.std.proofs.lemmas.List.{append_cancel_left}
use Rattle.hex.specs.Hex.{IsBytes, encode_lower}
use Rattle.sock_addrs.specs.Link.{index_in}
use Rattle.sock_addrs.specs.Reading.{length_byte}
use Rattle.sock_addrs.specs.Rounding.{rounded}
use Rattle.message_text.specs.Addresses.{Place, address_line, address_lines, address_text, begins, behind, dotted, front, is_link, is_plain, link_address, link_name, rest_line}
use Rattle.message_text.specs.Names.{has_bit}
use Rattle.message_text.proofs.AddressForms.{dotted_behind, from_index, from_kind, from_length, link_text_parts}
use Rattle.message_text.proofs.AddressesTold.{AsBytes, AsInet, AsLink, AsMask, Form, form_of, form_told, mask_note}
use Rattle.message_text.proofs.Parting.{parted}
use Rattle.message_text.proofs.Printable.{all_both, bytes_before, hex_parted, is_printed, printed_decimal, printed_hex, weaker}
use Rattle.message_text.proofs.Told.{bytes_behind}

-- ---- an address' text is printed

printed_byte : (k : ℕ) (s : List ℕ) → IsBytes s → list_all is_printed (decimal (slice_index s k)) ≡ true
printed_byte k s are =
    let small : slice_index s k < 2 ^ 64 = omega (arith, are k) in
    printed_decimal (slice_index s k) small

dot_then : (d x : List ℕ) → list_all is_printed d ≡ true → list_all is_printed x ≡ true → list_all is_printed (d ++ 46 ∷ x) ≡ true
dot_then d x a b = all_both is_printed d (46 ∷ x) a b

printed_dotted : (s note : List ℕ) → IsBytes s → list_all is_printed note ≡ true → list_all is_printed (dotted s ++ note) ≡ true
printed_dotted s note are h =
    let a = decimal (slice_index s 4) in
    let b = decimal (slice_index s 5) in
    let c = decimal (slice_index s 6) in
    let d = decimal (slice_index s 7) in
    let last = all_both is_printed d note (printed_byte 7 s are) h in
    let third = dot_then c (d ++ note) (printed_byte 6 s are) last in
    let second = dot_then b (c ++ 46 ∷ (d ++ note)) (printed_byte 5 s are) third in
    ap (λ (l : List ℕ). list_all is_printed l) (dotted_behind s note)
    ∙ dot_then a (b ++ 46 ∷ (c ++ 46 ∷ (d ++ note))) (printed_byte 4 s are) second

printed_note : (bits : ℕ) → bits ≤ 32 → list_all is_printed (mask_note bits) ≡ true
printed_note bits few =
    let small : bits < 2 ^ 64 = omega (arith, few) in
    all_both is_printed (codes " (/") (decimal bits ++ codes ")") refl
    (all_both is_printed (decimal bits) (codes ")") (printed_decimal bits small) refl)

plain_printed : (b : ℕ) → is_plain b ≡ true → is_printed b ≡ true
plain_printed b e = grind (arith, e)

link_is_plain : (s : List ℕ) → is_link s ≡ true → list_all is_plain (link_name s) ≡ true
unfolding is_link
link_is_plain s is = (and_parts _ _ (and_parts _ _ is).0).1

printed_from_index : (s : List ℕ) → IsBytes s → list_all is_printed (from_index s) ≡ true
printed_from_index s are =
    let small : index_in s < 2 ^ 64 = omega (arith, are 2, are 3) in
    all_both is_printed (codes " index ") (decimal (index_in s) ++ from_kind s) refl
    (all_both is_printed (decimal (index_in s)) (from_kind s) (printed_decimal (index_in s) small)
    (all_both is_printed (codes " type ") (decimal (slice_index s 4) ++ from_length s) refl
    (all_both is_printed (decimal (slice_index s 4)) (from_length s) (printed_byte 4 s are)
    (all_both is_printed (codes " length ") (decimal (slice_index s 0)) refl (printed_byte 0 s are)))))

printed_form : (s x : List ℕ) → IsBytes s → Form s x → list_all is_printed x ≡ true
printed_form s x are (AsInet a b) = ap (λ (l : List ℕ). list_all is_printed l) b ∙ printed_dotted s [] are refl
printed_form s x are (AsMask bits few a b) =
    ap (λ (l : List ℕ). list_all is_printed l) b ∙ printed_dotted s (mask_note bits) are (printed_note bits few)
printed_form s x are (AsLink a b) =
    let octets : IsBytes (link_address s) = bytes_before _ _ (bytes_behind _ s are) in
    ap (λ (l : List ℕ). list_all is_printed l) (b ∙ link_text_parts s)
    ∙ all_both is_printed (link_name s) (codes ":" ++ (encode_lower (link_address s) ++ from_index s))
    (weaker is_plain is_printed plain_printed (link_name s) (link_is_plain s a))
    (all_both is_printed (encode_lower (link_address s)) (from_index s) (printed_hex (link_address s) octets) (printed_from_index s are))
printed_form s x are (AsBytes b) = ap (λ (l : List ℕ). list_all is_printed l) b ∙ printed_hex s are

pub printed_address : (is_mask : Bool) (s : List ℕ) → IsBytes s → list_all is_printed (address_text is_mask s) ≡ true
printed_address is_mask s are = printed_form s (address_text is_mask s) are (form_of is_mask s)

-- ---- one line

in_line : (a b c d : List ℕ) → ((a ++ b) ++ c) ++ d ≡ a ++ (b ++ (c ++ d))
in_line a b c d = simp append_assoc

line_told : (is_mask : Bool) (name s t x y : List ℕ) → IsBytes s → IsBytes t
    → ((name ++ address_text is_mask s) ++ codes "\n") ++ x ≡ ((name ++ address_text is_mask t) ++ codes "\n") ++ y
    → (s ≡ t) × (x ≡ y)
line_told is_mask name s t x y p q e =
    let one = address_text is_mask s in
    let two = address_text is_mask t in
    let named = append_cancel_left name (one ++ (codes "\n" ++ x)) (two ++ (codes "\n" ++ y))
    (sym (in_line name one (codes "\n") x) ∙ e ∙ in_line name two (codes "\n") y) in
    let told = parted is_printed one two (codes "\n" ++ x) (codes "\n" ++ y) (printed_address is_mask s p) (printed_address is_mask t q)
    refl refl named in
    (form_told s t one two p q (form_of is_mask s) (form_of is_mask t) told.0, append_cancel_left (codes "\n") x y told.1)

-- the bytes that no address has
rest_told : (m n : List ℕ) → IsBytes m → IsBytes n → rest_line m ≡ rest_line n → m ≡ n
unfolding rest_line
rest_told [] [] p q e = refl
rest_told [] (b ∷ n) p q e = cc
rest_told (b ∷ m) [] p q e = cc
rest_told (b ∷ m) (c ∷ n) p q e =
    let hex = encode_lower (b ∷ m) in
    let hex_too = encode_lower (c ∷ n) in
    (hex_parted (b ∷ m) (c ∷ n) (codes "\n") (codes "\n") p q refl refl
    (append_cancel_left (codes " behind ") (hex ++ codes "\n") (hex_too ++ codes "\n")
    (sym (append_assoc (codes " behind ") hex (codes "\n")) ∙ e ∙ append_assoc (codes " behind ") hex_too (codes "\n")))).0

-- ---- all lines

no_line : (b : Bool) (x y : List ℕ) (lines : List ℕ → List ℕ) → b ≡ false → lines [] ≡ []
    → (if b then x else []) ++ lines (if b then y else []) ≡ []
no_line true x y lines h e = cc
no_line false x y lines h e = e

begins_no_more : (has : Bool) → (has && false) ≡ false
begins_no_more true = refl
begins_no_more false = refl

-- no line comes of no bytes
lines_of_none : (ps : List Place) (addrs : ℕ) → address_lines ps addrs [] ≡ []
unfolding address_line behind rest_line
lines_of_none [] addrs = refl
lines_of_none (p ∷ ps) addrs =
    no_line (begins p.bit addrs []) (p.name ++ address_text p.is_mask (front []) ++ codes "\n") (drop (rounded (length_byte [])) [])
    (λ l. address_lines ps addrs l) (begins_no_more (has_bit addrs p.bit)) (lines_of_none ps addrs)

-- where one address begins and another doesn't, there are no bytes for the other
none_there : (has empty empty_too : Bool) → (has && not empty) ≡ true → (has && not empty_too) ≡ false → empty_too ≡ true
none_there true empty true a b = refl
none_there true empty false a b = cc
none_there false empty empty_too a b = cc

is_empty : (n : List ℕ) → (length n == 0) ≡ true → n ≡ []
is_empty [] e = refl
is_empty (b ∷ n) e = absurd (omega (arith, eqb-true _ _ e))

some_line : (a b c d : List ℕ) → ((a ++ b) ++ codes "\n") ++ c ≡ d → d ≡ [] → ⊥
some_line [] [] c d e f = cc
some_line [] (k ∷ b) c d e f = cc
some_line (k ∷ a) b c d e f = cc

lines_step : (a b : Bool) (p : Place) (ps : List Place) (addrs : ℕ) (m n : List ℕ) → IsBytes m → IsBytes n
    → begins p.bit addrs m ≡ a → begins p.bit addrs n ≡ b
    → ((x y : List ℕ) → IsBytes x → IsBytes y → address_lines ps addrs x ≡ address_lines ps addrs y → x ≡ y)
    → (if a then p.name ++ address_text p.is_mask (front m) ++ codes "\n" else [])
    ++ address_lines ps addrs (if a then drop (rounded (length_byte m)) m else m)
    ≡ (if b then p.name ++ address_text p.is_mask (front n) ++ codes "\n" else [])
    ++ address_lines ps addrs (if b then drop (rounded (length_byte n)) n else n)
    → m ≡ n
lines_step true true p ps addrs m n are too h k later e =
    let size = rounded (length_byte m) in
    let size_too = rounded (length_byte n) in
    let told = line_told p.is_mask p.name (front m) (front n) (address_lines ps addrs (drop size m))
    (address_lines ps addrs (drop size_too n)) (bytes_before size m are) (bytes_before size_too n too) e in
    let rest = later (drop size m) (drop size_too n) (bytes_behind size m are) (bytes_behind size_too n too) told.1 in
    sym (take-append-drop size m) ∙ ap (λ (l : List ℕ). l ++ drop size m) told.0 ∙ ap (λ (l : List ℕ). front n ++ l) rest
    ∙ take-append-drop size_too n
lines_step true false p ps addrs m n are too h k later e =
    let none : n ≡ [] = is_empty n (none_there (has_bit addrs p.bit) (length m == 0) (length n == 0) h k) in
    absurd (some_line p.name (address_text p.is_mask (front m)) (address_lines ps addrs (drop (rounded (length_byte m)) m))
    (address_lines ps addrs n) e (ap (λ (l : List ℕ). address_lines ps addrs l) none ∙ lines_of_none ps addrs))
lines_step false true p ps addrs m n are too h k later e =
    let none : m ≡ [] = is_empty m (none_there (has_bit addrs p.bit) (length n == 0) (length m == 0) k h) in
    absurd (some_line p.name (address_text p.is_mask (front n)) (address_lines ps addrs (drop (rounded (length_byte n)) n))
    (address_lines ps addrs m) (sym e) (ap (λ (l : List ℕ). address_lines ps addrs l) none ∙ lines_of_none ps addrs))
lines_step false false p ps addrs m n are too h k later e = later m n are too e

-- the bytes are told by their lines
pub lines_told : (ps : List Place) (addrs : ℕ) (m n : List ℕ) → IsBytes m → IsBytes n
    → address_lines ps addrs m ≡ address_lines ps addrs n → m ≡ n
unfolding address_line behind
lines_told [] addrs m n are too e = rest_told m n are too e
lines_told (p ∷ ps) addrs m n are too e =
    lines_step (begins p.bit addrs m) (begins p.bit addrs n) p ps addrs m n are too refl refl (lines_told ps addrs) e
