-- Which form the text of an address has, and that each form tells the bytes.
use Rattle.std.proofs.Common.{◌≡◌, ◌∙◌, ℕ, ◌+◌, ◌<◌, ◌≤◌, ◌^◌, true, List, [], ◌∷◌, ◌++◌, length, drop, codes, decimal, refl, sym, ap, arith, append_assoc, append-nil, length-take-le, length-drop}
use Rattle.std.specs.Prelude.{slice_index}
use Rattle.std.specs.List.{list_all}
use Rattle.std.proofs.lemmas.Bool.{and_parts, leb-true}
use Rattle.std.proofs.lemmas.Slice.Eq.{bytes_eq-Decides}
use Rattle.std.proofs.lemmas.List.{append_cancel_left}
use Rattle.hex.specs.Hex.{IsBytes, encode_lower}
use Rattle.sock_addrs.specs.Link.{index_in}
use Rattle.sock_addrs.specs.Padded.{padded_to}
use Rattle.sock_addrs.specs.Reading.{length_byte}
use Rattle.sock_addrs.specs.Rounding.{rounded}
use Rattle.sock_addrs.specs.declared.families.TheConstants.{AF_INET, AF_LINK}
use Rattle.message_text.specs.Addresses.{dotted, has_link_room, is_link, is_plain, link_address, link_cells, link_name, link_text}
use Rattle.message_text.proofs.Numbers.{decimal_told, is_digit}
use Rattle.message_text.proofs.Parting.{parted, same_tail, stops}
use Rattle.message_text.proofs.Printable.{bytes_before, hex_parted}
use Rattle.message_text.proofs.Told.{bytes_behind}

-- ---- dotted numbers

-- bytes 4 to 7 are the same
abbrev pub AreSameAddress : List ℕ → List ℕ → Type 0
AreSameAddress s t = (slice_index s 4 ≡ slice_index t 4) × (slice_index s 5 ≡ slice_index t 5)
    × (slice_index s 6 ≡ slice_index t 6) × (slice_index s 7 ≡ slice_index t 7)

byte_then : (s t : List ℕ) (k : ℕ) (x y : List ℕ) → IsBytes s → IsBytes t → stops is_digit x ≡ true → stops is_digit y ≡ true
    → decimal (slice_index s k) ++ x ≡ decimal (slice_index t k) ++ y → (slice_index s k ≡ slice_index t k) × (x ≡ y)
byte_then s t k x y p q c d e =
    let small : slice_index s k < 2 ^ 32 = omega (arith, p k) in
    let small_too : slice_index t k < 2 ^ 32 = omega (arith, q k) in
    decimal_told (slice_index s k) (slice_index t k) x y small small_too c d e

-- a text that begins with dotted numbers
abbrev pub dotted_then : List ℕ → List ℕ → List ℕ
dotted_then s x =
    decimal (slice_index s 4) ++ 46 ∷ (decimal (slice_index s 5) ++ 46 ∷ (decimal (slice_index s 6) ++ 46 ∷ (decimal (slice_index s 7) ++ x)))

spread : (a b c d x : List ℕ)
    → (((a ++ (46 ∷ b)) ++ (46 ∷ c)) ++ (46 ∷ d)) ++ x ≡ a ++ 46 ∷ (b ++ 46 ∷ (c ++ 46 ∷ (d ++ x)))
spread a b c d x = simp append_assoc

pub dotted_behind : (s x : List ℕ) → dotted s ++ x ≡ dotted_then s x
unfolding dotted
dotted_behind s x =
    spread (decimal (slice_index s 4)) (decimal (slice_index s 5)) (decimal (slice_index s 6)) (decimal (slice_index s 7)) x

pub dotted_told : (s t x y : List ℕ) → IsBytes s → IsBytes t → stops is_digit x ≡ true → stops is_digit y ≡ true
    → dotted s ++ x ≡ dotted t ++ y → AreSameAddress s t × (x ≡ y)
dotted_told s t x y p q c d e =
    let one = byte_then s t 4 _ _ p q refl refl (sym (dotted_behind s x) ∙ e ∙ dotted_behind t y) in
    let two = byte_then s t 5 _ _ p q refl refl (same_tail 46 46 _ _ one.1) in
    let three = byte_then s t 6 _ _ p q refl refl (same_tail 46 46 _ _ two.1) in
    let four = byte_then s t 7 x y p q c d (same_tail 46 46 _ _ three.1) in
    ((one.0, two.0, three.0, four.0), four.1)

abbrev pub cells_at : ℕ → ℕ → ℕ → ℕ → List ℕ
cells_at a b c d = 16 ∷ AF_INET ∷ 0 ∷ 0 ∷ a ∷ b ∷ c ∷ d ∷ 0 ∷ 0 ∷ 0 ∷ 0 ∷ 0 ∷ 0 ∷ 0 ∷ 0 ∷ []

pub same_cells : (a b c d i j k l : ℕ) → a ≡ i → b ≡ j → c ≡ k → d ≡ l → cells_at a b c d ≡ cells_at i j k l
same_cells a b c d i j k l e f g h = rw (e, f, g, h) refl

-- ---- link-layer addresses

link_from : ℕ → ℕ → ℕ → ℕ → ℕ → ℕ → List ℕ → List ℕ → List ℕ
link_from size high low kind names addresses name address =
    padded_to (rounded size) ((size ∷ AF_LINK ∷ high ∷ low ∷ kind ∷ names ∷ addresses ∷ 0 ∷ []) ++ name ++ address)

same_link : (a b c d e f i j k l m n : ℕ) (s t u v : List ℕ) → a ≡ i → b ≡ j → c ≡ k → d ≡ l → e ≡ m → f ≡ n → s ≡ u → t ≡ v
    → link_from a b c d e f s t ≡ link_from i j k l m n u v
same_link a b c d e f i j k l m n s t u v p q r w x y z o = rw (p, q, r, w, x, y, z, o) refl

link_room : (s : List ℕ) → has_link_room s ≡ true → 8 + slice_index s 5 + slice_index s 6 ≤ length s
link_room s h = leb-true _ _ (and_parts _ _ h).1

pub length-link_name : (s : List ℕ) → has_link_room s ≡ true → length (link_name s) ≡ slice_index s 5
length-link_name s h =
    let room : slice_index s 5 ≤ length (drop 8 s) = omega (arith, link_room s h, length-drop 8 s) in
    length-take-le (slice_index s 5) (drop 8 s) room

length-link_address : (s : List ℕ) → has_link_room s ≡ true → length (link_address s) ≡ slice_index s 6
length-link_address s h =
    let from = 8 + slice_index s 5 in
    let room : slice_index s 6 ≤ length (drop from s) = omega (arith, link_room s h, length-drop from s) in
    length-take-le (slice_index s 6) (drop from s) room

-- what its text tells
record LinkTold (s t : List ℕ) : Type 0 where
  name : link_name s ≡ link_name t
  address : link_address s ≡ link_address t
  index : index_in s ≡ index_in t
  kind : slice_index s 4 ≡ slice_index t 4
  size : length_byte s ≡ length_byte t

-- the parts of its text, from the last on
abbrev pub from_length : List ℕ → List ℕ
from_length s = codes " length " ++ decimal (length_byte s)

abbrev pub from_kind : List ℕ → List ℕ
from_kind s = codes " type " ++ (decimal (slice_index s 4) ++ from_length s)

abbrev pub from_index : List ℕ → List ℕ
from_index s = codes " index " ++ (decimal (index_in s) ++ from_kind s)

abbrev pub from_name : List ℕ → List ℕ
from_name s = link_name s ++ (codes ":" ++ (encode_lower (link_address s) ++ from_index s))

pub in_line : (a b c d e f g h i j : List ℕ)
    → ((((((((a ++ b) ++ c) ++ d) ++ e) ++ f) ++ g) ++ h) ++ i) ++ j ≡ a ++ (b ++ (c ++ (d ++ (e ++ (f ++ (g ++ (h ++ (i ++ j))))))))
in_line a b c d e f g h i j = simp append_assoc

pub link_text_parts : (s : List ℕ) → link_text s ≡ codes "link " ++ from_name s
unfolding link_text
link_text_parts s =
    in_line (codes "link ") (link_name s) (codes ":") (encode_lower (link_address s)) (codes " index ") (decimal (index_in s))
    (codes " type ") (decimal (slice_index s 4)) (codes " length ") (decimal (length_byte s))

link_text_told : (s t : List ℕ) → IsBytes s → IsBytes t → list_all is_plain (link_name s) ≡ true → list_all is_plain (link_name t) ≡ true
    → link_text s ≡ link_text t → LinkTold s t
link_text_told s t p q plain plain_too e =
    let name = parted is_plain (link_name s) (link_name t) (codes ":" ++ (encode_lower (link_address s) ++ from_index s))
    (codes ":" ++ (encode_lower (link_address t) ++ from_index t)) plain plain_too refl refl
    (append_cancel_left (codes "link ") (from_name s) (from_name t) (sym (link_text_parts s) ∙ e ∙ link_text_parts t)) in
    let octets : IsBytes (link_address s) = bytes_before _ _ (bytes_behind _ s p) in
    let octets_too : IsBytes (link_address t) = bytes_before _ _ (bytes_behind _ t q) in
    let address = hex_parted (link_address s) (link_address t) (from_index s) (from_index t) octets octets_too refl refl
    (append_cancel_left (codes ":") (encode_lower (link_address s) ++ from_index s) (encode_lower (link_address t) ++ from_index t) name.1) in
    let low : index_in s < 2 ^ 32 = omega (arith, p 2, p 3) in
    let low_too : index_in t < 2 ^ 32 = omega (arith, q 2, q 3) in
    let index = decimal_told (index_in s) (index_in t) (from_kind s) (from_kind t) low low_too refl refl
    (append_cancel_left (codes " index ") (decimal (index_in s) ++ from_kind s) (decimal (index_in t) ++ from_kind t) address.1) in
    let kind = byte_then s t 4 (from_length s) (from_length t) p q refl refl
    (append_cancel_left (codes " type ") (decimal (slice_index s 4) ++ from_length s) (decimal (slice_index t 4) ++ from_length t) index.1) in
    let size = byte_then s t 0 [] [] p q refl refl
    (append-nil (decimal (length_byte s))
    ∙ append_cancel_left (codes " length ") (decimal (length_byte s)) (decimal (length_byte t)) kind.1
    ∙ sym (append-nil (decimal (length_byte t)))) in
    record { name = name.0; address = address.0; index = index.0; kind = kind.0; size = size.0 }

pub link_told : (s t : List ℕ) → IsBytes s → IsBytes t → is_link s ≡ true → is_link t ≡ true → link_text s ≡ link_text t → s ≡ t
unfolding is_link link_from
link_told s t p q is is_too e =
    let parts = and_parts _ _ is in let front = and_parts _ _ parts.0 in
    let parts_too = and_parts _ _ is_too in let front_too = and_parts _ _ parts_too.0 in
    let told = link_text_told s t p q front.1 front_too.1 e in
    let written : s ≡ link_cells s = (bytes_eq-Decides s (link_cells s)).0 parts.1 in
    let written_too : t ≡ link_cells t = (bytes_eq-Decides t (link_cells t)).0 parts_too.1 in
    let names : slice_index s 5 ≡ slice_index t 5 =
    sym (length-link_name s front.0) ∙ ap (λ (l : List ℕ). length l) told.name ∙ length-link_name t front_too.0 in
    let addresses : slice_index s 6 ≡ slice_index t 6 =
    sym (length-link_address s front.0) ∙ ap (λ (l : List ℕ). length l) told.address ∙ length-link_address t front_too.0 in
    let high : slice_index s 2 ≡ slice_index t 2 = omega (arith, told.index, p 2, p 3, q 2, q 3) in
    let low : slice_index s 3 ≡ slice_index t 3 = omega (arith, told.index, p 2, p 3, q 2, q 3) in
    written
    ∙ same_link (length_byte s) (slice_index s 2) (slice_index s 3) (slice_index s 4) (slice_index s 5) (slice_index s 6)
    (length_byte t) (slice_index t 2) (slice_index t 3) (slice_index t 4) (slice_index t 5) (slice_index t 6)
    (link_name s) (link_address s) (link_name t) (link_address t)
    told.size high low told.kind names addresses told.name told.address
    ∙ sym written_too
