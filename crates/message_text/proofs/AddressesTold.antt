-- The addresses behind a header are told by their lines.
use Rattle.std.proofs.Common.{◌≡◌, ◌∙◌, ℕ, ◌<◌, ◌≤◌, ◌^◌, Bool, true, false, nat_le, bytes_eq, List, [], ◌∷◌, ◌++◌, get_or, codes, decimal, refl, sym, ap, arith, append_assoc, append-nil}
use Rattle.std.specs.Prelude.{if◌then◌else◌, slice_index, Option, Some, None, Result, Ok, Err}
use Rattle.std.specs.List.{list_all}
use Rattle.std.proofs.lemmas.Bool.{and_parts}
use Rattle.std.proofs.lemmas.Slice.Eq.{bytes_eq-Decides}
use Rattle.std.proofs.lemmas.List.{append_cancel_left}
use Rattle.hex.specs.Hex.{IsBytes, encode_lower}
use Rattle.sock_addrs.specs.Reading.{ReadsMask, read_mask_of}
use Rattle.sock_addrs.specs.Sockaddrs.{mask_sockaddr}
use Rattle.sock_addrs.specs.declared.bad_addr.BadAddr.{BadAddr}
use Rattle.sock_addrs.proofs.MaskRead.{mask_computed}
use Rattle.message_text.specs.Addresses.{address_text, bytes_text, dotted, inet_cells, is_inet, is_link, link_text, mask_as_written, mask_in, mask_or_other}
use Rattle.message_text.proofs.AddressForms.{AreSameAddress, dotted_told, dotted_behind, link_text_parts, link_told, same_cells}
use Rattle.message_text.proofs.Numbers.{decimal_of_digits, decimal_told, hex_told, is_digit}

-- ---- which form a text has

abbrev pub mask_note : ℕ → List ℕ
mask_note bits = codes " (/" ++ (decimal bits ++ codes ")")

pub data Form (s x : List ℕ) : Type 0 where
  AsInet : s ≡ inet_cells s → x ≡ dotted s ++ [] → Form s x
  AsMask : (bits : ℕ) → bits ≤ 32 → s ≡ mask_sockaddr bits → x ≡ dotted s ++ mask_note bits → Form s x
  AsLink : is_link s ≡ true → x ≡ link_text s → Form s x
  AsBytes : x ≡ bytes_text s → Form s x

if_some : (b : Bool) (k bits : ℕ) → (if b then Some k else None) ≡ Some bits → (b ≡ true) × (k ≡ bits)
if_some true k bits e = (refl, cc)
if_some false k bits e = cc

mask_said : (s : List ℕ) (read : Result ℕ BadAddr) (bits : ℕ) → ReadsMask s read → mask_as_written s read ≡ Some bits
    → (bits ≤ 32) × (s ≡ mask_sockaddr bits)
mask_said s (Ok k) bits reads e =
    let parts = if_some (bytes_eq s (mask_sockaddr k)) k bits e in
    let written : s ≡ mask_sockaddr k = (bytes_eq-Decides s (mask_sockaddr k)).0 parts.0 in
    (omega (arith, reads.fits, parts.1), written ∙ ap (λ (i : ℕ). mask_sockaddr i) parts.1)
mask_said s (Err fault) bits reads e = cc

mask_is : (s : List ℕ) (bits : ℕ) → mask_in s ≡ Some bits → (bits ≤ 32) × (s ≡ mask_sockaddr bits)
unfolding mask_in
mask_is s bits e = mask_said s (read_mask_of s) bits (mask_computed s) e

form_by_link : (b : Bool) (s : List ℕ) → is_link s ≡ b → Form s (if b then link_text s else bytes_text s)
form_by_link true s h = AsLink h refl
form_by_link false s h = AsBytes refl

form_by_mask : (o : Option ℕ) (s : List ℕ) → ((bits : ℕ) → o ≡ Some bits → mask_in s ≡ Some bits) → Form s (mask_or_other o s)
form_by_mask (Some bits) s is =
    let mask = mask_is s bits (is bits refl) in
    AsMask bits mask.0 mask.1
    (append_assoc (dotted s ++ codes " (/") (decimal bits) (codes ")") ∙ append_assoc (dotted s) (codes " (/") (decimal bits ++ codes ")"))
form_by_mask None s is = form_by_link (is_link s) s refl

where_mask : (b : Bool) (o : Option ℕ) (bits : ℕ) → (if b then o else None) ≡ Some bits → o ≡ Some bits
where_mask true o bits e = e
where_mask false o bits e = cc

form_by_inet : (b is_mask : Bool) (s : List ℕ) → is_inet s ≡ b
    → Form s (if b then dotted s else mask_or_other (if is_mask then mask_in s else None) s)
unfolding is_inet
form_by_inet true is_mask s h = AsInet ((bytes_eq-Decides s (inet_cells s)).0 h) (sym (append-nil (dotted s)))
form_by_inet false is_mask s h = form_by_mask (if is_mask then mask_in s else None) s (λ bits e. where_mask is_mask (mask_in s) bits e)

pub form_of : (is_mask : Bool) (s : List ℕ) → Form s (address_text is_mask s)
form_of is_mask s = form_by_inet (is_inet s) is_mask s refl

-- ---- texts of two forms differ

-- the first byte
front : List ℕ → ℕ
front x = get_or x 0 0

digit_or_dot : (d x : List ℕ) → list_all is_digit d ≡ true → nat_le (get_or (d ++ 46 ∷ x) 0 0) 57 ≡ true
digit_or_dot [] x h = refl
digit_or_dot (k ∷ d) x h = (and_parts _ _ (and_parts _ _ h).0).1

dotted_low : (s x : List ℕ) → IsBytes s → nat_le (get_or (dotted s ++ x) 0 0) 57 ≡ true
dotted_low s x are =
    let small : slice_index s 4 < 2 ^ 64 = omega (arith, are 4) in
    ap (λ (l : List ℕ). nat_le (get_or l 0 0) 57) (dotted_behind s x)
    ∙ digit_or_dot (decimal (slice_index s 4)) _ (decimal_of_digits (slice_index s 4) small)

low_front : (s t note x y : List ℕ) → IsBytes s → x ≡ dotted s ++ note → x ≡ y → nat_le (get_or y 0 0) 57 ≡ true
low_front s t note x y are is e = ap (λ (l : List ℕ). nat_le (get_or l 0 0) 57) (sym e ∙ is) ∙ dotted_low s note are

link_high : (t y : List ℕ) → y ≡ link_text t → nat_le (get_or y 0 0) 57 ≡ false
link_high t y is = ap (λ (l : List ℕ). nat_le (get_or l 0 0) 57) (is ∙ link_text_parts t)

bytes_high : (t y : List ℕ) → y ≡ bytes_text t → nat_le (get_or y 0 0) 57 ≡ false
bytes_high t y is = ap (λ (l : List ℕ). nat_le (get_or l 0 0) 57) is

both_ways : (b : Bool) → b ≡ true → b ≡ false → ⊥
both_ways true h n = cc
both_ways false h n = cc

link_first : (s t x y : List ℕ) → x ≡ link_text s → y ≡ bytes_text t → x ≡ y → ⊥
link_first s t x y is is_too e =
    let l_is_b : 108 ≡ 98 =
    sym (ap (λ (l : List ℕ). get_or l 0 0) (is ∙ link_text_parts s)) ∙ ap (λ (l : List ℕ). get_or l 0 0) (e ∙ is_too) in
    omega (arith, l_is_b)

-- ---- a text tells the bytes

inet_told : (s t : List ℕ) → s ≡ inet_cells s → t ≡ inet_cells t → AreSameAddress s t → s ≡ t
inet_told s t is is_too e =
    is ∙ same_cells (slice_index s 4) (slice_index s 5) (slice_index s 6) (slice_index s 7)
    (slice_index t 4) (slice_index t 5) (slice_index t 6) (slice_index t 7) e.0 e.1 e.2 e.3 ∙ sym is_too

no_note : (bits : ℕ) → [] ≡ mask_note bits → ⊥
no_note bits e = cc

notes_told : (bits many : ℕ) → bits ≤ 32 → many ≤ 32 → mask_note bits ≡ mask_note many → bits ≡ many
notes_told bits many few few_too e =
    (decimal_told bits many (codes ")") (codes ")") (omega (arith, few)) (omega (arith, few_too)) refl refl
    (append_cancel_left (codes " (/") (decimal bits ++ codes ")") (decimal many ++ codes ")") e)).0

pub form_told : (s t x y : List ℕ) → IsBytes s → IsBytes t → Form s x → Form t y → x ≡ y → s ≡ t
form_told s t x y p q (AsInet a b) (AsInet c d) e =
    inet_told s t a c (dotted_told s t [] [] p q refl refl (sym b ∙ e ∙ d)).0
form_told s t x y p q (AsInet a b) (AsMask many few c d) e =
    absurd (no_note many (dotted_told s t [] (mask_note many) p q refl refl (sym b ∙ e ∙ d)).1)
form_told s t x y p q (AsInet a b) (AsLink c d) e = absurd (both_ways _ (low_front s t [] x y p b e) (link_high t y d))
form_told s t x y p q (AsInet a b) (AsBytes d) e = absurd (both_ways _ (low_front s t [] x y p b e) (bytes_high t y d))
form_told s t x y p q (AsMask bits few a b) (AsInet c d) e =
    absurd (no_note bits (sym (dotted_told s t (mask_note bits) [] p q refl refl (sym b ∙ e ∙ d)).1))
form_told s t x y p q (AsMask bits few a b) (AsMask many few_too c d) e =
    let same = (dotted_told s t (mask_note bits) (mask_note many) p q refl refl (sym b ∙ e ∙ d)).1 in
    a ∙ ap (λ (i : ℕ). mask_sockaddr i) (notes_told bits many few few_too same) ∙ sym c
form_told s t x y p q (AsMask bits few a b) (AsLink c d) e = absurd (both_ways _ (low_front s t (mask_note bits) x y p b e) (link_high t y d))
form_told s t x y p q (AsMask bits few a b) (AsBytes d) e = absurd (both_ways _ (low_front s t (mask_note bits) x y p b e) (bytes_high t y d))
form_told s t x y p q (AsLink a b) (AsInet c d) e = absurd (both_ways _ (low_front t s [] y x q d (sym e)) (link_high s x b))
form_told s t x y p q (AsLink a b) (AsMask many few c d) e = absurd (both_ways _ (low_front t s (mask_note many) y x q d (sym e)) (link_high s x b))
form_told s t x y p q (AsLink a b) (AsLink c d) e = link_told s t p q a c (sym b ∙ e ∙ d)
form_told s t x y p q (AsLink a b) (AsBytes d) e = absurd (link_first s t x y b d e)
form_told s t x y p q (AsBytes b) (AsInet c d) e = absurd (both_ways _ (low_front t s [] y x q d (sym e)) (bytes_high s x b))
form_told s t x y p q (AsBytes b) (AsMask many few c d) e = absurd (both_ways _ (low_front t s (mask_note many) y x q d (sym e)) (bytes_high s x b))
form_told s t x y p q (AsBytes b) (AsLink c d) e = absurd (link_first t s y x d b (sym e))
form_told s t x y p q (AsBytes b) (AsBytes d) e =
    hex_told s t p q (append_cancel_left (codes "bytes ") (encode_lower s) (encode_lower t) (sym b ∙ e ∙ d))
