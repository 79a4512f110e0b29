-- The words of a printed line: what they are read as, which bytes they lack, and how long they are.
use Rattle.std.proofs.Common.{◌≡◌, ◌≢◌, ◌<◌, ◌≤◌, ◌∙◌, ◌-◌, ◌*◌, ◌/◌, ◌^◌, ℕ, Bool, true, false, List, [], ◌∷◌, ◌++◌, length, length-append, map, max, refl, replicate, sym, ap, arith, nat_le, codes, decimal, bytes_eq, ◌==◌, Option, Some, None, Ok}
use Rattle.std.specs.Prelude.{if◌then◌else◌}
use Rattle.std.specs.Fmt.{digits}
use Rattle.std.specs.Option.{IfSome}
use Rattle.std.specs.Int.{w32, byte_at, bytes_high_first, from_be_bytes, to_be_bytes}
use Rattle.std.specs.List.{list_all}
use Rattle.std.proofs.lemmas.Bool.{eqb-true, le-leb}
use Rattle.std.proofs.lemmas.Fmt.{decimal_is_IsNumeral, length-decimal-le}
use Rattle.std.proofs.lemmas.List.Sums.{AllPass-from_list_all}
use Rattle.std.proofs.lemmas.Nat.{from_be_bytes-to_be_bytes_4}
use Rattle.std.proofs.lemmas.Slice.Eq.{bytes_eq-Decides}
use Rattle.hex.specs.Hex.{IsBytes, decode_of, encode_lower, is_hex_digit, lower_digits}
use Rattle.hex.proofs.HexLemmas.{IsDigits-lower_digits, decode_of-encode_lower, decode_pairs-encode_with, decode_pairs-ok, length-encode_with}
use Rattle.if_addrs.specs.declared.kind.Kind.{Kind}
use Rattle.if_addrs.specs.declared.kind.Kind.TheVariants.{Broadcast, Loopback as LoopbackKind, PointToPoint}
use Rattle.route_core.specs.declared.command.Command.TheVariants.{Dump}
use Rattle.event_file.specs.Grammar.{cloning_of, dump_of, inet_if_written}
use Rattle.event_file.specs.Words.{bytes_to, hex_number_of, inet_of, inet_of_parts, interface_kind_of, is_name_byte, name_of, number_to, option_written, parted_by, protocol_of, switch_of, words_behind}
use Rattle.event_file.specs.Printed.{IsName, bytes_word, cloning_words, far_words, hex_word, inet_word, kind_word, network_word, protocol_word, switch_word}
use Rattle.event_file.proofs.Decimals.{printed_read}
use Rattle.event_file.proofs.Joined.{AllLack, Lacks, Lacks-digits, Lacks-joined, Lacks-tested, parted-joined, room_of}
use Rattle.event_file.proofs.ByteTexts.{AreBytes-number, IsBytes-from, byte_at-small}

-- ---- names

pub name_of-name : (name : List ℕ) → IsName name → name_of name ≡ Some name
name_of-name name is =
    let some : nat_le 1 (length name) ≡ true = le-leb _ _ is.0 in
    let short : nat_le (length name) 8 ≡ true = le-leb _ _ is.1 in
    rw (some, short, is.2) refl

-- a word of letters and digits has no space
pub Lacks-letters : (word : List ℕ) → list_all is_name_byte word ≡ true → Lacks 32 word
Lacks-letters word are = Lacks-tested is_name_byte 32 word (AllPass-from_list_all is_name_byte word are) refl

-- ---- decimals

pub Lacks-decimal : (byte n : ℕ) → byte < 48 → n < 2 ^ 32 → Lacks byte (decimal n)
Lacks-decimal byte n small fits = Lacks-digits byte (decimal n) small (decimal_is_IsNumeral n (omega arith)).0.1

pub length-decimal : (n : ℕ) → n < 2 ^ 32 → length (decimal n) ≤ 10
length-decimal n fits = length-decimal-le 10 n (omega arith) (omega arith) (omega arith)

-- ---- words of their own

pub is_letters-kind_word : (kind : Kind) → list_all is_name_byte (kind_word kind) ≡ true
is_letters-kind_word Broadcast = refl
is_letters-kind_word LoopbackKind = refl
is_letters-kind_word PointToPoint = refl

pub length-kind_word : (kind : Kind) → length (kind_word kind) ≤ 9
length-kind_word Broadcast = omega arith
length-kind_word LoopbackKind = omega arith
length-kind_word PointToPoint = omega arith

pub interface_kind_of-kind_word : (kind : Kind) → interface_kind_of (kind_word kind) ≡ Some kind
interface_kind_of-kind_word Broadcast = refl
interface_kind_of-kind_word LoopbackKind = refl
interface_kind_of-kind_word PointToPoint = refl

pub is_letters-switch_word : (on : Bool) → list_all is_name_byte (switch_word on) ≡ true
is_letters-switch_word true = refl
is_letters-switch_word false = refl

pub length-switch_word : (on : Bool) → length (switch_word on) ≤ 3
length-switch_word true = omega arith
length-switch_word false = omega arith

pub switch_of-switch_word : (on : Bool) → switch_of (switch_word on) ≡ Some on
switch_of-switch_word true = refl
switch_of-switch_word false = refl

-- ---- protocols

-- what holds of `any` and of a decimal holds of a protocol's word
of_protocol_word : (P : List ℕ → Type 0) (protocol : ℕ) → P (codes "any") → P (decimal protocol) → P (protocol_word protocol)
of_protocol_word P protocol any number = elim (protocol == 0) as (λ t. P (if t then codes "any" else decimal protocol)) [ true ↦ any | false ↦ number ]

pub Lacks-protocol_word : (protocol : ℕ) → protocol ≤ 255 → Lacks 32 (protocol_word protocol)
Lacks-protocol_word protocol small =
    of_protocol_word (Lacks 32) protocol (Lacks-letters (codes "any") refl) (Lacks-decimal 32 protocol (omega arith) (omega (arith, small)))

pub length-protocol_word : (protocol : ℕ) → protocol ≤ 255 → length (protocol_word protocol) ≤ 10
length-protocol_word protocol small =
    of_protocol_word (λ word. length word ≤ 10) protocol (omega arith) (length-decimal protocol (omega (arith, small)))

-- no number prints as a word that is none
is_no_decimal : (most n : ℕ) (word : List ℕ) → most < 2 ^ 32 → n ≤ most → number_to most word ≡ None → bytes_eq (decimal n) word ≡ false
is_no_decimal most n word room small none = elim (bytes_eq (decimal n) word) as (λ t. bytes_eq (decimal n) word ≡ t → t ≡ false) [
  | true ↦ λ e.
      let read = printed_read most n word room small (sym ((bytes_eq-Decides (decimal n) word).0 e)) in
      cc (read, none)
  | false ↦ λ _. refl
] refl

any_is_no_number : number_to 255 (codes "any") ≡ None
unfolding digits
any_is_no_number = refl

pub protocol_of-protocol_word : (protocol : ℕ) → protocol ≤ 255 → protocol_of (protocol_word protocol) ≡ Some protocol
protocol_of-protocol_word protocol small =
    let number = printed_read 255 protocol (decimal protocol) (omega arith) small refl in
    elim (protocol == 0) as (λ t. (protocol == 0) ≡ t → protocol_of (if t then codes "any" else decimal protocol) ≡ Some protocol) [
      | true ↦ λ e. ap Some (sym (eqb-true protocol 0 e))
      | false ↦ λ e.
          let other = is_no_decimal 255 protocol (codes "any") (omega arith) small any_is_no_number in
          rw (other, number, e) refl
    ] refl

-- ---- bytes

pub length-bytes_word : (bytes : List ℕ) → length (bytes_word bytes) ≤ max 1 (2 * length bytes)
length-bytes_word [] = omega arith
length-bytes_word (b ∷ bs) = omega (arith, length-encode_with lower_digits (b ∷ bs))

pub Lacks-bytes_word : (bytes : List ℕ) → IsBytes bytes → Lacks 32 (bytes_word bytes)
Lacks-bytes_word [] are = Lacks-tested (λ b. b == 45) 32 (codes "-") (AllPass-from_list_all (λ b. b == 45) (codes "-") refl) refl
Lacks-bytes_word (b ∷ bs) are =
    let word = encode_lower (b ∷ bs) in
    Lacks-tested is_hex_digit 32 word (decode_pairs-ok 0 word (b ∷ bs) (decode_pairs-encode_with lower_digits IsDigits-lower_digits 0 (b ∷ bs) are)).0 refl

other_length : (a b : List ℕ) → length a ≢ length b → bytes_eq a b ≡ false
other_length a b differ = elim (bytes_eq a b) as (λ t. bytes_eq a b ≡ t → t ≡ false) [
  | true ↦ λ e. absurd (differ (ap length ((bytes_eq-Decides a b).0 e)))
  | false ↦ λ _. refl
] refl

decoded_word : (most : ℕ) (word bytes : List ℕ) → length word ≢ 1 → 1 ≤ length word / 2 → length word / 2 ≤ most → decode_of word ≡ Ok bytes → bytes_to most word ≡ Some bytes
decoded_word most word bytes long some fits decodes =
    let digits : bytes_eq word (codes "-") ≡ false = other_length word (codes "-") long in
    let low : nat_le 1 (length word / 2) ≡ true = le-leb _ _ some in
    let high : nat_le (length word / 2) most ≡ true = le-leb _ _ fits in
    rw (digits, low, high, decodes) refl

pub bytes_to-bytes_word : (most : ℕ) (bytes : List ℕ) → length bytes ≤ most → IsBytes bytes → bytes_to most (bytes_word bytes) ≡ Some bytes
bytes_to-bytes_word most [] fits are = refl
bytes_to-bytes_word most (b ∷ bs) fits are =
    let long = length-encode_with lower_digits (b ∷ bs) in
    decoded_word most (encode_lower (b ∷ bs)) (b ∷ bs) (λ e. omega arith) (omega arith) (omega arith) (decode_of-encode_lower (b ∷ bs) are)

-- ---- hexadecimal numbers

IsBytes-number : (n : ℕ) → IsBytes (to_be_bytes w32 n)
IsBytes-number n = IsBytes-from (to_be_bytes w32 n) (AreBytes-number 4 n)

pub length-hex_word : (n : ℕ) → length (hex_word n) ≡ 8
length-hex_word n = omega (arith, length-encode_with lower_digits (to_be_bytes w32 n))

pub Lacks-hex_word : (n : ℕ) → Lacks 32 (hex_word n)
Lacks-hex_word n = Lacks-bytes_word (to_be_bytes w32 n) (IsBytes-number n)

-- eight digits need no zeros before them
eight_read : (word bytes : List ℕ) → length word ≡ 8 → decode_of word ≡ Ok bytes → hex_number_of word ≡ Some (from_be_bytes w32 bytes)
eight_read word bytes eight decodes =
    let low : nat_le 1 (length word) ≡ true = le-leb _ _ (omega (arith, eight)) in
    let high : nat_le (length word) 8 ≡ true = le-leb _ _ (omega (arith, eight)) in
    let same : replicate (8 - length word) 48 ++ word ≡ word = ap (λ (k : ℕ). replicate (8 - k) 48 ++ word) eight in
    rw (low, high, same, decodes) refl

pub hex_number_of-hex_word : (n : ℕ) → n < 2 ^ 32 → hex_number_of (hex_word n) ≡ Some n
hex_number_of-hex_word n small =
    eight_read (hex_word n) (to_be_bytes w32 n) (length-hex_word n) (decode_of-encode_lower (to_be_bytes w32 n) (IsBytes-number n))
    ∙ ap Some (from_be_bytes-to_be_bytes_4 n small)

-- ---- dumps

ask_is_no_number : number_to 4294967295 (codes "ask") ≡ None
unfolding digits
ask_is_no_number = refl

pub dump_of-decimal : (filter : Option ℕ) (room : ℕ) → room < 2 ^ 32 → dump_of filter (decimal room) ≡ Some (Dump filter room)
dump_of-decimal filter room small =
    let other = is_no_decimal 4294967295 room (codes "ask") (omega arith) (omega (arith, small)) ask_is_no_number in
    let number = printed_read 4294967295 room (decimal room) (omega arith) (omega (arith, small)) refl in
    rw (other, number) refl

-- ---- addresses

-- the numbers between the dots of an address
abbrev numbers : ℕ → List (List ℕ)
numbers n = map decimal (to_be_bytes w32 n)

byte-lacks : (byte i n : ℕ) → byte < 48 → Lacks byte (decimal (byte_at i n))
byte-lacks byte i n small = Lacks-decimal byte (byte_at i n) small (omega (arith, byte_at-small i n))

bytes-lack : (byte n : ℕ) → byte < 48 → AllLack byte (numbers n)
bytes-lack byte n small = (byte-lacks byte 3 n small, (byte-lacks byte 2 n small, (byte-lacks byte 1 n small, (byte-lacks byte 0 n small, tt))))

pub Lacks-inet_word : (byte n : ℕ) → byte < 48 → 46 ≢ byte → Lacks byte (inet_word n)
Lacks-inet_word byte n small other = Lacks-joined byte 46 (numbers n) other (bytes-lack byte n small)

-- four numbers are read as the address of their bytes
four_numbers : (a b c d : ℕ) → a ≤ 255 → b ≤ 255 → c ≤ 255 → d ≤ 255
    → inet_of_parts (decimal a ∷ decimal b ∷ decimal c ∷ decimal d ∷ []) ≡ Some (from_be_bytes w32 (a ∷ b ∷ c ∷ d ∷ []))
four_numbers a b c d fa fb fc fd =
    let read : (k : ℕ) → k ≤ 255 → number_to 255 (decimal k) ≡ Some k = λ k fits. printed_read 255 k (decimal k) (omega arith) fits refl in
    rw (read a fa, read b fb, read c fc, read d fd) refl

pub inet_of-inet_word : (n : ℕ) → n < 2 ^ 32 → inet_of (inet_word n) ≡ Some n
inet_of-inet_word n small =
    ap inet_of_parts (parted-joined 46 (decimal (byte_at 3 n)) (map decimal (bytes_high_first 3 n)) (bytes-lack 46 n (omega arith)))
    ∙ four_numbers _ _ _ _ (byte_at-small 3 n) (byte_at-small 2 n) (byte_at-small 1 n) (byte_at-small 0 n)
    ∙ ap Some (from_be_bytes-to_be_bytes_4 n small)

pub length-inet_word : (address : ℕ) → length (inet_word address) ≤ 43
length-inet_word address =
    let short : (i : ℕ) → length (decimal (byte_at i address)) ≤ 10 = λ i. length-decimal (byte_at i address) (omega (arith, byte_at-small i address)) in
    simp length-append (omega (arith, short 3, short 2, short 1, short 0))

pub Lacks-network_word : (address prefix : ℕ) → prefix ≤ 32 → Lacks 32 (network_word address prefix)
Lacks-network_word address prefix fits =
    Lacks-joined 32 47 (inet_word address ∷ decimal prefix ∷ []) (λ e. omega arith)
    (Lacks-inet_word 32 address (omega arith) (λ e. omega arith), (Lacks-decimal 32 prefix (omega arith) (omega arith), tt))

pub parted-network_word : (address prefix : ℕ) → prefix ≤ 32 → parted_by 47 (network_word address prefix) ≡ inet_word address ∷ decimal prefix ∷ []
parted-network_word address prefix fits =
    parted-joined 47 (inet_word address) (decimal prefix ∷ [])
    (Lacks-inet_word 47 address (omega arith) (λ e. omega arith), (Lacks-decimal 47 prefix (omega arith) (omega arith), tt))

pub length-network_word : (address prefix : ℕ) → prefix ≤ 32 → length (network_word address prefix) ≤ 54
length-network_word address prefix fits =
    let short : (i : ℕ) → length (decimal (byte_at i address)) ≤ 10 = λ i. length-decimal (byte_at i address) (omega (arith, byte_at-small i address)) in
    simp length-append (omega (arith, short 3, short 2, short 1, short 0, length-decimal prefix (omega arith)))

-- ---- the options behind an address

pub AllLack-options : (cloning : Bool) (far : Option ℕ) → AllLack 32 (far_words far ++ cloning_words cloning)
AllLack-options false None = tt
AllLack-options true None = (Lacks-letters (codes "cloning") refl, tt)
AllLack-options false (Some far) = (Lacks-letters (codes "to") refl, (Lacks-inet_word 32 far (omega arith) (λ e. omega arith), tt))
AllLack-options true (Some far) =
    (Lacks-letters (codes "to") refl, (Lacks-inet_word 32 far (omega arith) (λ e. omega arith), (Lacks-letters (codes "cloning") refl, tt)))

pub inet_if_written-options : (cloning : Bool) (far : Option ℕ) → IfSome far (λ a. a < 2 ^ 32)
    → inet_if_written (option_written (codes "to") (far_words far ++ cloning_words cloning)) ≡ Some far
inet_if_written-options false None small = refl
inet_if_written-options true None small = refl
inet_if_written-options cloning (Some far) small = rw (inet_of-inet_word far small) refl

pub cloning_of-options : (cloning : Bool) (far : Option ℕ) → cloning_of (words_behind (codes "to") (far_words far ++ cloning_words cloning)) ≡ Some cloning
cloning_of-options false None = refl
cloning_of-options true None = refl
cloning_of-options false (Some far) = refl
cloning_of-options true (Some far) = refl

pub room_of-options : (cloning : Bool) (far : Option ℕ) → room_of (far_words far ++ cloning_words cloning) ≤ 60
room_of-options false None = omega arith
room_of-options true None = omega arith
room_of-options false (Some far) = omega (arith, length-inet_word far)
room_of-options true (Some far) = omega (arith, length-inet_word far)
