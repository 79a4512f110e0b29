-- A word of a kind is of few bytes.
use Rattle.std.proofs.Common.{◌≡◌, ◌≤◌, ◌+◌, ◌*◌, ◌/◌, ◌&&◌, ◌||◌, ℕ, Bool, true, false, cond, List, [], ◌∷◌, length, refl, sym, subst, arith, nat_le, codes, bytes_eq, Some, None, Result, Ok, Err}
use Rattle.std.specs.Prelude.{is_some, option_map}
use Rattle.std.specs.Str.Parse.{digits_value}
use Rattle.std.proofs.lemmas.Bool.{and_parts, leb-true}
use Rattle.std.proofs.lemmas.List.Splits.{join_with_byte-slice_split}
use Rattle.std.proofs.lemmas.Option.{cond_some}
use Rattle.std.proofs.lemmas.Slice.Eq.{bytes_eq-Decides}
use Rattle.hex.specs.Hex.{decode_of}
use Rattle.hex.specs.declared.error.FromHexError.{FromHexError}
use Rattle.hex.proofs.HexLemmas.{decode_of-ok}
use Rattle.sock_addrs.specs.declared.gate.Gate.TheVariants as gate
use Rattle.event_file.specs.RouteLine.{destination_of, destination_of_parts, verb_of}
use Rattle.event_file.specs.Words.{bytes_to, decoded, gate_of, gate_of_parts, hex_number_of, inet_of, inet_of_parts, interface_kind_of, link_of, link_of_bytes, name_of, number_to, parted_by, protocol_number_of, protocol_of, switch_of}
use Rattle.event_file.proofs.Joined.{length-joined, room_of}
use Rattle.event_file.proofs.ReadWords.{bind_some, mapped_some}
use Rattle.line_faults.proofs.Choosing.{chosen_short, guarded, some_is, there_is}
use Rattle.line_faults.specs.Kinds.{are_address_and_prefix}

-- a word's bytes are in its parts
parts_have : (byte : ℕ) (word : List ℕ) → length word ≤ room_of (parted_by byte word)
parts_have byte word =
    subst (λ w. length w ≤ room_of (parted_by byte word)) (join_with_byte-slice_split byte word) (length-joined byte (parted_by byte word))

pub name_short : (word : List ℕ) → is_some (name_of word) ≡ true → length word ≤ 8
name_short word h =
    let (name, is) = some_is (name_of word) h in
    let (tests, _) = cond_some _ word name is in
    let (lengths, _) = and_parts _ _ tests in
    leb-true _ _ (and_parts _ _ lengths).1

number_few : (most : ℕ) (word : List ℕ) (n : ℕ) → number_to most word ≡ Some n → length word ≤ 10
number_few most word n h =
    let (tests, _) = cond_some _ (digits_value 10 word) n h in
    let (bounds, _) = and_parts _ _ tests in
    leb-true _ _ (and_parts _ _ bounds).0

pub number_short : (most : ℕ) (word : List ℕ) → is_some (number_to most word) ≡ true → length word ≤ 10
number_short most word h = let (n, is) = some_is (number_to most word) h in number_few most word n is

-- `-`, or two digits for each byte
bytes_few : (most : ℕ) (word bytes : List ℕ) (none fits : Bool) → (none ≡ true → length word ≤ 1) → (fits ≡ true → length word / 2 ≤ most)
    → cond none (Some []) (cond fits (decoded (decode_of word)) None) ≡ Some bytes → length word ≤ 1 + 2 * most
bytes_few most word bytes true fits dash room h = omega (arith, dash refl)
bytes_few most word bytes false true dash room h = omega (arith, room refl)
bytes_few most word bytes false false dash room h = cc h

dash_short : (word : List ℕ) → bytes_eq word (codes "-") ≡ true → length word ≤ 1
dash_short word is = subst (λ w. length w ≤ 1) (sym ((bytes_eq-Decides word (codes "-")).0 is)) (omega arith)

pub bytes_short : (most : ℕ) (word : List ℕ) → is_some (bytes_to most word) ≡ true → length word ≤ 1 + 2 * most
bytes_short most word h =
    let (bytes, is) = some_is (bytes_to most word) h in
    bytes_few most word bytes _ (nat_le 1 (length word / 2) && nat_le (length word / 2) most) (dash_short word) (λ e. leb-true _ _ (and_parts _ _ e).1) is

-- what was decoded could be
decoded_ok : (r : Result (List ℕ) FromHexError) (bytes : List ℕ) → decoded r ≡ Some bytes → r ≡ Ok bytes
decoded_ok (Ok read) bytes h = cc h
decoded_ok (Err e) bytes h = cc h

-- of at least one byte they are just so many digits
bytes_even : (most : ℕ) (word bytes : List ℕ) (none fits : Bool) → 1 ≤ most → (none ≡ true → length word ≤ 1) → (fits ≡ true → length word / 2 ≤ most)
    → cond none (Some []) (cond fits (decoded (decode_of word)) None) ≡ Some bytes → length word ≤ 2 * most
bytes_even most word bytes true fits some dash room h = omega (arith, some, dash refl)
bytes_even most word bytes false true some dash room h =
    omega (arith, room refl, (decode_of-ok word bytes (decoded_ok (decode_of word) bytes h)).2)
bytes_even most word bytes false false some dash room h = cc h

pub written_short : (most : ℕ) (word : List ℕ) → 1 ≤ most → is_some (bytes_to most word) ≡ true → length word ≤ 2 * most
written_short most word some h =
    let (bytes, is) = some_is (bytes_to most word) h in
    bytes_even most word bytes _ (nat_le 1 (length word / 2) && nat_le (length word / 2) most) some (dash_short word) (λ e. leb-true _ _ (and_parts _ _ e).1) is

inet_parts_few : (parts : List (List ℕ)) (address : ℕ) → inet_of_parts parts ≡ Some address → room_of parts ≤ 44
inet_parts_few (p ∷ q ∷ r ∷ s ∷ []) address h =
    let (a, ea, ha) = bind_some (number_to 255 p) _ address h in
    let (b, eb, hb) = bind_some (number_to 255 q) _ address ha in
    let (c, ec, hc) = bind_some (number_to 255 r) _ address hb in
    let (d, ed, _) = bind_some (number_to 255 s) _ address hc in
    omega (arith, number_few 255 p a ea, number_few 255 q b eb, number_few 255 r c ec, number_few 255 s d ed)
inet_parts_few parts address h = cc h

inet_few : (word : List ℕ) (address : ℕ) → inet_of word ≡ Some address → length word ≤ 44
inet_few word address h = omega (arith, parts_have 46 word, inet_parts_few (parted_by 46 word) address h)

pub inet_short : (word : List ℕ) → is_some (inet_of word) ≡ true → length word ≤ 44
inet_short word h = let (address, is) = some_is (inet_of word) h in inet_few word address is

prefix_parts_short : (parts : List (List ℕ)) → are_address_and_prefix parts ≡ true → room_of parts ≤ 56
prefix_parts_short (a ∷ p ∷ []) h =
    let (address, prefix) = and_parts (is_some (inet_of a)) (is_some (number_to 32 p)) h in
    omega (arith, inet_short a address, number_short 32 p prefix)
prefix_parts_short parts h = cc h

pub prefix_short : (word : List ℕ) → are_address_and_prefix (parted_by 47 word) ≡ true → length word ≤ 56
prefix_short word h = omega (arith, parts_have 47 word, prefix_parts_short (parted_by 47 word) h)

destination_parts_short : (parts : List (List ℕ)) → is_some (destination_of_parts parts) ≡ true → room_of parts ≤ 56
destination_parts_short (a ∷ []) h =
    let (to, is) = some_is (destination_of_parts (a ∷ [])) h in
    let (address, read, _) = bind_some (inet_of a) _ to is in
    omega (arith, inet_few a address read)
destination_parts_short (a ∷ p ∷ []) h =
    let (to, is) = some_is (destination_of_parts (a ∷ p ∷ [])) h in
    let (address, read, behind) = bind_some (inet_of a) _ to is in
    let (bits, small, _) = bind_some (number_to 32 p) _ to behind in
    omega (arith, inet_few a address read, number_few 32 p bits small)
destination_parts_short parts h = cc h

pub destination_short : (word : List ℕ) → is_some (destination_of word) ≡ true → length word ≤ 56
destination_short word h =
    chosen_short word (codes "default") _ (destination_of_parts (parted_by 47 word)) 56 (omega arith) (λ parts. omega (arith, parts_have 47 word, destination_parts_short (parted_by 47 word) parts)) h

gate_parts_short : (parts : List (List ℕ)) → is_some (gate_of_parts parts) ≡ true → room_of parts ≤ 71
gate_parts_short (a ∷ []) h =
    let (said, is) = some_is (gate_of_parts (a ∷ [])) h in
    let (address, read, _) = mapped_some gate.Inet (inet_of a) said is in
    omega (arith, inet_few a address read)
gate_parts_short (k ∷ d ∷ []) h =
    let (link, digits) = guarded (bytes_eq k (codes "link")) (option_map gate.Link (link_of d)) h in
    let (said, is) = some_is (option_map gate.Link (link_of d)) digits in
    let (sockaddr, spelt, _) = mapped_some gate.Link (link_of d) said is in
    let (bytes, read, _) = bind_some (bytes_to 32 d) link_of_bytes sockaddr spelt in
    let short : length k ≤ 4 = subst (λ w. length w ≤ 4) (sym ((bytes_eq-Decides k (codes "link")).0 link)) (omega arith) in
    omega (arith, short, bytes_short 32 d (there_is (bytes_to 32 d) bytes read))
gate_parts_short parts h = cc h

pub gate_short : (word : List ℕ) → is_some (gate_of word) ≡ true → length word ≤ 71
gate_short word h = omega (arith, parts_have 58 word, gate_parts_short (parted_by 58 word) h)

pub kind_short : (word : List ℕ) → is_some (interface_kind_of word) ≡ true → length word ≤ 9
kind_short word h =
    chosen_short word (codes "broadcast") _ _ 9 (omega arith) (chosen_short word (codes "loopback") _ _ 9 (omega arith) (chosen_short word (codes "ptp") _ None 9 (omega arith) (λ none. cc none))) h

pub switch_short : (word : List ℕ) → is_some (switch_of word) ≡ true → length word ≤ 9
switch_short word h = chosen_short word (codes "on") _ _ 9 (omega arith) (chosen_short word (codes "off") _ None 9 (omega arith) (λ none. cc none)) h

pub verb_short : (word : List ℕ) → is_some (verb_of word) ≡ true → length word ≤ 9
verb_short word h =
    chosen_short word (codes "add") _ _ 9 (omega arith) (chosen_short word (codes "delete") _ _ 9 (omega arith) (chosen_short word (codes "change") _ _ 9 (omega arith) (chosen_short word (codes "get") _ _ 9 (omega arith) (chosen_short word (codes "lock") _ None 9 (omega arith) (λ none. cc none))))) h

protocol_number_short : (word : List ℕ) → is_some (protocol_number_of word) ≡ true → length word ≤ 10
protocol_number_short word h =
    let (protocol, is) = some_is (protocol_number_of word) h in
    let (n, small, _) = bind_some (number_to 255 word) _ protocol is in
    number_few 255 word n small

pub protocol_short : (word : List ℕ) → is_some (protocol_of word) ≡ true → length word ≤ 10
protocol_short word h = chosen_short word (codes "any") 0 (protocol_number_of word) 10 (omega arith) (protocol_number_short word) h

pub bits_short : (word : List ℕ) → is_some (hex_number_of word) ≡ true → length word ≤ 8
bits_short word h =
    let (fits, _) = guarded (nat_le 1 (length word) && nat_le (length word) 8) _ h in
    leb-true (length word) 8 (and_parts (nat_le 1 (length word)) (nat_le (length word) 8) fits).1

pub room_short : (word : List ℕ) → (bytes_eq word (codes "ask") || is_some (number_to 4294967295 word)) ≡ true → length word ≤ 10
room_short word h =
    elim (bytes_eq word (codes "ask")) as (λ (t : Bool). bytes_eq word (codes "ask") ≡ t → (t || is_some (number_to 4294967295 word)) ≡ true → length word ≤ 10) [
      | true ↦ λ is _. subst (λ w. length w ≤ 10) (sym ((bytes_eq-Decides word (codes "ask")).0 is)) (omega arith)
      | false ↦ λ _ number. number_short 4294967295 word number
    ] refl h
