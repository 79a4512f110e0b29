-- What a word that was read says is within the bounds of the grammar.
use Rattle.std.proofs.Common.{◌≡◌, ◌<◌, ◌≤◌, ◌-◌, ◌*◌, ◌/◌, ◌^◌, ◌&&◌, ℕ, Bool, true, false, cond, List, [], ◌∷◌, ◌++◌, length, replicate, refl, subst, arith, nat_le, codes, bytes_eq, length-append, Option, Some, None, Result, Ok, Err}
use Rattle.std.specs.Prelude.{◌==◌, option_map}
use Rattle.std.specs.Option.{IfSome}
use Rattle.std.specs.Int.{w32, from_be_bytes}
use Rattle.std.specs.Str.Parse.{digits_value}
use Rattle.std.proofs.lemmas.Bool.{and_parts, leb-true}
use Rattle.std.proofs.lemmas.List.{length-replicate}
use Rattle.std.proofs.lemmas.Option.{cond_some}
use Rattle.hex.specs.Hex.{IsBytes, decode_of}
use Rattle.hex.specs.declared.error.FromHexError.{FromHexError}
use Rattle.hex.proofs.HexLemmas.{decode_of-ok}
use Rattle.event_file.specs.Grammar.{inet_if_written}
use Rattle.event_file.specs.Printed.{IsName}
use Rattle.event_file.specs.Words.{◌>>=◌, bytes_to, decoded, hex_number_of, if_written, inet_of, inet_of_parts, name_of, number_to, parted_by, protocol_number_of, protocol_of}

-- the value that the second step had
pub bind_some : {A B : Type 0} (o : Option A) (f : A → Option B) (y : B) → (o >>= f) ≡ Some y → (x : A) × (o ≡ Some x) × (f x ≡ Some y)
bind_some (Some x) f y h = (x, refl, h)
bind_some None f y h = cc h

pub inside : {A : Type 0} (x y : A) → Some x ≡ Some y → x ≡ y
inside x y h = cc h

-- what was read before it was changed
pub mapped_some : {A B : Type 0} (f : A → B) (o : Option A) (y : B) → option_map f o ≡ Some y → (x : A) × (o ≡ Some x) × (f x ≡ y)
mapped_some f (Some x) y h = (x, refl, inside (f x) y h)
mapped_some f None y h = cc h

-- what a test lets through
pub passed : {A : Type 0} (test : Bool) (x : A) (P : A → Type 0) (y : A) → cond test (Some x) None ≡ Some y → P x → P y
passed test x P y h p = subst P (cond_some test x y h).1 p

-- what was read of an option's word, where it is written
pub written_some : {T : Type 0} (read : List ℕ → Option T) (P : T → Type 0) → ((word : List ℕ) (x : T) → read word ≡ Some x → P x)
    → (word : Option (List ℕ)) (said : Option T) → if_written read word ≡ Some said → IfSome said P
written_some read P each None said h = subst (λ o. IfSome o P) (inside None said h) tt
written_some read P each (Some word) said h =
    let (x, is, same) = mapped_some Some (read word) said h in
    subst (λ o. IfSome o P) same (each word x is)

-- ---- words

pub name_of-Some : (word name : List ℕ) → name_of word ≡ Some name → IsName name
name_of-Some word name h =
    let (tests, same) = cond_some _ word name h in
    let (lengths, all) = and_parts _ _ tests in
    let (some, short) = and_parts _ _ lengths in
    subst IsName same (leb-true _ _ some, leb-true _ _ short, all)

pub number_to-Some : (most : ℕ) (word : List ℕ) (n : ℕ) → number_to most word ≡ Some n → n ≤ most
number_to-Some most word n h =
    let (tests, same) = cond_some _ (digits_value 10 word) n h in
    let (bounds, _) = and_parts _ _ tests in
    let (_, fits) = and_parts _ _ bounds in
    subst (λ k. k ≤ most) same (leb-true _ _ fits)

decoded-Some : (r : Result (List ℕ) FromHexError) (bytes : List ℕ) → decoded r ≡ Some bytes → r ≡ Ok bytes
decoded-Some (Ok read) bytes h = cc h
decoded-Some (Err e) bytes h = cc h

-- there are as many bytes as there may be, and they have two digits each
pub record AreRead (most : ℕ) (word bytes : List ℕ) : Type 0 where
  pub fit : length bytes ≤ most
  pub digits : 2 * length bytes ≤ length word
  pub are : IsBytes bytes

none_read : (most : ℕ) (word bytes : List ℕ) → [] ≡ bytes → AreRead most word bytes
none_read most word bytes e = subst (AreRead most word) e (record { fit = omega arith; digits = omega arith; are = λ i. omega arith })

some_read : (most : ℕ) (word bytes : List ℕ) → length word / 2 ≤ most → decoded (decode_of word) ≡ Some bytes → AreRead most word bytes
some_read most word bytes room h =
    let ok = decode_of-ok word bytes (decoded-Some (decode_of word) bytes h) in
    record { fit = omega (arith, ok.2); digits = omega (arith, ok.2); are = ok.3 }

bytes_to-cases : (most : ℕ) (word bytes : List ℕ) (none fits : Bool) → (fits ≡ true → length word / 2 ≤ most) → cond none (Some []) (cond fits (decoded (decode_of word)) None) ≡ Some bytes → AreRead most word bytes
bytes_to-cases most word bytes true fits room h = none_read most word bytes (cc h)
bytes_to-cases most word bytes false true room h = some_read most word bytes (room refl) h
bytes_to-cases most word bytes false false room h = cc h

pub bytes_to-Some : (most : ℕ) (word bytes : List ℕ) → bytes_to most word ≡ Some bytes → AreRead most word bytes
bytes_to-Some most word bytes h = bytes_to-cases most word bytes _ (nat_le 1 (length word / 2) && nat_le (length word / 2) most) (λ e. leb-true _ _ (and_parts _ _ e).1) h

pub inet_of_parts-Some : (parts : List (List ℕ)) (address : ℕ) → inet_of_parts parts ≡ Some address → address < 2 ^ 32
inet_of_parts-Some (p ∷ q ∷ r ∷ s ∷ []) address h =
    let (a, ea, ha) = bind_some (number_to 255 p) _ address h in
    let (b, eb, hb) = bind_some (number_to 255 q) _ address ha in
    let (c, ec, hc) = bind_some (number_to 255 r) _ address hb in
    let (d, ed, hd) = bind_some (number_to 255 s) _ address hc in
    let same : from_be_bytes w32 (a ∷ b ∷ c ∷ d ∷ []) ≡ address = cc hd in
    omega (arith, same, number_to-Some 255 p a ea, number_to-Some 255 q b eb, number_to-Some 255 r c ec, number_to-Some 255 s d ed)
inet_of_parts-Some parts address h = cc h

pub inet_of-Some : (word : List ℕ) (address : ℕ) → inet_of word ≡ Some address → address < 2 ^ 32
inet_of-Some word address h = inet_of_parts-Some (parted_by 46 word) address h

pub inet_if_written-Some : (word : Option (List ℕ)) (far : Option ℕ) → inet_if_written word ≡ Some far → IfSome far (λ a. a < 2 ^ 32)
inet_if_written-Some word far h = written_some inet_of (λ a. a < 2 ^ 32) inet_of-Some word far h

four_bytes-small : (bytes : List ℕ) → length bytes ≡ 4 → IsBytes bytes → from_be_bytes w32 bytes < 2 ^ 32
four_bytes-small (a ∷ b ∷ c ∷ d ∷ []) four are = omega (arith, are 0, are 1, are 2, are 3)
four_bytes-small bytes four are = absurd (omega (arith, four))

pub hex_number_of-Some : (word : List ℕ) (n : ℕ) → hex_number_of word ≡ Some n → n < 2 ^ 32
hex_number_of-Some word n h =
    let digits = replicate (8 - length word) 48 ++ word in
    elim (nat_le 1 (length word) && nat_le (length word) 8)
    as (λ (t : Bool). (nat_le 1 (length word) && nat_le (length word) 8) ≡ t → cond t (option_map (from_be_bytes w32) (decoded (decode_of digits))) None ≡ Some n → n < 2 ^ 32) [
      | true ↦ λ fits read.
          let few : length word ≤ 8 = leb-true (length word) 8 (and_parts (nat_le 1 (length word)) (nat_le (length word) 8) fits).1 in
          let (bytes, is, same) = mapped_some (from_be_bytes w32) (decoded (decode_of digits)) n read in
          let ok = decode_of-ok digits bytes (decoded-Some (decode_of digits) bytes is) in
          let eight : length digits ≡ 8 = omega (arith, few, length-append (replicate (8 - length word) 48) word, length-replicate {A = ℕ} (8 - length word) 48) in
          subst (λ k. k < 2 ^ 32) same (four_bytes-small bytes (omega (arith, ok.2, eight)) ok.3)
      | false ↦ λ _ none. cc none
    ] refl h

protocol_number_of-Some : (word : List ℕ) (protocol : ℕ) → protocol_number_of word ≡ Some protocol → protocol ≤ 255
protocol_number_of-Some word protocol h =
    let (n, small, said) = bind_some (number_to 255 word) _ protocol h in
    elim (n == 0) as (λ t. cond t None (Some n) ≡ Some protocol → protocol ≤ 255) [
      | true ↦ λ none. cc none
      | false ↦ λ same. subst (λ k. k ≤ 255) (inside n protocol same) (number_to-Some 255 word n small)
    ] said

pub protocol_of-Some : (word : List ℕ) (protocol : ℕ) → protocol_of word ≡ Some protocol → protocol ≤ 255
protocol_of-Some word protocol h =
    elim (bytes_eq word (codes "any")) as (λ t. cond t (Some 0) (protocol_number_of word) ≡ Some protocol → protocol ≤ 255) [
      | true ↦ λ any. subst (λ k. k ≤ 255) (inside 0 protocol any) (omega arith)
      | false ↦ λ number. protocol_number_of-Some word protocol number
    ] h
