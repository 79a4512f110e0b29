-- What a word of a script says: a name, a number, bytes, an address or a choice, and None where it is no such word.
use Rattle.std.specs.Prelude.{ℕ, ◌-◌, ◌/◌, ◌==◌, ◌&&◌, ◌||◌, nat_le, Bool, true, false, if◌then◌else◌, List, [], ◌∷◌, ◌++◌, length, replicate, slice_index, codes, bytes_eq, decimal, Option, Some, None, option_map, Result, Ok, Err}
use Rattle.std.specs.Char.{is_ascii_lowercase, is_ascii_digit}
use Rattle.std.specs.Int.{w32, from_be_bytes}
use Rattle.std.specs.List.{list_all, slice_split}
use Rattle.std.specs.Str.Parse.{digits_value}
use Rattle.hex.specs.Hex.{decode_of}
use Rattle.hex.specs.declared.error.FromHexError.{FromHexError}
use Rattle.if_addrs.specs.declared.kind.Kind.{Kind}
use Rattle.if_addrs.specs.declared.kind.Kind.TheVariants.{Broadcast, Loopback, PointToPoint}
use Rattle.sock_addrs.specs.declared.families.TheConstants.{AF_LINK}
use Rattle.sock_addrs.specs.declared.gate.Gate.{Gate}
use Rattle.sock_addrs.specs.declared.gate.Gate.TheVariants as gate

-- the second step, if the first gave a value
infixl 10 ◌>>=◌
abbrev pub ◌>>=◌ : {A B : Type 0} → Option A → (A → Option B) → Option B
Some x >>= f = f x
None >>= f = None

-- the parts of a text between the bytes of this value, empty ones among them
abbrev pub parted_by : ℕ → List ℕ → List (List ℕ)
parted_by byte text = slice_split (λ b. b == byte) text

-- `a` to `z` and `0` to `9`
abbrev pub is_name_byte : ℕ → Bool
is_name_byte b = is_ascii_lowercase b || is_ascii_digit b

-- 1 to 8 letters and digits
abbrev pub name_of : List ℕ → Option (List ℕ)
name_of word =
    if nat_le 1 (length word) && nat_le (length word) 8 && list_all is_name_byte word then Some word else None

-- a decimal up to this number, as it is printed: without leading zeros
abbrev pub number_to : ℕ → List ℕ → Option ℕ
number_to most word = let n = digits_value 10 word in
    if nat_le (length word) 10 && nat_le n most && bytes_eq word (decimal n) then Some n else None

-- what was decoded
abbrev pub decoded : Result (List ℕ) FromHexError → Option (List ℕ)
decoded (Ok bytes) = Some bytes
decoded (Err _) = None

-- pairs of hexadecimal digits, at least one and at most so many; `-` is no byte
abbrev pub bytes_to : ℕ → List ℕ → Option (List ℕ)
bytes_to most word = let pairs = length word / 2 in
    if bytes_eq word (codes "-") then Some []
    else if nat_le 1 pairs && nat_le pairs most then decoded (decode_of word)
    else None

-- the address of the four numbers between its dots
abbrev pub inet_of_parts : List (List ℕ) → Option ℕ
inet_of_parts (a ∷ b ∷ c ∷ d ∷ []) = do
  a ← number_to 255 a
  b ← number_to 255 b
  c ← number_to 255 c
  d ← number_to 255 d
  Some (from_be_bytes w32 (a ∷ b ∷ c ∷ d ∷ []))
inet_of_parts parts = None

-- an IPv4 address, as `10.0.0.1`
abbrev pub inet_of : List ℕ → Option ℕ
inet_of word = inet_of_parts (parted_by 46 word)

-- a number of 1 to 8 hexadecimal digits: the four bytes that they spell with zeros before them
abbrev pub hex_number_of : List ℕ → Option ℕ
hex_number_of word =
    if nat_le 1 (length word) && nat_le (length word) 8
    then option_map (from_be_bytes w32) (decoded (decode_of (replicate (8 - length word) 48 ++ word)))
    else None

-- the bytes of a link-layer address: 8 to 32 of them, the first their number and the second its family
abbrev pub is_link_sockaddr : List ℕ → Bool
is_link_sockaddr bytes =
    nat_le 8 (length bytes) && nat_le (length bytes) 32
    && slice_index bytes 0 == length bytes && slice_index bytes 1 == AF_LINK

abbrev pub link_of_bytes : List ℕ → Option (List ℕ)
link_of_bytes bytes = if is_link_sockaddr bytes then Some bytes else None

-- the link-layer address that a word spells in hexadecimal
abbrev pub link_of : List ℕ → Option (List ℕ)
link_of word = do
  bytes ← bytes_to 32 word
  link_of_bytes bytes

-- a gateway, by the parts around its colon: an IPv4 address, or `link:` and a link-layer address
abbrev pub gate_of_parts : List (List ℕ) → Option Gate
gate_of_parts (address ∷ []) = option_map gate.Inet (inet_of address)
gate_of_parts (kind ∷ digits ∷ []) =
    if bytes_eq kind (codes "link") then option_map gate.Link (link_of digits) else None
gate_of_parts parts = None

abbrev pub gate_of : List ℕ → Option Gate
gate_of word = gate_of_parts (parted_by 58 word)

-- the kind of an interface
abbrev pub interface_kind_of : List ℕ → Option Kind
interface_kind_of word =
    if bytes_eq word (codes "broadcast") then Some Broadcast
    else if bytes_eq word (codes "loopback") then Some Loopback
    else if bytes_eq word (codes "ptp") then Some PointToPoint
    else None

-- the number of a protocol, from 1 on
abbrev pub protocol_number_of : List ℕ → Option ℕ
protocol_number_of word = do
  number ← number_to 255 word
  if number == 0 then None else Some number

-- a protocol: `any`, which is 0, or a number
abbrev pub protocol_of : List ℕ → Option ℕ
protocol_of word = if bytes_eq word (codes "any") then Some 0 else protocol_number_of word

-- `on` or `off`
abbrev pub switch_of : List ℕ → Option Bool
switch_of word =
    if bytes_eq word (codes "on") then Some true
    else if bytes_eq word (codes "off") then Some false
    else None

-- ---- options, which are a name and the word behind it

-- the word behind an option's name, where the words begin with that
abbrev pub option_written : List ℕ → List (List ℕ) → Option (List ℕ)
option_written name (first ∷ word ∷ rest) = if bytes_eq first name then Some word else None
option_written name words = None

-- the words behind the option, or all of them where it isn't written
abbrev pub words_behind : List ℕ → List (List ℕ) → List (List ℕ)
words_behind name (first ∷ word ∷ rest) = if bytes_eq first name then rest else first ∷ word ∷ rest
words_behind name words = words

-- what an option's word says, where it is written
abbrev pub if_written : {T : Type 0} → (List ℕ → Option T) → Option (List ℕ) → Option (Option T)
if_written read None = Some None
if_written read (Some word) = option_map Some (read word)
