-- A message that was written says its own length, whatever its other fields are.
use Rattle.std.proofs.Common.{◌≡◌, ℕ, ◌+◌, ◌<◌, ◌≤◌, ◌^◌, Bool, true, ◌&&◌, nat_le, List, [], ◌∷◌, ◌++◌, length, drop, replicate, refl, ◌∙◌, arith, lit≤, length-append}
use Rattle.std.proofs.lemmas.Bool.{leb-true}
use Rattle.std.proofs.lemmas.List.{length-replicate}
use Rattle.route_msgs.specs.Layout.{Field, field, number_at, with_field, with_fields}
use Rattle.route_msgs.specs.Headers.{ifa_fields, ifa_message, route_fields, route_message}
use Rattle.route_msgs.specs.AddrInfo.{addrs_of, address_bytes}
use Rattle.route_msgs.specs.declared.header.Header.{Header}
use Rattle.route_msgs.specs.declared.header.IfaHeader.{IfaHeader}
use Rattle.route_msgs.specs.declared.addr_info.AddrInfo.{AddrInfo}
use Rattle.route_msgs.proofs.FieldsRead.{both, is_apart, length-with_field, number_at-append, number_at-with_field, read_apart}

-- all of the fields lie among so many bytes, and apart from this place
abbrev are_apart : ℕ → ℕ → ℕ → List Field → Bool
are_apart n o w [] = true
are_apart n o w (f ∷ fs) = (nat_le (f.offset + f.width) n && is_apart o w f) && are_apart n o w fs

-- what such fields leave as it was
record Keeps (n o w : ℕ) (old new : List ℕ) : Type 0 where
  number : number_at o w new ≡ number_at o w old
  size : length new ≡ n

kept : (n o w : ℕ) (fs : List Field) (m : List ℕ) → length m ≡ n → are_apart n o w fs ≡ true → Keeps n o w m (with_fields fs m)
kept n o w [] m size h = record { number = refl; size = size }
kept n o w (f ∷ fs) m size h =
    let parts : ((nat_le (f.offset + f.width) n && is_apart o w f) ≡ true) × (are_apart n o w fs ≡ true) = both (nat_le (f.offset + f.width) n && is_apart o w f) (are_apart n o w fs) h in
    let here : (nat_le (f.offset + f.width) n ≡ true) × (is_apart o w f ≡ true) = both (nat_le (f.offset + f.width) n) (is_apart o w f) parts.0 in
    let fits : f.offset + f.width ≤ length m = rw size (leb-true (f.offset + f.width) n here.0) in
    let rest = kept n o w fs (with_field f m) (length-with_field f m fits ∙ size) parts.1 in
    record { number = rest.number ∙ read_apart o w f m fits here.1; size = rest.size }

-- it has this length, and its first field says so
pub record SaysLength (n : ℕ) (m : List ℕ) : Type 0 where
  pub size : length m ≡ n
  pub says : number_at 0 2 m ≡ n

-- a header whose first field is the length of the header and of what follows
headed : (head behind : List ℕ) (n : ℕ) → length head ≡ n → 2 ≤ n → number_at 0 2 head ≡ n + length behind → SaysLength (n + length behind) (head ++ behind)
headed head behind n size some says = record {
  size = omega (arith, length-append head behind, size);
  says = number_at-append 0 2 head behind (rw size some) ∙ says;
}

-- a message whose first field is its length, which its header's other fields leave as it is
first_says : (n : ℕ) (others : List Field) (behind : List ℕ) → 2 ≤ n → n + length behind ≤ 256 → are_apart n 0 2 others ≡ true
    → SaysLength (n + length behind) (with_fields (field 0 2 (n + length behind) ∷ others) (replicate n 0) ++ behind)
first_says n others behind some fits apart =
    let size = n + length behind in
    let first = field 0 2 size in
    let small : size < 256 ^ 2 = omega arith in
    let zeros : List ℕ = replicate n 0 in
    let all : length zeros ≡ n = length-replicate n _ in
    let room : 2 ≤ length zeros = rw all some in
    let rest = kept n 0 2 others (with_field first zeros) (length-with_field first zeros room ∙ all) apart in
    headed (with_fields (first ∷ others) zeros) behind n rest.size some (rest.number ∙ number_at-with_field first zeros room small)

pub route_says : (h : Header) (info : AddrInfo) → 76 + length (address_bytes info) ≤ 256 → SaysLength (76 + length (address_bytes info)) (route_message h info)
route_says h info fits = first_says 76 (drop 1 (route_fields (76 + length (address_bytes info)) (addrs_of info) h)) (address_bytes info) (lit≤ tt) fits refl

pub ifa_says : (h : IfaHeader) (info : AddrInfo) → 20 + length (address_bytes info) ≤ 256 → SaysLength (20 + length (address_bytes info)) (ifa_message h info)
ifa_says h info fits = first_says 20 (drop 1 (ifa_fields (20 + length (address_bytes info)) (addrs_of info) h)) (address_bytes info) (lit≤ tt) fits refl
