-- An interface's link-layer address is the list of its bytes; the code keeps them at the front of an array.
use Rattle.std.specs.Prelude.{◌≡◌, ℕ, List, length, take}
use Rattle.std.proofs.Common.{◌∙◌, ap}
use Rattle.sock_addrs.specs.Padded.{IsPadded, padded_to, length-front, padded_to-front}
use Rattle.if_addrs.specs.declared.link_address.LinkAddress.TheInside.{Inside}

-- an address's fields are those that its bytes give
pub link_address_again : (a : Inside) → IsPadded 8 a.len a.octets
    → record { len = length (take a.len a.octets); octets = padded_to 8 (take a.len a.octets) } ≡ a
link_address_again a h =
    let make : ℕ → List ℕ → Inside = λ len octets. record { len = len; octets = octets } in
    ap (λ (len : ℕ). make len (padded_to 8 (take a.len a.octets))) (length-front 8 a.len a.octets h)
    ∙ ap (λ (octets : List ℕ). make a.len octets) (padded_to-front 8 a.len a.octets h)
