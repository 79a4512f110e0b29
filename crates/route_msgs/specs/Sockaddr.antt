-- An address in a message is the list of its bytes, padding included; the code keeps them at the front of an array.
use Rattle.std.specs.Prelude.{◌≡◌, ℕ, ◌≤◌, List, length, take, slice_index}
use Rattle.std.proofs.Common.{◌∙◌, ap}
use Rattle.sock_addrs.specs.Padded.{IsPadded, padded_to, length-front, padded_to-front}
use Rattle.sock_addrs.specs.Rounding.{rounded}
use Rattle.route_msgs.specs.declared.sockaddr.Sockaddr.TheInside.{Inside}

-- an address's bytes with their padding: as many as its length byte takes in a message, and at most 32
pub record IsSockaddr (sockaddr : List ℕ) : Type 0 where
  pub whole : length sockaddr ≡ rounded (slice_index sockaddr 0)
  pub most : length sockaddr ≤ 32

-- a text's fields are those that its bytes give
pub sockaddr_again : (t : Inside) → IsPadded 32 t.len t.bytes
    → record { len = length (take t.len t.bytes); bytes = padded_to 32 (take t.len t.bytes) } ≡ t
sockaddr_again t h =
    let make : ℕ → List ℕ → Inside = λ len bytes. record { len = len; bytes = bytes } in
    ap (λ (len : ℕ). make len (padded_to 32 (take t.len t.bytes))) (length-front 32 t.len t.bytes h)
    ∙ ap (λ (bytes : List ℕ). make t.len bytes) (padded_to-front 32 t.len t.bytes h)
