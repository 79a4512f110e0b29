-- A name is the list of its bytes; the code keeps them at the front of an array.
use Rattle.std.specs.Prelude.{◌≡◌, ℕ, ◌≤◌, List, length, take}
use Rattle.std.proofs.Common.{◌∙◌, ap}
use Rattle.sock_addrs.specs.Padded.{IsPadded, padded_to, length-front, padded_to-front}
use Rattle.sock_addrs.specs.declared.name.Name.TheInside.{Inside}

-- a name's fields are those that its text gives
pub name_again : (n : Inside) → (1 ≤ n.len) × IsPadded 8 n.len n.bytes
    → record { len = length (take n.len n.bytes); bytes = padded_to 8 (take n.len n.bytes) } ≡ n
name_again n h =
    let make : ℕ → List ℕ → Inside = λ len bytes. record { len = len; bytes = bytes } in
    ap (λ (len : ℕ). make len (padded_to 8 (take n.len n.bytes))) (length-front 8 n.len n.bytes h.1)
    ∙ ap (λ (bytes : List ℕ). make n.len bytes) (padded_to-front 8 n.len n.bytes h.1)
