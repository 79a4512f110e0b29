use Rattle.std.proofs.Common.{◌≡◌, ◌∙◌, ◌++◌, ◌-◌, ℕ, List, length, drop, replicate, sym, ap}
use Rattle.std.proofs.lemmas.List.{drop-replicate}
use Rattle.sock_addrs.specs.Padded.{padded_to}
use Rattle.sock_addrs.specs.declared.gate.Gate.{Gate}
use Rattle.hoiskend.specs.Sessions.{link_of}
use Rattle.hoiskend.proofs.route.link_of.Goals as goal

pub returns-in-Link-clause-bytes : goal.returns-in-Link-clause-bytes
returns-in-Link-clause-bytes c =
    let bytes = c.as_bytes-bytes.result.now in
    let copied = c.copy_from_slice.new.self in
    let zeros : drop (length bytes) (replicate 32 0) ≡ replicate (32 - length bytes) 0 = drop-replicate {X = ℕ} (length bytes) 32 0 in
    let all : copied ++ drop (length bytes) (replicate 32 0) ≡ padded_to 32 bytes =
    ap (λ (z : List ℕ). copied ++ z) zeros ∙ ap (λ (l : List ℕ). l ++ replicate (32 - length bytes) 0) c.copy_from_slice.ensures.after in
    all ∙ ap (λ (l : List ℕ). padded_to 32 l) c.as_bytes-bytes.ensures.bytes ∙ ap (λ (g : Gate). padded_to 32 (link_of g)) (sym c.in-Link.is)
