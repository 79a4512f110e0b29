-- Texts one after another, with zeros behind them.
use Rattle.std.proofs.Common.{◌≡◌, ℕ, ◌-◌, ◌≤◌, List, [], ◌++◌, length, take, replicate, ap, ◌∙◌}
use Rattle.std.proofs.lemmas.List.{take-replicate}
use Rattle.sock_addrs.specs.Padded.{padded_to}

pub joined_is : (size room zeros : ℕ) (none one two three all head name link : List ℕ)
    → none ≡ [] → one ≡ none ++ head → two ≡ one ++ name → three ≡ two ++ link
    → all ≡ three ++ take zeros (replicate room 0)
    → zeros ≤ room
    → zeros ≡ size - length three
    → all ≡ padded_to size (head ++ name ++ link)
joined_is size room zeros none one two three all head name link h0 h1 h2 h3 h4 few is =
    let texts = h3 ∙ ap (λ (t : List ℕ). t ++ link) (h2 ∙ ap (λ (t : List ℕ). t ++ name) (h1 ∙ ap (λ (t : List ℕ). t ++ head) h0)) in
    h4 ∙ ap (λ (r : List ℕ). three ++ r) (take-replicate {X = ℕ} zeros room 0 few)
    ∙ ap (λ (k : ℕ). three ++ replicate {A = ℕ} k 0) is
    ∙ ap (λ (t : List ℕ). t ++ replicate {A = ℕ} (size - length t) 0) texts
