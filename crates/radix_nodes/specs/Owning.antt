-- What the blocks own, and what a `&` to them lends: each block's value, by the entries of a map from a room's number.
use Rattle.std.specs.Prelude.{ℕ, List, [], ◌∷◌}
use base.Fml.{Lft, Fml, ftrue, fsep}
use denote.RattleType.{RattleType}
use denote.Sharing.{nothing, beside}
use denote.RawPtr.{Ptr}
use denote.Struct.Lending.{lent_at}
use Rattle.radix_nodes.specs.Chunk.{chunk}
use Rattle.std_alloc.specs.Box.Ownership.{box_owns}

module _ (R : RattleType) where
  -- the value x at p, and the right to free its block
  abbrev pub one_owns : Ptr → R.Denot → Fml
  one_owns p x = box_owns (λ τ q. chunk τ q) R p x

  abbrev pub all_own : List (ℕ × (Ptr × R.Denot)) → Fml
  all_own [] = ftrue
  all_own (e ∷ es) = fsep (one_owns e.1.0 e.1.1) (all_own es)

  abbrev pub all_lent : List (ℕ × (Ptr × R.Denot)) → Lft → Fml
  all_lent [] = nothing
  all_lent (e ∷ es) = beside (lent_at R e.1.0 e.1.1) (all_lent es)
