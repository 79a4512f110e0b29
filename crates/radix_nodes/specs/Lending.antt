-- What the blocks are once a `&mut` to one of their values has ended.
use Rattle.std.specs.Prelude.{ℕ}
use Rattle.std.specs.Borrow.{Fml, RattleType, MutBor, Lends}
use Rattle.std.specs.FinMap.{insert}
use denote.RawPtr.{Ptr}
use Rattle.radix_nodes.specs.declared.blocks.Blocks.{Blocks}
use Rattle.radix_nodes.specs.contracts.blocks.Blocks.{the_row}

-- the same blocks with w as the value of one
abbrev pub with_value : {T : Type 0} → Blocks T → ℕ → Ptr → T → Blocks T
with_value b n p w = record { mark = b.mark; cells = insert b.cells n (p, w) }

abbrev pub lends_block : (R : RattleType) → MutBor (Blocks R.Denot) → ℕ → Ptr → MutBor R.Denot → Fml
lends_block R b n p r = Lends (the_row R) R b r (with_value b.now n p)
