-- What a table ends as, once a value that it lent has been given back.
use Rattle.std.specs.Prelude.{ℕ, ◌+◌, Option}
use Rattle.std.specs.Borrow.{Fml, RattleType, MutBor, LendsIf}
use Rattle.radix_tree.specs.Table.{Contents, with_entry}
use Rattle.radix_tree.specs.contracts.routes.Table.{the_row as table_row}

-- a table with this value at this pair
abbrev pub with_value_at : {V : Type 0} → ℕ → ℕ → Contents V → V → Contents V
with_value_at key rank t value =
    record t { entries = with_entry (record { key = key; rank = rank; value = value }) t.entries }

-- a table with this value at this pair, and in its next turn
abbrev pub with_value : {V : Type 0} → ℕ → ℕ → Contents V → V → Contents V
with_value key rank t value = record t {
  entries = with_entry (record { key = key; rank = rank; value = value }) t.entries;
  turn = t.turn + 1;
}

module _ (V : RattleType) where
  -- the table ends with the last value behind r at this pair, and in each case its turn has risen by one
  abbrev pub lends_value : ℕ → ℕ → MutBor (Contents V.Denot) → Option (MutBor V.Denot) → Fml
  lends_value key rank table r =
      LendsIf (table_row V) V table r (with_value key rank table.now) (record table.now { turn = table.now.turn + 1 })

  -- the same, and in no case a turn began
  abbrev pub lends_value_at : ℕ → ℕ → MutBor (Contents V.Denot) → Option (MutBor V.Denot) → Fml
  lends_value_at key rank table r =
      LendsIf (table_row V) V table r (with_value_at key rank table.now) table.now
