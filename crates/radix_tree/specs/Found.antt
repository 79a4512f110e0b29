-- What a look-up answers, as the entry that it is.
use Rattle.std.specs.Prelude.{ℕ}
use Rattle.std.specs.Borrow.{Bor, MutBor}
use Rattle.radix_tree.specs.declared.entry.Entry.{Entry}

-- a value that was found at this pair
abbrev pub valued : {V : Type 0} → ℕ → ℕ → Bor V → Entry V
valued key rank v = record { key = key; rank = rank; value = v.now }

-- a rank and a value that were found at this key
abbrev pub keyed : {V : Type 0} → ℕ → ℕ × Bor V → Entry V
keyed key r = valued key r.0 r.1

-- a key, a rank and a value
abbrev pub routed : {V : Type 0} → ℕ × ℕ × Bor V → Entry V
routed r = valued r.0 r.1 r.2

-- a value that was lent at this pair, to be changed
abbrev pub lent : {V : Type 0} → ℕ → ℕ → MutBor V → Entry V
lent key rank v = record { key = key; rank = rank; value = v.now }
