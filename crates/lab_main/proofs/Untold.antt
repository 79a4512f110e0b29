-- What is left of what was read where there is no memory for a line.
use Rattle.std.proofs.Common.{◌≡◌, ◌⊎◌, ◌+◌, ◌≤◌, ℕ, List, [], ◌++◌, Option, length, refl, sym, subst, append_assoc, append-nil, inl, inr, arith}
use Rattle.std.specs.Io.KnownBytes.{Consumes}
use Rattle.std.proofs.KnownBytes.{Consumes-nil, Consumes-trans}
use Rattle.line_reader.specs.Given.{Needed, Parted}
use Rattle.line_reader.specs.declared.reader.TheConstants.{READ_ROOM}
use Rattle.lab_main.specs.Ends.{AreAll, IsOneLine}
use Rattle.lab_main.specs.Telling.{State}

pub few_left : (behind : List ℕ) → length behind ≤ READ_ROOM → IsOneLine behind
few_left behind few = record { line = []; rest = behind; parts = refl; whole = refl; few = omega (arith, few) }

pub none_left : IsOneLine []
none_left = few_left [] (omega arith)

-- where no line is
pub all_left : (a b : Option (List ℕ)) (lines : List (List ℕ)) (last : State) (all : AreAll a b lines last) → IsOneLine all.0
all_left a b lines last all = elim all.2 [
  | inl over ↦ few_left all.0 over.1
  | inr none ↦ subst IsOneLine (sym none.0) none_left
]

-- more was read, and no more than a line of it is left
pub record Left (a b : Option (List ℕ)) (old : List ℕ) : Type 0 where
  pub read : List ℕ
  pub consumes : Consumes a b read
  pub one : IsOneLine (old ++ read)

-- with a line that was read to its end
pub Left-parted : {a b : Option (List ℕ)} {old line behind : List ℕ} → Parted a b old line behind → length behind ≤ READ_ROOM + 1 → Left a b old
Left-parted {line = line} {behind = behind} p few = record {
  read = p.read;
  consumes = p.consumes;
  one = record { line = line; rest = behind; parts = p.parts; whole = p.whole; few = few };
}

-- with one that wasn't
pub Left-needed : {a b : Option (List ℕ)} {old : List ℕ} → (b ≡ a) ⊎ Needed a b old → length old ≤ READ_ROOM → Left a b old
Left-needed {a} {b} {old} (inl same) few = record {
  read = [];
  consumes = subst (λ x. Consumes a x []) (sym same) (Consumes-nil a);
  one = subst IsOneLine (sym (append-nil old)) (few_left old few);
}
Left-needed {a} {b} {old} (inr p) few = record {
  read = p.early ++ p.last;
  consumes = Consumes-trans a p.mid b p.early p.last p.first p.then;
  one = record {
    line = old ++ p.early;
    rest = p.last;
    parts = sym (append_assoc old p.early p.last);
    whole = p.none;
    few = omega (arith, p.one_read);
  };
}
