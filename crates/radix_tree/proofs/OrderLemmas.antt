-- Table order, and where an entry stands beside a pair in it.
use Rattle.radix_tree.proofs.Words.{◌≡◌, ℕ, Bool, true, false, ◌&&◌, ◌||◌, nat_lt, nat_eq, IsTrue, arith, cases_lt, precedes, has_pair, AreOnePair}
use Rattle.radix_tree.proofs.Words.{PrecedesInWords, PrecedesOneWay, PrecedesTransitively, Entry}

-- the entry precedes, in table order, those that have this pair
abbrev pub stands_before : {V : Type 0} → ℕ → ℕ → Entry V → Bool
stands_before key rank e = nat_lt e.key key || (nat_eq e.key key && nat_lt rank e.rank)

-- the entry is preceded by those that have this pair
abbrev pub stands_behind : {V : Type 0} → ℕ → ℕ → Entry V → Bool
stands_behind key rank e = nat_lt key e.key || (nat_eq key e.key && nat_lt e.rank rank)

-- the three places that an entry can have beside a pair
pub data Beside {V : Type 0} (key rank : ℕ) (e : Entry V) : Type 0 where
  before : stands_before key rank e ≡ true → stands_behind key rank e ≡ false → has_pair key rank e ≡ false → Beside key rank e
  here : stands_before key rank e ≡ false → stands_behind key rank e ≡ false → has_pair key rank e ≡ true → Beside key rank e
  behind : stands_before key rank e ≡ false → stands_behind key rank e ≡ true → has_pair key rank e ≡ false → Beside key rank e

pub beside : {V : Type 0} (key rank : ℕ) (e : Entry V) → Beside key rank e
beside key rank e = search (arith, cases_lt)

-- an entry with a pair has its key and its rank
pub pair_is : {V : Type 0} (key rank : ℕ) (e : Entry V) → has_pair key rank e ≡ true → AreOnePair e.key e.rank key rank
pair_is key rank e h = grind arith

pub is_pair : {V : Type 0} (key rank : ℕ) (e : Entry V) → AreOnePair e.key e.rank key rank → has_pair key rank e ≡ true
is_pair key rank e same = grind arith

pub own_pair : {V : Type 0} (e : Entry V) → has_pair e.key e.rank e ≡ true
own_pair e = grind arith

pub other_pair : {V : Type 0} (key rank : ℕ) (e : Entry V) → ¬ (AreOnePair e.key e.rank key rank) → has_pair key rank e ≡ false
other_pair key rank e other = grind arith

pub not_pair : {V : Type 0} (key rank : ℕ) (e : Entry V) → has_pair key rank e ≡ false → ¬ (AreOnePair e.key e.rank key rank)
not_pair key rank e h = grind arith

-- behind an entry that doesn't stand before a pair, all stand behind the pair
pub behind_next : {V : Type 0} (key rank : ℕ) (e f : Entry V) → stands_before key rank e ≡ false → IsTrue (precedes e f) → stands_behind key rank f ≡ true
behind_next key rank e f h k = grind arith

-- what stands behind a pair doesn't stand before it
pub behind_not_before : {V : Type 0} (key rank : ℕ) (e : Entry V) → stands_behind key rank e ≡ true → stands_before key rank e ≡ false
behind_not_before key rank e h = grind arith

pub behind_not_pair : {V : Type 0} (key rank : ℕ) (e : Entry V) → stands_behind key rank e ≡ true → has_pair key rank e ≡ false
behind_not_pair key rank e h = grind arith

-- the laws of table order
pub precedes_in_words : {V : Type 0} → PrecedesInWords V
precedes_in_words e f = (grind arith, grind arith)

pub precedes_one_way : {V : Type 0} → PrecedesOneWay V
precedes_one_way e f h = grind arith

pub precedes_transitively : {V : Type 0} → PrecedesTransitively V
precedes_transitively e f g h k = grind arith
