-- The routing table as contracts see it: a list of entries in table order, and what is found in it. An address is a
-- number below 2^32; a rank is 0 to 32 for a mask of that many bits, or 33 for a route without a mask.
use Rattle.std.specs.Prelude.{◌≡◌, ℕ, ◌^◌, ◌<◌, ◌≤◌, Bool, not, ◌&&◌, ◌||◌, ◌==◌, nat_lt, if◌then◌else◌, IsTrue, List}
use Rattle.std.specs.Prelude.{[], ◌∷◌, ◌++◌, filter, find, count_by, Option, Some, None}
use Rattle.std.specs.List.{AllByRecursion}
use Rattle.mask_table.specs.Agreeing.{agrees, masked}
use Rattle.radix_tree.specs.declared.entry.Entry.{Entry}

-- an entry's rank is one, and its key is an address that has no bit past it
pub record IsRoute {V : Type 0} (e : Entry V) : Type 0 where
  pub rank : e.rank ≤ 33
  pub address : e.key < 2 ^ 32
  pub key : masked e.rank e.key ≡ e.key

-- table order: a smaller key comes first, and of one key the greater rank
abbrev pub precedes : {V : Type 0} → Entry V → Entry V → Bool
precedes e f = nat_lt e.key f.key || ((e.key == f.key) && nat_lt f.rank e.rank)

-- a table: routes, each of which precedes all those behind it, and so no pair twice
abbrev pub IsTable : {V : Type 0} → List (Entry V) → Type 0
IsTable [] = Unit {0}
IsTable (e ∷ es) = IsRoute e × AllByRecursion (λ f. IsTrue (precedes e f)) es × IsTable es

-- the entry has this pair of a key and a rank
abbrev pub has_pair : {V : Type 0} → ℕ → ℕ → Entry V → Bool
has_pair key rank e = (e.key == key) && (e.rank == rank)

-- the member with this pair
abbrev pub entry_at : {V : Type 0} → ℕ → ℕ → List (Entry V) → Option (Entry V)
entry_at key rank entries = find (has_pair key rank) entries

-- the first member with this key
abbrev pub first_of : {V : Type 0} → ℕ → List (Entry V) → Option (Entry V)
first_of key entries = find (λ e. e.key == key) entries

-- the table without this pair
abbrev pub without : {V : Type 0} → ℕ → ℕ → List (Entry V) → List (Entry V)
without key rank entries = filter (λ e. not (has_pair key rank e)) entries

-- the table with this entry, between the members that precede it and those that it precedes, and so without what had
-- its pair before
abbrev pub with_entry : {V : Type 0} → Entry V → List (Entry V) → List (Entry V)
with_entry e entries = filter (λ x. precedes x e) entries ++ e ∷ filter (λ x. precedes e x) entries

-- the members that the address agrees with
abbrev pub agreeing : {V : Type 0} → ℕ → List (Entry V) → List (Entry V)
agreeing address entries = filter (λ e. agrees e.rank e.key address) entries

-- of two entries the one of greater rank, the first where they are of one rank
abbrev pub greater : {V : Type 0} → Entry V → Option (Entry V) → Option (Entry V)
greater e None = Some e
greater e (Some f) = if nat_lt e.rank f.rank then Some f else Some e

-- the entry of greatest rank
abbrev pub greatest : {V : Type 0} → List (Entry V) → Option (Entry V)
greatest [] = None
greatest (e ∷ es) = greater e (greatest es)

-- the route of an address: the entry of greatest rank among those that it agrees with
abbrev pub best_of : {V : Type 0} → ℕ → List (Entry V) → Option (Entry V)
best_of address entries = greatest (agreeing address entries)

-- a table's value: its entries, and for conditions alone the numbers of the rooms in which they stand, the number of
-- the next room, and the turn, which a counter of visits has to be of
pub record Contents (V : Type 0) : Type 0 where
  pub entries : List (Entry V)
  pub numbers : List ℕ
  pub next : ℕ
  pub turn : ℕ

-- how often a room's number is among these: once where a route stands in it, and else never
abbrev pub uses : ℕ → List ℕ → ℕ
uses n numbers = count_by (λ k. k == n) numbers

-- a walk's value: the entries that it has not given yet, and the turn of its table
pub record Ahead (V : Type 0) : Type 0 where
  pub rest : List (Entry V)
  pub turn : ℕ
