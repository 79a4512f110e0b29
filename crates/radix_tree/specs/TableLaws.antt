-- What follows from the definitions of table order, of a table and its members, of its best routes, and of a table with
-- or without an entry.
use Rattle.std.specs.Prelude.{◌≡◌, ℕ, ◌+◌, ◌<◌, ◌≤◌, ◌⊎◌, ◌↔◌, true, false, if◌then◌else◌, IsTrue, List, length, Some, None, is_some, Contains}
use Rattle.mask_table.specs.Agreeing.{agrees}
use Rattle.radix_tree.specs.Table.{precedes, IsRoute, IsTable, entry_at, first_of, without, with_entry, greater, best_of}
use Rattle.radix_tree.specs.declared.entry.Entry.{Entry}

-- both are one pair of a key and a rank
abbrev pub AreOnePair : ℕ → ℕ → ℕ → ℕ → Type 0
AreOnePair key rank other_key other_rank = (key ≡ other_key) × (rank ≡ other_rank)

-- the entry stands in the table
abbrev pub StandsIn : {V : Type 0} → List (Entry V) → Entry V → Type 0
StandsIn entries e = entry_at e.key e.rank entries ≡ Some e

-- the address agrees with the entry
abbrev pub Agrees : {V : Type 0} → ℕ → Entry V → Type 0
Agrees address e = agrees e.rank e.key address ≡ true

-- table order in words: keys rise, and for one key ranks fall
abbrev pub PrecedesInWords : (V : Type 0) → Type 0
PrecedesInWords V = (e f : Entry V) → IsTrue (precedes e f) ↔ ((e.key < f.key) ⊎ ((e.key ≡ f.key) × (f.rank < e.rank)))

-- no entry precedes one that precedes it
abbrev pub PrecedesOneWay : (V : Type 0) → Type 0
PrecedesOneWay V = (e f : Entry V) → IsTrue (precedes e f) → precedes f e ≡ false

-- what precedes an entry precedes what that one precedes
abbrev pub PrecedesTransitively : (V : Type 0) → Type 0
PrecedesTransitively V = (e f g : Entry V) → IsTrue (precedes e f) → IsTrue (precedes f g) → IsTrue (precedes e g)

-- of two entries one precedes the other, or they have one pair
abbrev pub PrecedesOrSame : (V : Type 0) → Type 0
PrecedesOrSame V = (e f : Entry V)
    → IsTrue (precedes e f) ⊎ (IsTrue (precedes f e) ⊎ AreOnePair e.key e.rank f.key f.rank)

-- each member of a table is found by its pair: to stand in a table is to be one of its members
abbrev pub MembersStand : (V : Type 0) → Type 0
MembersStand V = (entries : List (Entry V)) (e : Entry V) → IsTable entries → StandsIn entries e ↔ Contains entries e

-- each member of a table is a route
abbrev pub MembersAreRoutes : (V : Type 0) → Type 0
MembersAreRoutes V = (entries : List (Entry V)) (e : Entry V) → IsTable entries → Contains entries e → IsRoute e

-- what is found at a pair is a member, and has the pair
abbrev pub EntryAtIsMember : (V : Type 0) → Type 0
EntryAtIsMember V = (key rank : ℕ) (entries : List (Entry V)) (e : Entry V) → entry_at key rank entries ≡ Some e
    → Contains entries e × AreOnePair e.key e.rank key rank

-- what is found first of a key is a member, and has the key
abbrev pub FirstOfIsMember : (V : Type 0) → Type 0
FirstOfIsMember V = (key : ℕ) (entries : List (Entry V)) (e : Entry V) → first_of key entries ≡ Some e
    → Contains entries e × (e.key ≡ key)

-- an address's best route is a member, and the address agrees with it
abbrev pub BestIsMember : (V : Type 0) → Type 0
BestIsMember V = (address : ℕ) (entries : List (Entry V)) (e : Entry V) → best_of address entries ≡ Some e
    → Contains entries e × Agrees address e

-- of a key the first member is the one of greatest rank
abbrev pub FirstIsGreatest : (V : Type 0) → Type 0
FirstIsGreatest V = (key : ℕ) (entries : List (Entry V)) (e other : Entry V) → IsTable entries
    → first_of key entries ≡ Some e → Contains entries other → other.key ≡ key → other.rank ≤ e.rank

-- the entry stands in the table and the address agrees with it, and with none of greater rank
pub record IsBest {V : Type 0} (address : ℕ) (entries : List (Entry V)) (e : Entry V) : Type 0 where
  pub stands : StandsIn entries e
  pub agrees : Agrees address e
  pub greatest : (other : Entry V) → StandsIn entries other → Agrees address other → other.rank ≤ e.rank

-- the best route of an address is one of greatest rank among those that it agrees with
abbrev pub BestIsGreatest : (V : Type 0) → Type 0
BestIsGreatest V = (address : ℕ) (entries : List (Entry V)) (e : Entry V) → IsTable entries
    → best_of address entries ≡ Some e → IsBest address entries e

-- it is the only one
abbrev pub BestIsUnique : (V : Type 0) → Type 0
BestIsUnique V = (address : ℕ) (entries : List (Entry V)) (e : Entry V) → IsTable entries → IsBest address entries e
    → best_of address entries ≡ Some e

-- where there is none, the address agrees with no entry
abbrev pub NoneAgrees : (V : Type 0) → Type 0
NoneAgrees V = (address : ℕ) (entries : List (Entry V)) (e : Entry V) → best_of address entries ≡ None
    → StandsIn entries e → agrees e.rank e.key address ≡ false

-- a table with an entry is a table
abbrev pub WithIsTable : (V : Type 0) → Type 0
WithIsTable V = (entries : List (Entry V)) (e : Entry V) → IsTable entries → IsRoute e → IsTable (with_entry e entries)

-- and so is one without a pair
abbrev pub WithoutIsTable : (V : Type 0) → Type 0
WithoutIsTable V = (entries : List (Entry V)) (key rank : ℕ) → IsTable entries → IsTable (without key rank entries)

-- an entry that was put in stands in the table
abbrev pub WithStands : (V : Type 0) → Type 0
WithStands V = (entries : List (Entry V)) (e : Entry V) → StandsIn (with_entry e entries) e

-- and at each other pair stands what stood there
abbrev pub WithKeepsOthers : (V : Type 0) → Type 0
WithKeepsOthers V = (key rank : ℕ) (entries : List (Entry V)) (e : Entry V) → ¬ (AreOnePair key rank e.key e.rank)
    → entry_at key rank (with_entry e entries) ≡ entry_at key rank entries

-- nothing stands at a pair that was taken out
abbrev pub WithoutLeavesNone : (V : Type 0) → Type 0
WithoutLeavesNone V = (key rank : ℕ) (entries : List (Entry V)) → entry_at key rank (without key rank entries) ≡ None

-- and at each other pair stands what stood there
abbrev pub WithoutKeepsOthers : (V : Type 0) → Type 0
WithoutKeepsOthers V = (key rank gone_key gone_rank : ℕ) (entries : List (Entry V))
    → ¬ (AreOnePair key rank gone_key gone_rank)
    → entry_at key rank (without gone_key gone_rank entries) ≡ entry_at key rank entries

-- each member of a table with an entry is that entry, or was a member and has another pair
abbrev pub MembersOfWith : (V : Type 0) → Type 0
MembersOfWith V = (entries : List (Entry V)) (e member : Entry V) → Contains (with_entry e entries) member
    → (member ≡ e) ⊎ (Contains entries member × ¬ (AreOnePair member.key member.rank e.key e.rank))

-- each member of a table without a pair was a member, and has another pair
abbrev pub MembersOfWithout : (V : Type 0) → Type 0
MembersOfWithout V = (key rank : ℕ) (entries : List (Entry V)) (member : Entry V)
    → Contains (without key rank entries) member
    → Contains entries member × ¬ (AreOnePair member.key member.rank key rank)

-- an entry that is put in is one more, unless its pair was there
abbrev pub WithCounts : (V : Type 0) → Type 0
WithCounts V = (entries : List (Entry V)) (e : Entry V) → IsTable entries
    → length (with_entry e entries) ≡ length entries + (if is_some (entry_at e.key e.rank entries) then 0 else 1)

-- and a pair that is taken out is one less, where it was there
abbrev pub WithoutCounts : (V : Type 0) → Type 0
WithoutCounts V = (key rank : ℕ) (entries : List (Entry V)) → IsTable entries
    → length entries ≡ length (without key rank entries) + (if is_some (entry_at key rank entries) then 1 else 0)

-- taking out again what was put in where its pair wasn't gives the table back
abbrev pub WithThenWithout : (V : Type 0) → Type 0
WithThenWithout V = (entries : List (Entry V)) (e : Entry V) → IsTable entries → entry_at e.key e.rank entries ≡ None
    → without e.key e.rank (with_entry e entries) ≡ entries

-- and so does putting in again what was taken out
abbrev pub WithoutThenWith : (V : Type 0) → Type 0
WithoutThenWith V = (entries : List (Entry V)) (e : Entry V) → IsTable entries → StandsIn entries e
    → with_entry e (without e.key e.rank entries) ≡ entries

-- of two entries with one pair the one that was put in last stays
abbrev pub WithTwiceIsLast : (V : Type 0) → Type 0
WithTwiceIsLast V = (entries : List (Entry V)) (e last : Entry V) → AreOnePair e.key e.rank last.key last.rank
    → with_entry last (with_entry e entries) ≡ with_entry last entries

-- an entry that an address doesn't agree with leaves its best route
abbrev pub BestStays : (V : Type 0) → Type 0
BestStays V = (address : ℕ) (entries : List (Entry V)) (e : Entry V) → IsTable entries
    → agrees e.rank e.key address ≡ false → best_of address (with_entry e entries) ≡ best_of address entries

-- one that it agrees with is its best route from then on, unless that was one of greater rank
abbrev pub BestIsGreater : (V : Type 0) → Type 0
BestIsGreater V = (address : ℕ) (entries : List (Entry V)) (e : Entry V) → IsTable entries → IsRoute e
    → Agrees address e → best_of address (with_entry e entries) ≡ greater e (best_of address entries)

-- a pair that is taken out leaves an address's best route, unless it was that
abbrev pub BestStaysWithout : (V : Type 0) → Type 0
BestStaysWithout V = (address key rank : ℕ) (entries : List (Entry V)) → IsTable entries
    → ((e : Entry V) → best_of address entries ≡ Some e → ¬ (AreOnePair e.key e.rank key rank))
    → best_of address (without key rank entries) ≡ best_of address entries
