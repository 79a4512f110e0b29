-- What the searches find, in words, and what they don't.
use Rattle.std.specs.Prelude.{◌≡◌, ℕ, ◌<◌, ◌≤◌, ◌⊎◌, false, List, ◌∷◌, ◌++◌, Option, None, Some, IfSome}
use Rattle.std.specs.List.{AllByRecursion}
use Rattle.sock_addrs.specs.declared.gate.Gate.TheVariants as gate
use Rattle.mask_table.specs.Agreeing.{front}
use Rattle.if_addrs.specs.Interfaces.{Address, Interface, IsStanding, addresses_of, reference, without_addr}
use Rattle.if_addrs.specs.Numbered.{NumberedOnce}
use Rattle.if_addrs.specs.Searches.{addresses_on, of_interface, with_addr, with_far, with_net}
use Rattle.if_addrs.specs.declared.kind.Kind.TheVariants.{Broadcast, PointToPoint}
use Rattle.if_addrs.specs.declared.reference.IfaRef.{IfaRef}

-- an address was not removed
abbrev pub Stands : Address → Type 0
Stands a = a.removed ≡ false

-- it was not removed; and it is this one, or its interface is a broadcast interface and this is its broadcast address
abbrev pub AnswersTo : ℕ → Address → Type 0
AnswersTo address a = Stands a × ((a.address ≡ address) ⊎ ((a.kind ≡ Broadcast) × (a.far ≡ address)))

-- it was not removed, and its interface is a point-to-point interface with this address at the other end
abbrev pub LeadsTo : ℕ → Address → Type 0
LeadsTo address a = Stands a × (a.kind ≡ PointToPoint) × (a.far ≡ address)

-- it was not removed, and this address has its network's first bits
abbrev pub NetworkHolds : ℕ → Address → Type 0
NetworkHolds address a = Stands a × (front a.prefix a.address ≡ front a.prefix address)

-- it is the first of these for which P holds
pub record IsFirst (P : Address → Type 0) (all : List Address) (a : Address) : Type 0 where
  pub before : List Address
  pub behind : List Address
  pub stands : all ≡ before ++ a ∷ behind
  pub holds : P a
  pub none_before : AllByRecursion (λ b. ¬ (P b)) before

-- it is the first of those of the longest prefix for which P holds
pub record IsFirstLongest (P : Address → Type 0) (all : List Address) (a : Address) : Type 0 where
  pub before : List Address
  pub behind : List Address
  pub stands : all ≡ before ++ a ∷ behind
  pub holds : P a
  pub none_as_long_before : AllByRecursion (λ b. P b → b.prefix < a.prefix) before
  pub none_longer_behind : AllByRecursion (λ b. P b → b.prefix ≤ a.prefix) behind

-- what is found refers to such an address, or where none is found P holds of none
abbrev pub Finds : ((Address → Type 0) → List Address → Address → Type 0) → (Address → Type 0) → List Address
    → Option IfaRef → Type 0
Finds IsIt P all None = AllByRecursion (λ a. ¬ (P a)) all
Finds IsIt P all (Some i) = (a : Address) × (i ≡ reference a) × IsIt P all a

abbrev pub WithAddrInWords : Type 0
WithAddrInWords = (address : ℕ) (interfaces : List Interface)
    → Finds IsFirst (AnswersTo address) (addresses_of interfaces) (with_addr (gate.Inet address) interfaces)

abbrev pub WithFarInWords : Type 0
WithFarInWords = (address : ℕ) (interfaces : List Interface)
    → Finds IsFirst (LeadsTo address) (addresses_of interfaces) (with_far (gate.Inet address) interfaces)

abbrev pub WithNetInWords : Type 0
WithNetInWords = (address : ℕ) (interfaces : List Interface)
    → Finds IsFirstLongest (NetworkHolds address) (addresses_of interfaces) (with_net (gate.Inet address) interfaces)

-- of none of these that stand the network holds this address
abbrev pub NoneHolds : ℕ → List Address → Type 0
NoneHolds address addresses = AllByRecursion (λ a. ¬ (NetworkHolds address a)) addresses

-- on one interface the first address whose network holds this one, or where there is none the first that stands
abbrev pub OfInterfaceInWords : Type 0
OfInterfaceInWords = (address index : ℕ) (interfaces : List Interface) →
    let on = addresses_on index interfaces in
    let found = of_interface (gate.Inet address) index interfaces in
    (NoneHolds address on → Finds IsFirst Stands on found)
    × (¬ (NoneHolds address on) → Finds IsFirst (NetworkHolds address) on found)

-- whatever address is found stands
abbrev pub FoundStands : Type 0
FoundStands = (address index : ℕ) (interfaces : List Interface) → NumberedOnce interfaces
    → IfSome (with_addr (gate.Inet address) interfaces) (λ i. IsStanding i interfaces)
    × IfSome (with_far (gate.Inet address) interfaces) (λ i. IsStanding i interfaces)
    × IfSome (with_net (gate.Inet address) interfaces) (λ i. IsStanding i interfaces)
    × IfSome (of_interface (gate.Inet address) index interfaces) (λ i. IsStanding i interfaces)

-- an address that was removed doesn't
abbrev pub RemovedStandsNot : Type 0
RemovedStandsNot = (i : IfaRef) (interfaces : List Interface) → ¬ (IsStanding i (without_addr i interfaces))
