-- What the code keeps beside the addresses: the home of each by its number, and of each interface how many at the
-- front are gone.
use Rattle.std.specs.Prelude.{◌≡◌, ℕ, ◌+◌, ◌≤◌, List, [], length, Some, slice_get}
use Rattle.std.specs.List.{AllByRecursion, position, position_or_len}
use Rattle.std.specs.Option.{option_map_or}
use Rattle.if_addrs.specs.Interfaces.{Address, Interface, has_number, has_numbered}
use Rattle.if_addrs.specs.Numbered.{AreNumbered, uses}
use Rattle.if_addrs.specs.Told.{is_standing}
use Rattle.if_addrs.specs.declared.home.Home.{Home}
use Rattle.if_addrs.specs.declared.kind.Kind.{Kind}

-- the addresses of the interface at a place
abbrev pub addresses_at : ℕ → List Interface → List Address
addresses_at place interfaces = option_map_or (λ i. i.addresses) (slice_get interfaces place) []

-- here a search for the address with this number would end
pub record IsHome (number : ℕ) (home : Home) (interfaces : List Interface) : Type 0 where
  pub interface : position (has_numbered number) interfaces ≡ Some home.interface
  pub address : position (has_number number) (addresses_at home.interface interfaces) ≡ Some home.address

-- there is a home for each number from 1 on
pub record AreAtHome (homes : List Home) (interfaces : List Interface) : Type 0 where
  pub numbered : AreNumbered (length homes) interfaces
  pub none_before : uses 0 interfaces ≡ 0
  pub at_home : (k : ℕ) (home : Home) → slice_get homes k ≡ Some home → IsHome (k + 1) home interfaces

-- how many addresses that were removed come before the first that wasn't
abbrev pub gone_ahead : List Address → ℕ
gone_ahead addresses = position_or_len is_standing addresses

-- each of these addresses is of an interface of this kind
abbrev pub AreOf : Kind → List Address → Type 0
AreOf kind addresses = AllByRecursion (λ a. a.kind ≡ kind) addresses

-- an interface of this kind keeps these addresses, and at least as many at their front are gone as it knows of
pub record AreKept (known : ℕ) (kind : Kind) (addresses : List Address) : Type 0 where
  pub gone : known ≤ gone_ahead addresses
  pub of : AreOf kind addresses
