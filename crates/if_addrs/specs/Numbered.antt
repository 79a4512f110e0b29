-- How the code numbers the addresses: by a count of those that were ever added.
use Rattle.std.specs.Prelude.{◌≡◌, ℕ, ◌<◌, ◌≤◌, List, length, count_by}
use Rattle.if_addrs.specs.declared.limits.TheConstants.{MOST_INTERFACES}
use Rattle.if_addrs.specs.Interfaces.{Interface, addresses_of, added, has_number}

-- how many addresses have this number
abbrev pub uses : ℕ → List Interface → ℕ
uses number interfaces = count_by (has_number number) (addresses_of interfaces)

-- no number was given twice, and none past the number of addresses
pub record NumberedOnce (interfaces : List Interface) : Type 0 where
  pub once : (number : ℕ) → uses number interfaces ≤ 1
  pub none_past : (number : ℕ) → added interfaces < number → uses number interfaces ≡ 0

pub record AreNumbered (count : ℕ) (interfaces : List Interface) : Type 0 where
  pub counted : added interfaces ≡ count
  pub numbers : NumberedOnce interfaces
  pub few : length interfaces ≤ MOST_INTERFACES
