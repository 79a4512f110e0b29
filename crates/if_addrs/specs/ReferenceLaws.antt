-- What becomes of references to interface addresses, and of their numbers, under each call.
use Rattle.std.specs.Prelude.{◌≡◌, ℕ, Bool, List, [], ◌∷◌, ◌++◌, Option, None}
use Rattle.if_addrs.specs.Interfaces.{Interface, addr_fault, attached, marked_routed, with_address, without_addr}
use Rattle.if_addrs.specs.Keeping.{KeepsIfas, SameIfas}
use Rattle.if_addrs.specs.Numbered.{NumberedOnce}
use Rattle.if_addrs.specs.declared.kind.Kind.{Kind}
use Rattle.if_addrs.specs.declared.limits.TheConstants.{MOST_ADDRESSES, MOST_INTERFACES}
use Rattle.if_addrs.specs.declared.reference.IfaRef.{IfaRef}

-- each reference stays one, of the same address on the same interface, and no number is given twice
pub record Lasts (old new : List Interface) : Type 0 where
  pub keeps : KeepsIfas old new
  pub same : SameIfas old new
  pub numbers : NumberedOnce new

-- so where an interface is attached
abbrev pub AttachingLasts : Type 0
AttachingLasts = (name : List ℕ) (kind : Kind) (type_number : ℕ) (link : List ℕ) (interfaces : List Interface)
    → NumberedOnce interfaces → Lasts interfaces (interfaces ++ attached name kind type_number link ∷ [])

-- where an address is added that nothing refuses
abbrev pub AddingLasts : Type 0
AddingLasts = (name : List ℕ) (address prefix : ℕ) (cloning : Bool) (far : Option ℕ) (interfaces : List Interface)
    → NumberedOnce interfaces → addr_fault name address far interfaces ≡ None
    → Lasts interfaces (with_address name address prefix cloning far interfaces)

-- where an address is marked as one whose route was added
abbrev pub MarkingLasts : Type 0
MarkingLasts = (i : IfaRef) (interfaces : List Interface) → NumberedOnce interfaces
    → Lasts interfaces (marked_routed i interfaces)

-- and where it is removed
abbrev pub RemovingLasts : Type 0
RemovingLasts = (i : IfaRef) (interfaces : List Interface) → NumberedOnce interfaces
    → Lasts interfaces (without_addr i interfaces)

-- nothing is numbered before anything is there
abbrev pub NoneNumbered : Type 0
NoneNumbered = NumberedOnce []

-- how many interfaces may be attached, and addresses ever added
abbrev pub MostByNumber : Type 0
MostByNumber = (MOST_INTERFACES ≡ 64) × (MOST_ADDRESSES ≡ 65535)
