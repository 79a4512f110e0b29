-- What stays of interface addresses that were given: each is good for good.
use Rattle.std.specs.Prelude.{◌≡◌}
use Rattle.std.specs.Prelude.{List}
use Rattle.if_addrs.specs.Interfaces.{Interface, IsOf, text_of, interface_of}
use Rattle.if_addrs.specs.declared.reference.IfaRef.{IfaRef}

-- each interface address of the old interfaces is one of the new
abbrev pub KeepsIfas : List Interface → List Interface → Type 0
KeepsIfas old new = (i : IfaRef) → IsOf i old → IsOf i new

-- it is the same address, and of the same interface
abbrev pub SameIfas : List Interface → List Interface → Type 0
SameIfas old new = (i : IfaRef) → IsOf i old
    → (text_of i new ≡ text_of i old) × (interface_of i new ≡ interface_of i old)
