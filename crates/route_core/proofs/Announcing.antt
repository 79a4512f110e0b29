-- What the sockets hear of an address of an interface: two messages, with the interface's number and link-layer
-- address.
use Rattle.std.proofs.Common.{◌≡◌, ℕ, List, [], ◌∷◌, refl, ap}
use Rattle.std.specs.Prelude.{Option, None, Some, unwrap_or}
use Rattle.sock_addrs.specs.declared.families.TheConstants.{AF_INET}
use Rattle.if_addrs.specs.Interfaces.{Interface, link_text_of}
use Rattle.listeners.specs.Sockets.{Socket, delivered}
use Rattle.route_core.specs.Telling.{delivered_all, told}

-- the link-layer address of an interface that is there
pub link_told : (index : ℕ) (interfaces : List Interface) (link : List ℕ) → link_text_of index interfaces ≡ Some link
    → unwrap_or (link_text_of index interfaces) [] ≡ link
link_told index interfaces link there = ap (λ (o : Option (List ℕ)). unwrap_or o []) there

-- two messages that are delivered one after the other
pub both_told : (first second one two : List ℕ) (before mid after : List Socket)
    → one ≡ first → two ≡ second → mid ≡ delivered one AF_INET None before → after ≡ delivered two AF_INET None mid
    → after ≡ delivered_all (told first AF_INET None ∷ told second AF_INET None ∷ []) before
both_told first second one two before mid after is_one is_two heard all = rw (all, heard, is_one, is_two) refl
