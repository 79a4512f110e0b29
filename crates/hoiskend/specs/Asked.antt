-- The command that the parameters of a call ask for, and none where they say none.
use Rattle.std.specs.Prelude.{ℕ, nat_le, ◌==◌, ◌&&◌, Bool, if◌then◌else◌, List, length, Option, Some, None}
use Rattle.event_file.specs.Words.{◌>>=◌}
use Rattle.if_addrs.specs.declared.kind.Kind.{Kind}
use Rattle.if_addrs.specs.declared.kind.Kind.TheVariants.{Broadcast, Loopback as OfLoopback, PointToPoint}
use Rattle.route_core.specs.Commands.{Command}
use Rattle.route_core.specs.declared.command.Command.TheVariants.{Attach, AddAddress, RemoveAddress, Open, Close, Loopback, Write, Read, Lost, Redirect}
use Rattle.route_core.specs.declared.written.TheConstants.{MOST_WRITTEN}

-- a name or an id has 1 to 8 bytes
abbrev pub named : List ℕ → Option (List ℕ)
named text = if nat_le 1 (length text) && nat_le (length text) 8 then Some text else None

-- a link-layer address has at most 8 bytes
abbrev pub linked : List ℕ → Option (List ℕ)
linked bytes = if nat_le (length bytes) 8 then Some bytes else None

-- 0 broadcast, 1 loopback, 2 point-to-point
abbrev pub kind_in : ℕ → Option Kind
kind_in number =
    if number == 0 then Some Broadcast
    else if number == 1 then Some OfLoopback
    else if number == 2 then Some PointToPoint
    else None

-- a mask has at most 32 bits
abbrev pub prefixed : ℕ → Option ℕ
prefixed bits = if nat_le bits 32 then Some bits else None

-- the address of the other end, where one is given
unfoldable pub far_in : Bool → ℕ → Option ℕ
far_in has_far far = if has_far then Some far else None

-- the flags of a dump, where it is of some routes alone
unfoldable pub filter_in : Bool → ℕ → Option ℕ
filter_in has_filter filter = if has_filter then Some filter else None

-- a write has at most so many bytes
abbrev pub lent : List ℕ → Option (List ℕ)
lent bytes = if nat_le (length bytes) MOST_WRITTEN then Some bytes else None

unfoldable pub attach_asked : List ℕ → ℕ → ℕ → List ℕ → Option Command
attach_asked name kind type_number link = do
  name ← named name
  kind ← kind_in kind
  link ← linked link
  Some (Attach name kind type_number link)

unfoldable pub add_address_asked : List ℕ → ℕ → ℕ → Bool → Option ℕ → Option Command
add_address_asked name address prefix cloning far = do
  name ← named name
  prefix ← prefixed prefix
  Some (AddAddress name address prefix cloning far)

unfoldable pub remove_address_asked : List ℕ → ℕ → Option Command
remove_address_asked name address = do
  name ← named name
  Some (RemoveAddress name address)

unfoldable pub listen_asked : List ℕ → ℕ → ℕ → Option Command
listen_asked id pid protocol = do
  id ← named id
  Some (Open id pid protocol)

unfoldable pub shut_asked : List ℕ → Option Command
shut_asked id = do
  id ← named id
  Some (Close id)

unfoldable pub loopback_asked : List ℕ → Bool → Option Command
loopback_asked id on = do
  id ← named id
  Some (Loopback id on)

unfoldable pub write_asked : List ℕ → List ℕ → Option Command
write_asked id message = do
  id ← named id
  message ← lent message
  Some (Write id message)

unfoldable pub read_asked : List ℕ → Option Command
read_asked id = do
  id ← named id
  Some (Read id)

unfoldable pub lost_asked : List ℕ → Option Command
lost_asked id = do
  id ← named id
  Some (Lost id)

unfoldable pub redirect_asked : ℕ → ℕ → ℕ → Command
redirect_asked destination gateway author =
    Redirect (record { destination = destination; gateway = gateway; author = author })
