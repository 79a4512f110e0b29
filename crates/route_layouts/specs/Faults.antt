-- What is told of a message that has no counterpart.
use Rattle.std.specs.Prelude.{ℕ, List, codes}
use Rattle.sock_addrs.specs.declared.errno.Errno.{Errno}
use Rattle.sock_addrs.specs.declared.errno.Errno.TheVariants.{EINVAL, EPROTONOSUPPORT}
use Rattle.route_layouts.specs.declared.fault.Fault.{Fault}
use Rattle.route_layouts.specs.declared.fault.Fault.TheVariants as fault

abbrev pub text_of : Fault → List ℕ
text_of fault.Kind = codes "the type has no counterpart"
text_of fault.Length = codes "the length is wrong"
text_of fault.Version = codes "the version is another"
text_of fault.Overrun = codes "an address passes the end"
text_of fault.Wide = codes "a number or an address is too wide"

-- the errno of a write that is refused for it
abbrev pub errno_of : Fault → Errno
errno_of fault.Version = EPROTONOSUPPORT
errno_of _ = EINVAL
