-- The numbers of the errnos, as in <sys/errno.h> of 4.4BSD, and which of them is want of memory.
use Rattle.std.specs.Prelude.{ℕ, Bool, true, false, Result, Ok, Err}
use Rattle.sock_addrs.specs.declared.errno.Errno.{Errno}
use Rattle.sock_addrs.specs.declared.errno.Errno.TheVariants as errno

abbrev pub errno_number : Errno → ℕ
errno_number errno.ESRCH = 3
errno_number errno.ENXIO = 6
errno_number errno.EBADF = 9
errno_number errno.ENOMEM = 12
errno_number errno.EEXIST = 17
errno_number errno.EINVAL = 22
errno_number errno.EMFILE = 24
errno_number errno.ENOSPC = 28
errno_number errno.EMSGSIZE = 40
errno_number errno.EPROTONOSUPPORT = 43
errno_number errno.EOPNOTSUPP = 45
errno_number errno.EADDRINUSE = 48
errno_number errno.EADDRNOTAVAIL = 49
errno_number errno.ENETUNREACH = 51
errno_number errno.ENOBUFS = 55
errno_number errno.ETOOMANYREFS = 59
errno_number errno.EHOSTUNREACH = 65

abbrev pub is_enobufs : Errno → Bool
is_enobufs errno.ENOBUFS = true
is_enobufs e = false

-- it was refused for want of memory
abbrev pub is_no_memory : {A : Type 0} → Result A Errno → Bool
is_no_memory (Ok x) = false
is_no_memory (Err e) = is_enobufs e
