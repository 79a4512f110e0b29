-- A message about a route with one field of its header changed.
use Rattle.std.specs.Prelude.{◌≡◌, ℕ, ◌<◌, ◌≤◌, ◌^◌, List, length, drop}
use Rattle.route_msgs.specs.Headers.{header_in}
use Rattle.route_msgs.specs.Layout.{field, number_at, with_field}
use Rattle.route_msgs.specs.declared.header.Header.{Header}
use Rattle.route_msgs.specs.declared.patches.TheConstants.{ERRNO_OFFSET, FLAGS_OFFSET, PID_OFFSET}

-- the flags
abbrev pub with_flags : ℕ → List ℕ → List ℕ
with_flags flags m = with_field (field FLAGS_OFFSET 4 flags) m

-- the pid
abbrev pub with_pid : ℕ → List ℕ → List ℕ
with_pid pid m = with_field (field PID_OFFSET 4 pid) m

-- the errno
abbrev pub with_errno : ℕ → List ℕ → List ℕ
with_errno errno m = with_field (field ERRNO_OFFSET 4 errno) m

-- a message is read with the same fields as another, but for those of a header that are given, and has the same length,
-- version and addresses
pub record IsWithHeader (h : Header) (new old : List ℕ) : Type 0 where
  pub header : header_in new ≡ h
  pub size : length new ≡ length old
  pub says_size : number_at 0 2 new ≡ number_at 0 2 old
  pub version : number_at 2 1 new ≡ number_at 2 1 old
  pub behind : drop 76 new ≡ drop 76 old

-- a message with its flags, pid or errno changed is read as the same with that field changed
abbrev pub FlagsAreChanged : Type 0
FlagsAreChanged = (m : List ℕ) (flags : ℕ) → 76 ≤ length m → flags < 2 ^ 32
    → IsWithHeader (record (header_in m) { flags = flags }) (with_flags flags m) m

abbrev pub PidIsChanged : Type 0
PidIsChanged = (m : List ℕ) (pid : ℕ) → 76 ≤ length m → pid < 2 ^ 32
    → IsWithHeader (record (header_in m) { pid = pid }) (with_pid pid m) m

abbrev pub ErrnoIsChanged : Type 0
ErrnoIsChanged = (m : List ℕ) (errno : ℕ) → 76 ≤ length m → errno < 2 ^ 32
    → IsWithHeader (record (header_in m) { errno = errno }) (with_errno errno m) m
