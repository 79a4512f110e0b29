-- What a call without a world answers, which gives a text into a room of the caller's.
use Rattle.std.specs.Prelude.{◌≡◌, ◌⊎◌, ◌==◌, Bool, ℕ, nat_le, if◌then◌else◌, List, length}
use Rattle.sock_addrs.specs.Errno.{errno_number}
use Rattle.sock_addrs.specs.declared.errno.Errno.TheVariants.{ENOBUFS, ENOMEM}

-- 0, or ENOMEM where the text has more bytes than the room
abbrev pub code_by_room : List ℕ → ℕ → ℕ
code_by_room text room = if nat_le (length text) room then 0 else errno_number ENOMEM

-- that, or there was no memory
abbrev pub IsCodeOf : List ℕ → ℕ → ℕ → Type 0
IsCodeOf text room code = (code ≡ code_by_room text room) ⊎ (code ≡ errno_number ENOBUFS)

-- the code says that there was no memory
abbrev pub is_want_of_memory : ℕ → Bool
is_want_of_memory code = code == errno_number ENOBUFS

-- the new one where there was memory, by the code of the call, and else the old one
abbrev pub if_memory : {T : Type 0} → ℕ → T → T → T
if_memory code new old = if is_want_of_memory code then old else new
