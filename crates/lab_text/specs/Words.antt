-- Words for people.
use Rattle.std.specs.Prelude.{ℕ, ◌-◌, ◌==◌, ◌&&◌, if◌then◌else◌, List, ◌++◌, length, replicate, codes}
use Rattle.event_file.specs.Printed.{inet_word, network_word}

-- the destination of a route: `default`, the address of a host, or a network as `10.0.0.0/8`
abbrev pub destination_word : ℕ → ℕ → List ℕ
destination_word key rank =
    if rank == 0 && key == 0 then codes "default"
    else if rank == 33 then inet_word key
    else network_word key rank

-- a word in a column of this width, with one space at least behind it
abbrev pub column : ℕ → List ℕ → List ℕ
column width word = word ++ replicate (width - length word) 32 ++ codes " "
