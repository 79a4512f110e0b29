-- How wide an address is, and the bounds that follow.
use Rattle.std.specs.Prelude.{ℕ, ◌+◌, ◌-◌, ◌*◌}
use Rattle.room_index.specs.Looks.{pair_looks}

-- an address has so many bits, of which this is the last
abbrev pub width : ℕ
width = 32

abbrev pub last_bit : ℕ
last_bit = width - 1

-- the rank of a route of one host, which is the greatest
abbrev pub host_rank : ℕ
host_rank = width + 1

-- how many ranks there are, 0 to 33; the code's `Ranks` is a set of some of them
abbrev pub ranks : ℕ
ranks = host_rank + 1

-- on a way down stands a bit node for each bit at most, and then a leaf
abbrev pub levels : ℕ
levels = width + 1

-- ---- reads of rooms
-- of a way down: its bit nodes
abbrev pub way_reads : ℕ
way_reads = width

-- of a chain: a member of each rank
abbrev pub chain_reads : ℕ
chain_reads = ranks

-- of a search for a key and a rank: a way down, and the chain at its end; by the index fewer, `index_reads`
abbrev pub pair_reads : ℕ
pair_reads = way_reads + chain_reads

-- of the best route's room: a way down, the chain at its end and the leaf again, from which it goes up; then each bit
-- node once, and each of the masks of ranks 0 to 31 once at most, as it is listed at one bit node of a way
abbrev pub room_reads : ℕ
room_reads = way_reads + chain_reads + 1 + (width + width)

-- of a look-up by the index: the tags of sixteen places, these places, and the room of each
abbrev pub index_reads : ℕ
index_reads = pair_looks + 16

-- of the best route's room by the index, which is asked for each rank, with a look at the ranks that are near; a way
-- through the tree reads less
abbrev pub asked_reads : ℕ
asked_reads = ranks * (index_reads + 1)

-- of the best route: its room, its leaf and its value. They are 1,668, and 2,400 are promised
abbrev pub best_reads : ℕ
best_reads = asked_reads + 2
