-- The routes that agree with an address, the longest mask first.
use Rattle.std.specs.Prelude.{◌≡◌, ℕ, ◌-◌, ◌==◌, ◌&&◌, Bool, if◌then◌else◌, List, ◌++◌, codes, filter, flat_map, option_map}
use Rattle.std.specs.List.{list_any, range_with_len, slice_get}
use Rattle.event_file.specs.Printed.{inet_word}
use Rattle.lab_text.specs.Words.{destination_word}
use Rattle.mask_table.specs.Agreeing.{agrees}
use Rattle.radix_tree.specs.Table.{IsTable, best_of}
use Rattle.route_core.specs.Told.{all_told, route_told}
use Rattle.route_core.specs.World.{World}
use Rattle.route_core.specs.declared.told.RouteTold.{RouteTold}
use Rattle.world_words.specs.Answers.{interface_word, toward_words}
use Rattle.world_words.specs.Flags.{flags_word}

-- the address agrees with the route
abbrev pub is_for : ℕ → RouteTold → Bool
is_for address r = agrees r.choice.rank r.choice.key address

-- those of one rank that agree
abbrev pub of_rank : ℕ → List RouteTold → ℕ → List RouteTold
of_rank address routes rank = filter (λ r. r.choice.rank == rank && is_for address r) routes

-- those of so many ranks that agree, from 33 down
abbrev pub of_ranks : ℕ → List RouteTold → ℕ → List RouteTold
of_ranks address routes many = flat_map (λ i. of_rank address routes (33 - i)) (range_with_len 0 many)

-- those that agree, by falling ranks: a host's first, and then the longest mask
unfoldable pub in_order : ℕ → List RouteTold → List RouteTold
in_order address routes = of_ranks address routes 34

-- a route, with what it says
abbrev pub agreeing_line : World → RouteTold → List ℕ
agreeing_line w r =
    codes "  " ++ destination_word r.choice.key r.choice.rank ++ codes " leads" ++ toward_words r.choice
    ++ codes " out of " ++ interface_word r.choice.index w ++ codes " (flags " ++ flags_word r.choice.flags ++ codes ")\n"

abbrev pub agreeing_heading : ℕ → List RouteTold → List ℕ
agreeing_heading address routes =
    if list_any (is_for address) routes
    then codes "routes that agree with " ++ inet_word address ++ codes ", the longest mask first, which is taken:\n"
    else codes "no route agrees with " ++ inet_word address ++ codes "\n"

-- which routes agree with an address, and which of them is taken
abbrev pub agreeing_words : ℕ → List RouteTold → World → List ℕ
agreeing_words address routes w =
    agreeing_heading address routes ++ flat_map (agreeing_line w) (in_order address routes)

-- ---- a law

-- of the routes of a table that agree, the first in this order is the best
abbrev pub FirstIsBest : Type 0
FirstIsBest = (w : World) (address : ℕ) → IsTable w.table
    → slice_get (in_order address (all_told w)) 0 ≡ option_map (route_told w.interfaces) (best_of address w.table)
