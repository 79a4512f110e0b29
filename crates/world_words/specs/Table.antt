-- Routes as a table, in the way of `netstat -rn`.
use Rattle.std.specs.Prelude.{List, ℕ, ◌++◌, codes, decimal, flat_map}
use Rattle.event_file.specs.Answers.{gate_word}
use Rattle.lab_text.specs.Words.{column, destination_word}
use Rattle.route_core.specs.World.{World}
use Rattle.route_core.specs.declared.told.RouteTold.{RouteTold}
use Rattle.world_words.specs.Answers.{interface_word}
use Rattle.world_words.specs.Flags.{flag_letters}

abbrev pub heading : List ℕ
heading =
    column 18 (codes "Destination") ++ column 17 (codes "Gateway") ++ column 8 (codes "Flags") ++ column 8 (codes "Use")
    ++ codes "Interface\n"

-- a route: its destination, gateway, flags as letters, how many packets took it, and the interface that it leads out of
abbrev pub route_line : World → RouteTold → List ℕ
route_line w r =
    column 18 (destination_word r.choice.key r.choice.rank) ++ column 17 (gate_word r.choice.gateway)
    ++ column 8 (flag_letters r.choice.flags) ++ column 8 (decimal r.use_count)
    ++ interface_word r.choice.index w ++ codes "\n"

-- a heading, and a line for each route
abbrev pub table_words : List RouteTold → World → List ℕ
table_words routes w = heading ++ flat_map (route_line w) routes
