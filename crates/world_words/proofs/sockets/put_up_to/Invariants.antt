use Rattle.std.proofs.Common.{◌≡◌, ◌++◌}
use Rattle.world_words.specs.Sockets.{lines_up_to}
use Rattle.world_words.proofs.sockets.put_up_to.Given as goal

abbrev pub invariant-sockets : goal.invariant-sockets
invariant-sockets l = (l.text ≡ l.initial.text ++ lines_up_to l.place l.world) × (l.memory ≡ l.initial.memory)
