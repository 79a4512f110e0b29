use Rattle.radix_tree.proofs.{Indexed.named_pair, Indexed.rooms_known, Words.sym, Words.◌∙◌, Words.arith}
use Rattle.radix_tree.proofs.finding.find_room.Goals as goal

pub find-requires-clause-known : goal.find-requires-clause-known
find-requires-clause-known g c = rooms_known c.requires.indexed

pub returns-then-is_whole-clause-found : goal.returns-then-is_whole-clause-found
returns-then-is_whole-clause-found g c w =
    named_pair w c.requires.indexed c.args.key c.args.rank (grind arith) (sym c.is_whole.ensures ∙ c.if-is_whole.true) c.find.result c.find.ensures.found
