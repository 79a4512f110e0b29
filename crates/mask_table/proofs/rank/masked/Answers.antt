-- A masked address has no bit past the rank, so masking it again leaves it.
use Rattle.std.proofs.Common.{◌≡◌, rules}
use Rattle.mask_table.specs.Agreeing.{masked as masked_by}
use Rattle.mask_table.proofs.Agreeing.{masked_twice_is_once}
use Rattle.mask_table.proofs.rank.masked.Goals as goal

pub returns-clause-clear : goal.returns-clause-clear
returns-clause-clear c =
    let number : c.new.result ≡ masked_by c.args.rank c.args.address = search rules in
    rw number (masked_twice_is_once c.args.rank c.args.address)
