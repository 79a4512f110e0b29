use Rattle.std.proofs.Common.{length}
use Rattle.plain_lines.proofs.plain.+significant.Given as goal

abbrev pub decreases-significant : goal.decreases-significant
decreases-significant l = length l.digits.now
