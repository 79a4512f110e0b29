use Rattle.radix_tree.proofs.{Facts.differs_first, Facts.none_differs, Words.arith}
use Rattle.radix_tree.proofs.bits.first_difference.Goals as goal

pub returns-then-bit-lt32 : goal.returns-then-bit-lt32
returns-then-bit-lt32 c = grind (arith, differs_first)

pub returns-else-bit-lt32 : goal.returns-else-bit-lt32
returns-else-bit-lt32 c = grind (arith, none_differs)
