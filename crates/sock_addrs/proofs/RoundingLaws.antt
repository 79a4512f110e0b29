-- Rounding gives the least multiple of four that is wanted.
use Rattle.std.proofs.Common.{arith}
use Rattle.sock_addrs.specs.Rounding.{RoundingIsLeast}

pub rounding_is_least : RoundingIsLeast
rounding_is_least n = record {
  words = omega arith;
  some = omega arith;
  holds = omega arith;
  least = λ k words some holds. omega arith;
}
