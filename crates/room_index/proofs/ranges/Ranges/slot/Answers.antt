use Rattle.std.proofs.Common.{◌≡◌, ◌+◌, ◌-◌, ◌/◌, ◌%◌, ◌^◌, arith, ap, ◌∙◌}
use Rattle.room_index.proofs.ranges.Ranges.slot.Goals as goal

pub returns : goal.returns
returns g c =
    let rest : c.rest.result ≡ 38 - (c.args.self.now.bits + c.args.self.now.finer) = omega (arith, c.rest.ensures) in
    ap (λ n. n / 2) (c.low_bits.ensures ∙ ap (λ n. c.args.pair / 2 ^ n % 2 ^ c.args.self.now.bits) rest)
