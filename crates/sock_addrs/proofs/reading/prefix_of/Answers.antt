use Rattle.std.proofs.Common.{◌≡◌, ap, sym, ◌∙◌}
use Rattle.std.specs.Int.{w32, leading_ones}
use Rattle.sock_addrs.specs.Sockaddrs.{mask_number}
use Rattle.sock_addrs.proofs.MaskRead.{leading_ones-mask}
use Rattle.sock_addrs.proofs.reading.prefix_of.Goals as goal

-- the mask of as many bits as there are ones is another number, so none is that number
pub returns-then-mask_bits-mask : goal.returns-then-mask_bits-mask
returns-then-mask_bits-mask c = λ p fits e.
    let ones : leading_ones w32 c.args.mask ≡ p = ap (leading_ones w32) e ∙ leading_ones-mask p fits in
    c.if-mask_bits-mask.true (c.mask_bits.ensures ∙ ap mask_number (c.leading_ones-ones.ensures ∙ ones) ∙ sym e)
