use Rattle.std.proofs.Common.{◌-◌, ap, arith}
use Rattle.message_text.proofs.Padding.{joined_is}
use Rattle.message_text.proofs.link.joined.Goals as goal

pub returns : goal.returns
returns c =
    let one = rw c.unwrap.ensures at c.try_extend_from_slice.ensures.ok in
    let two = rw c.unwrap-2.ensures at c.try_extend_from_slice-2.ensures.ok in
    let three = rw c.unwrap-3.ensures at c.try_extend_from_slice-3.ensures.ok in
    let all = rw c.unwrap-4.ensures at c.try_extend_from_slice-4.ensures.ok in
    joined_is c.args.size 256 (c.args.size - c.len.result) _ _ _ c.try_extend_from_slice-3.new.self.items c.try_extend_from_slice-4.new.self.items c.args.head.now c.args.name.now c.args.address.now
    c.new-bytes.ensures one two three all (omega (arith, c.requires.most)) (ap (λ n. c.args.size - n) c.len.ensures.value)
