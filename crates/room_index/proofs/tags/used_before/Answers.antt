use Rattle.std.proofs.Common.{eqb, sym, ap, ◌∙◌, arith, w8}
use lib.Count.{count_trailing_zeros}
use lib.Lanes.{chunk}
use Rattle.std.proofs.lemmas.Simd.{length-chunk, bitmask_splat, leading_from_mask_l, trailing_mask_l}
use Rattle.room_index.proofs.tags.used_before.Goals as goal

pub returns-then-free-eq0-clause-before : goal.returns-then-free-eq0-clause-before
returns-then-free-eq0-clause-before c =
    let tags = chunk c.args.begin 8 c.args.tags.now in
    let long = length-chunk c.args.begin 8 c.args.tags.now c.requires in
    let free = bitmask_splat w8 eqb tags 8 0 long (omega arith) in
    sym long ∙ sym (leading_from_mask_l (λ t. eqb t 0) tags (sym free ∙ c.if-free-eq0.true))

pub returns-else-free-eq0-clause-before : goal.returns-else-free-eq0-clause-before
returns-else-free-eq0-clause-before c =
    let tags = chunk c.args.begin 8 c.args.tags.now in
    let long = length-chunk c.args.begin 8 c.args.tags.now c.requires in
    let free = bitmask_splat w8 eqb tags 8 0 long (omega arith) in
    ap (count_trailing_zeros 64) free ∙ trailing_mask_l (λ t. eqb t 0) 64 tags (omega arith) (omega arith)
