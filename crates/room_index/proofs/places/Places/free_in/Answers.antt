use Rattle.std.proofs.Common.{◌≡◌, ◌+◌, ◌*◌, ◌<◌, ◌==◌, not, subst, arith}
use Rattle.std.specs.List.{prefix_len}
use Rattle.std.specs.Simd.Lanes.{chunk}
use Rattle.std.proofs.lemmas.Bool.{eqb-true}
use Rattle.std.proofs.lemmas.Simd.{run_in_chunk_le, run_in_chunk_stops}
use Rattle.room_index.proofs.Standing.{stands_free}
use Rattle.room_index.proofs.places.Places.free_in.Goals as goal

pub returns-clause-free : goal.returns-clause-free
returns-clause-free g c =
    let tags = c.args.self.now.tags.items in
    let begin = 8 * c.args.bucket in
    let used = c.used_before-used.result in
    let counted = subst (λ ts. used ≡ prefix_len (λ t. not (t == 0)) (chunk begin 8 ts)) c.deref.ensures.value c.used_before-used.ensures.before in
    let few = run_in_chunk_le (λ t. t == 0) tags begin 8 used 0 c.requires counted in
    let short : used < 8 = omega (arith, few, c.if-used-eq-PLACES.false) in
    let free = eqb-true _ 0 (run_in_chunk_stops (λ t. t == 0) tags begin 8 used 0 c.requires counted short) in
    (omega arith, omega arith, stands_free tags c.args.self.now.entries.items (begin + used) free)
