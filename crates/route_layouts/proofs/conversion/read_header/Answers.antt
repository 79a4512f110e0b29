use Rattle.std.proofs.Common.{◌≡◌, true, length, slice_index}
use Rattle.route_layouts.specs.Fields.{in_order}
use Rattle.route_layouts.specs.Places.{are_within}
use Rattle.route_layouts.proofs.HeadersOf.{header_is}
use Rattle.route_layouts.proofs.NumbersRead.{within_more}
use Rattle.route_layouts.proofs.conversion.read_header.Goals as goal

pub read_numbers-requires-clause-within : goal.read_numbers-requires-clause-within
read_numbers-requires-clause-within c =
    let m = c.args.message.now in
    let h = header_is c.args.from.now (slice_index m 3) c.requires in
    let there = rw c.byte_at-kind.ensures at c.header-header.ensures in
    let within : are_within c.header-header.result.size (in_order c.header-header.result.places) ≡ true = rw there h.within in
    rw c.in_order.ensures (within_more c.header-header.result.size (length m) (in_order c.header-header.result.places) c.if-message-header.false within)
