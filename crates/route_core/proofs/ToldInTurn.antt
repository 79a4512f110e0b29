-- Messages that are told one after another.
use Rattle.std.proofs.Common.{◌≡◌, ℕ, ◌+◌, ◌<◌, List, length, map, drop, sym, ap, ◌∙◌, add-one, drop-cons}
use Rattle.std.specs.Prelude.{None, slice_index_or}
use Rattle.listeners.specs.Sockets.{Socket, delivered}
use Rattle.route_ops.specs.declared.notice.Notice.{Notice}
use Rattle.route_core.specs.Messages.{notice_family, notice_message, notice_told}
use Rattle.route_core.specs.Telling.{delivered_all}

-- the next one is delivered, and then those behind it
pub told_next : (notices : List Notice) (i : ℕ) (d : Notice) (sockets : List Socket) → i < length notices
    → let n = slice_index_or notices i d in
    delivered_all (map notice_told (drop i notices)) sockets
    ≡ delivered_all (map notice_told (drop (i + 1) notices))
    (delivered (notice_message n) (notice_family n) None sockets)
told_next notices i d sockets less =
    let n = slice_index_or notices i d in
    let after = delivered (notice_message n) (notice_family n) None sockets in
    ap (λ (ns : List Notice). delivered_all (map notice_told ns) sockets) (drop-cons notices i d less)
    ∙ ap (λ (k : ℕ). delivered_all (map notice_told (drop k notices)) after) (sym (add-one i))
