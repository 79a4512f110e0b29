use Rattle.std.proofs.Common.{List, ℕ, ap, ◌∙◌, slice_index}
use Rattle.sock_addrs.specs.Rounding.{rounded}
use Rattle.route_msgs.proofs.LinkSockaddr.{IsCut, cut}
use Rattle.route_msgs.proofs.sockaddr.Sockaddr.link.Goals as goal

cut_here : (c : goal.After-round-len) → IsCut c.args.link c.write_link-len.new.out c.round-len.result
cut_here c =
    cut c.args.link c.write_link-len.new.out c.round-len.result c.as_bytes.ensures.link c.write_link-len.ensures.sockaddr
    (c.round-len.ensures ∙ ap (λ (xs : List ℕ). rounded (slice_index xs 0)) c.as_bytes.ensures.bytes)

pub invariant_of-result : goal.invariant_of-result
invariant_of-result c = let h = cut_here c in (h.sockaddr, h.rest)

pub returns-clause-sockaddr : goal.returns-clause-sockaddr
returns-clause-sockaddr c = (cut_here c).front
