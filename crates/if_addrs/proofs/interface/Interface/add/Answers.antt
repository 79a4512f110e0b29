use Rattle.std.proofs.Common.{◌∙◌, sym, ap}
use Rattle.if_addrs.specs.Interfaces.{Interface}
use Rattle.if_addrs.proofs.Gone.{still_gone}
use Rattle.if_addrs.proofs.OneKind.{still_of}
use Rattle.if_addrs.proofs.interface.Interface.add.Goals as goal

pub invariant_of-self : goal.invariant_of-self
invariant_of-self c =
    let kind = c.self.inside.kind in
    let xs = c.self.inside.addresses.items in
    record {
      gone = still_gone c.push.result c.self.inside.gone xs c.push.new.items.items c.args.address c.self.invariant.gone c.push.ensures.ok c.push.ensures.kept;
      of = still_of c.push.result kind xs c.push.new.items.items c.args.address (c.requires ∙ sym (ap (λ (i : Interface). i.kind) c.self.view_is)) c.self.invariant.of c.push.ensures.ok c.push.ensures.kept;
    }
