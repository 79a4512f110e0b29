use Rattle.std.proofs.Common.{◌≡◌, ◌⊎◌, ℕ, List, Bool, true, inl, inr, refl}
use Rattle.std.specs.Prelude.{Result, Ok, Err}
use Rattle.sock_addrs.specs.declared.errno.Errno.{Errno}
use Rattle.sock_addrs.specs.declared.errno.Errno.TheVariants.{ENOBUFS}
use Rattle.route_core.specs.Effects.{EffectOr, request_effect}
use Rattle.route_core.specs.Outcomes.{outcome_with}
use Rattle.route_core.specs.Requests.{Outcome, makes_room}
use Rattle.route_core.specs.World.{World}
use Rattle.route_core.specs.declared.answer.Answer.TheVariants.{Refused}
use Rattle.route_core.proofs.Effecting.{write_done}
use Rattle.route_core.proofs.RefusalsSpare.{FoundErr, outcome-found}
use Rattle.route_core.proofs.world.World.request.Goals as goal

pub returns-in-Ok-clause-effect : goal.returns-in-Ok-clause-effect
returns-in-Ok-clause-effect c =
    let w : World = record {
      table = c.self.inside.table.entries;
      interfaces = c.self.inside.interfaces;
      sockets = c.self.inside.listeners;
    } in
    let m = c.args.bytes.now in
    let d = c.in-Ok.done in
    rw (← c.self.view_is)
    (inl (write_done w c.args.id c.args.pid m _
    (outcome_with c.args.pid m c.carry_out.new.table.entries d.notices.items d.reply c.carry_out.new.own.items) _
    (c.in-Ok.ensures.outcome m c.requires.header)
    (rw (c.tell.ensures, c.deref.ensures.0) at c.reply.ensures)))

-- a request is never refused for want of memory by the machine itself
short : (wants : Bool) (w : World) (id : List ℕ) (pid : ℕ) (m : List ℕ) (r : Result Outcome Errno) (new : World)
    → FoundErr r → (r ≡ Err ENOBUFS) ⊎ ((wants ≡ true) × (ENOBUFS ≡ ENOBUFS)) → new ≡ w
    → EffectOr wants (request_effect w id pid m r) w (Refused ENOBUFS) new
short wants w id pid m (Ok o) new found (inl is) same = absurd (cc)
short wants w id pid m (Err e) new found (inl is) same = absurd (found (cc))
short wants w id pid m r new found (inr both) same = inr (both.0, refl, same)

pub returns-in-Err-ENOBUFS-clause-effect : goal.returns-in-Err-ENOBUFS-clause-effect
returns-in-Err-ENOBUFS-clause-effect c =
    let w : World = record {
      table = c.self.inside.table.entries;
      interfaces = c.self.inside.interfaces;
      sockets = c.self.inside.listeners;
    } in
    let m = c.args.bytes.now in
    rw (← c.self.view_is)
    (short (makes_room w.interfaces w.table c.args.asked.now.request) w c.args.id c.args.pid m _ _
    (outcome-found w.interfaces w.table c.args.pid m c.args.asked.now.request)
    (rw c.in-Err-ENOBUFS.field-0-is at (c.in-Err-ENOBUFS.ensures.outcome m c.requires.header))
    (rw c.in-Err-ENOBUFS.ensures.kept refl))
