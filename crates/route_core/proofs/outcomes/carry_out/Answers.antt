use Rattle.std.proofs.Common.{◌⊎◌, [], inl}
use Rattle.std.specs.Prelude.{Result, Ok, Err, MatchResult}
use Rattle.sock_addrs.specs.declared.errno.Errno.{Errno}
use Rattle.route_core.specs.declared.outcomes.Done.{Done}
use Rattle.route_core.specs.Requests.{done_reply}
use Rattle.route_core.proofs.Counting.{found_stands, same}
use Rattle.route_core.proofs.RefusalsSpare.{delete-found}
use Rattle.route_core.proofs.outcomes.carry_out.Goals as goal

-- what is never refused for want of memory
or_no_memory : (P : Done → Type 0) (Q R : Errno → Type 0) (r : Result Done Errno)
    → MatchResult r P Q → MatchResult r P (λ e. Q e ⊎ R e)
or_no_memory P Q R (Ok d) h = h
or_no_memory P Q R (Err e) h = inl h

pub returns-in-Add-clause-outcome : goal.returns-in-Add-clause-outcome
returns-in-Add-clause-outcome c = λ m header. rw c.in-Add.is (c.add.ensures.outcome c.args.pid m c.args.own.now.items)

pub returns-in-Change-clause-outcome : goal.returns-in-Change-clause-outcome
returns-in-Change-clause-outcome c = λ m header. rw c.in-Change.is (c.change.ensures.outcome c.args.pid m c.args.own.now.items)

pub returns-in-Delete-clause-outcome : goal.returns-in-Delete-clause-outcome
returns-in-Delete-clause-outcome c = λ m header.
    rw c.in-Delete.is (or_no_memory _ _ _ c.delete.result (c.delete.ensures.outcome c.args.pid m c.args.own.now.items))

pub returns-in-Delete-clause-of : goal.returns-in-Delete-clause-of
returns-in-Delete-clause-of c = c.delete.ensures.of c.args.interfaces.now c.requires.of

pub returns-in-Lock-clause-outcome : goal.returns-in-Lock-clause-outcome
returns-in-Lock-clause-outcome c = λ m header.
    rw c.in-Lock.is (or_no_memory _ _ _ c.lock.result (c.lock.ensures.outcome c.args.pid m c.args.own.now.items))

pub returns-in-Lock-clause-of : goal.returns-in-Lock-clause-of
returns-in-Lock-clause-of c = c.lock.ensures.of c.args.interfaces.now c.requires.of

-- these three take no memory
pub returns-in-Delete-clause-counted : goal.returns-in-Delete-clause-counted
returns-in-Delete-clause-counted c =
    found_stands _ _ c.delete.result _
    (delete-found c.args.table.now.entries (done_reply 0 []) _) (c.delete.ensures.outcome 0 [] [])

pub returns-in-Lock-clause-counted : goal.returns-in-Lock-clause-counted
returns-in-Lock-clause-counted c = same _ _ c.lock.ensures.memory

pub returns-in-Get-clause-counted : goal.returns-in-Get-clause-counted
returns-in-Get-clause-counted c = same _ _ c.get.ensures.memory
