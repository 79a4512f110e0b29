-- How a step and the count of refusals go together.
use Rattle.std.proofs.Common.{◌≡◌, ℕ, Bool, false, List, inl, inr, refl, sym, ap, subst}
use Rattle.std.specs.Prelude.{Some, Result, Ok, Err, IfSome, MatchResult}
use Rattle.sock_addrs.specs.Errno.{is_enobufs, is_no_memory}
use Rattle.sock_addrs.specs.Rules.{first_fault}
use Rattle.sock_addrs.specs.declared.errno.Errno.{Errno}
use Rattle.memory.specs.Refusing.{Rises}
use Rattle.route_core.specs.CauseLaws.{CountedIsAStep, AnswerHasACause, OthersLeaveTheCount}
use Rattle.route_core.specs.Commands.{Command}
use Rattle.route_core.specs.Requests.{Outcome}
use Rattle.route_core.specs.Step.{IsStep, Steps, StepsCounted, lacks_memory, takes_memory}
use Rattle.route_core.specs.World.{World}
use Rattle.route_core.specs.Writes.{message_rules}
use Rattle.route_core.specs.declared.answer.Answer.{Answer}
use Rattle.route_core.specs.declared.answer.Answer.TheVariants.{Done, Refused, Size, Messages, Routed, Dropped}
use Rattle.route_core.specs.declared.command.Command.TheVariants.{RemoveAddress}
use Rattle.route_core.specs.declared.refusal.Refusal.{Refusal}
use Rattle.route_core.proofs.RefusalsSpare.{FoundErr, IsFound, IsFoundIn, enobufs_or, message_rules-found, never_short}

-- the machine's step has memory
has : (old : World) (c : Command) (answer : Answer) (new : World) → IsStep old c answer new → lacks_memory answer ≡ false
has old c Done new is = refl
has old c (Refused errno) new is = never_short old c errno new is
has old c (Size n) new is = refl
has old c (Messages messages errno) new is = refl
has old c (Routed choice) new is = refl
has old c (Dropped choice) new is = refl

-- a step, and a count that rose exactly where it answered that there is no memory
pub caused : (old : World) (c : Command) (answer : Answer) (new : World) (before after : ℕ)
    → Steps old c answer new → Rises (lacks_memory answer) before after → StepsCounted old c answer new before after
caused old c answer new before after (inl is) rises =
    inl (is, subst (λ b. Rises b before after) (has old c answer new is) rises)
caused old c answer new before after (inr short) rises =
    inr (short.0, short.1, short.2, subst (λ b. Rises b before after) (ap lacks_memory short.1) rises)

pub counted_is_a_step : CountedIsAStep
counted_is_a_step old c answer new before after (inl h) = inl h.0
counted_is_a_step old c answer new before after (inr h) = inr (h.0, h.1, h.2)

pub answer_has_a_cause : AnswerHasACause
answer_has_a_cause old c answer new before after (inl h) =
    subst (λ b. Rises b before after) (sym (has old c answer new h.0)) h.1
answer_has_a_cause old c answer new before after (inr h) =
    subst (λ b. Rises b before after) (sym (ap lacks_memory h.1)) h.3

pub others_leave_the_count : OthersLeaveTheCount
others_leave_the_count old c answer new before after none (inl h) = h.1
others_leave_the_count old c answer new before after none (inr h) = absurd (cc)

-- ---- what isn't refused for want of memory leaves the count

pub same : (b : Bool) (n : ℕ) → b ≡ false → Rises b n n
same b n is = subst (λ b. Rises b n n) (sym is) refl

pub refused_otherwise : (e : Errno) (n : ℕ) → IsFound e → Rises (is_enobufs e) n n
refused_otherwise e n found = same (is_enobufs e) n (enobufs_or e found)

pub misread : (m : List ℕ) (r : Refusal) (n : ℕ) → first_fault (message_rules m) ≡ Some r
    → Rises (is_enobufs r.errno) n n
misread m r n is =
    let found : IsFoundIn m r = subst (λ o. IfSome o (IsFoundIn m)) is (message_rules-found m) in
    refused_otherwise r.errno n found.0

pub stands : (old : World) (c : Command) (answer : Answer) (new : World) (n : ℕ) → IsStep old c answer new
    → Rises (lacks_memory answer) n n
stands old c answer new n is = same (lacks_memory answer) n (has old c answer new is)

pub removed_stands : (old : World) (name : List ℕ) (address : ℕ) (answer : Answer) (new : World) (n : ℕ)
    → Steps old (RemoveAddress name address) answer new → Rises (lacks_memory answer) n n
unfolding takes_memory
removed_stands old name address answer new n (inl is) = stands old (RemoveAddress name address) answer new n is
removed_stands old name address answer new n (inr h) = absurd (cc)

-- a request that finds its outcome without memory
pub found_stands : {A : Type 0} (P : A → Type 0) (outcome : Result Outcome Errno) (r : Result A Errno) (n : ℕ)
    → FoundErr outcome → MatchResult r P (λ e. outcome ≡ Err e) → Rises (is_no_memory r) n n
found_stands P outcome (Ok a) n found h = refl
found_stands P outcome (Err e) n found h = refused_otherwise e n (subst (λ o. FoundErr o) h found)
