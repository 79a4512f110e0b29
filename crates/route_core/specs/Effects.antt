-- How the world's calls say that they do what the definitions say; no definition stands on these.
use Rattle.std.specs.Prelude.{◌≡◌, ◌≤◌, ◌⊎◌, ℕ, Bool, List, length, Result, Ok, true}
use Rattle.sock_addrs.specs.declared.errno.Errno.{Errno}
use Rattle.sock_addrs.specs.declared.errno.Errno.TheVariants.{ENOBUFS}
use Rattle.route_msgs.specs.Slots.{has_length}
use Rattle.route_ops.specs.Refusing.{◌>>=◌}
use Rattle.route_core.specs.Requests.{Outcome}
use Rattle.route_core.specs.Step.{Effect, done_write, either_way, or_refused, refused_request, world_after}
use Rattle.route_core.specs.World.{World}
use Rattle.route_core.specs.declared.answer.Answer.{Answer}
use Rattle.route_core.specs.declared.answer.Answer.TheVariants.{Refused}
use Rattle.route_core.specs.declared.request.TheConstants.{MOST_BYTES}

-- the effect takes place
pub record IsEffect (e : Effect) (given : Answer) (new : World) : Type 0 where
  pub answer : given ≡ e.answer
  pub world : new ≡ world_after e

-- or, where it may want memory, there is none for it, and all is as it was
abbrev pub EffectOr : Bool → Effect → World → Answer → World → Type 0
EffectOr wants e old answer new = IsEffect e answer new ⊎ ((wants ≡ true) × (answer ≡ Refused ENOBUFS) × (new ≡ old))

-- what a written message does whose request comes to this
abbrev pub request_effect : World → List ℕ → ℕ → List ℕ → Result Outcome Errno → Effect
request_effect w id pid m r = either_way (do
  outcome ← or_refused (refused_request w id pid m) r
  Ok (done_write w id outcome))

-- a write that is long enough for the header of a reply, says its own length, and isn't too long to be looked at
pub record IsEchoed (m : List ℕ) : Type 0 where
  pub whole : has_length m ≡ true
  pub most : length m ≤ MOST_BYTES
