-- What a write does once its writer is known, by what its message asks: a definition for the proofs that go by cases.
use Rattle.std.specs.Prelude.{ℕ, List, Result, Ok}
use Rattle.route_ops.specs.Refusing.{◌>>=◌}
use Rattle.route_core.specs.Requests.{outcome_of}
use Rattle.route_core.specs.Step.{Effect, done_write, either_way, or_refused, refused_request, refused_write}
use Rattle.route_core.specs.World.{World}
use Rattle.route_core.specs.declared.refusal.Refusal.{Refusal}
use Rattle.route_core.specs.declared.request.Request.{Request}

abbrev pub message_effect : World → List ℕ → ℕ → List ℕ → Result Request Refusal → Effect
message_effect w id pid m r = either_way (do
  request ← or_refused (refused_write w id pid m) r
  outcome ← or_refused (refused_request w id pid m) (outcome_of w.interfaces w.table pid m request)
  Ok (done_write w id outcome))
