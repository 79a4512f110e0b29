-- How the calls that carry out requests say what they made; no definition stands on this.
use Rattle.std.specs.Prelude.{ℕ, List}
use Rattle.radix_tree.specs.declared.entry.Entry.{Entry}
use Rattle.route_entries.specs.declared.route.Route.{Route}
use Rattle.route_ops.specs.declared.notice.Notice.{Notice}
use Rattle.route_core.specs.declared.outcomes.Reply.{Reply}
use Rattle.route_core.specs.declared.outcomes.Reply.TheVariants.{Echoed, Own}
use Rattle.route_core.specs.Requests.{Outcome, done_reply}

-- the written message as one that was done, or the message of its own
abbrev pub reply_with : ℕ → List ℕ → Reply → List ℕ → List ℕ
reply_with pid m Echoed own = done_reply pid m
reply_with pid m Own own = own

abbrev pub outcome_with : ℕ → List ℕ → List (Entry Route) → List Notice → Reply → List ℕ → Outcome
outcome_with pid m table notices reply own =
    record { table = table; notices = notices; reply = reply_with pid m reply own }
