-- Calls on an open world are a run of the machine.
use Rattle.std.proofs.Common.{◌≡◌, ◌≤◌, ℕ, Bool, true, false, List, [], ◌∷◌, Option, Some, None, Result, Ok, Err, arith, refl, sym, ap, subst, ◌∙◌}
use Rattle.std.specs.Prelude.{map}
use Rattle.memory.specs.Refusing.{Rises}
use Rattle.event_file.specs.Grammar.{command_of}
use Rattle.event_file.specs.Lines.{is_passed, kept}
use Rattle.event_file.specs.declared.bad.Bad.{Bad}
use Rattle.route_core.specs.Commands.{Command}
use Rattle.route_core.specs.Step.{Steps, lacks_memory}
use Rattle.route_core.specs.Undisturbed.{Runs, Turn}
use Rattle.route_core.specs.World.{World}
use Rattle.route_core.specs.declared.answer.Answer.{Answer}
use Rattle.hoiskend.specs.Sessions.{Answers, Call, Asks, Says, Looks, Calls, HeedsWhere, Obeys, Replies, Serves, Session, code_of, fresh, is_short}
use Rattle.hoiskend.specs.Runs.{Called, CallsAreARun, Coded, HaveMemory, Made, coded_of, coded_turn, command_by, said_unless, with_command}

-- one call: the machine's step of its command, which memory was refused where its answer says so; or, where it has
-- none, nothing
abbrev TurnBy : Session → Option Command → ℕ → Session → Type 0
TurnBy old None code new = (new.world ≡ old.world) × (new.refused ≡ old.refused)
TurnBy old (Some command) code new = (answer : Answer) × Steps old.world command answer new.world × (code ≡ code_of answer) × Rises (lacks_memory answer) old.refused new.refused

answered : (old : Session) (command : Command) (code : ℕ) (response : Option (Result Answer Bad)) (new : Session)
    → Answers old.world command code response new.world → Rises (is_short response) old.refused new.refused → TurnBy old (Some command) code new
answered old command code (Some (Ok answer)) new h rises = (answer, h.0, h.1, rises)
answered old command code (Some (Err bad)) new h rises = absurd h
answered old command code None new h rises = absurd h

obeyed : (old : Session) (asked : Option Command) (code : ℕ) (new : Session) → Obeys old asked code new → TurnBy old asked code new
obeyed old (Some command) code new h = answered old command code new.response new h.0 h.1
obeyed old None code new h = (ap (λ (s : Session). s.world) h.1, ap (λ (s : Session). s.refused) h.1)

replied : (old : Session) (said : Option Command) (code : ℕ) (new : Session) → Replies old said code new → TurnBy old said code new
replied old (Some command) code new h = answered old command code new.response new h.0 h.1
replied old None code new h = (ap (λ (s : Session). s.world) h.1, ap (λ (s : Session). s.refused) h.1)

heeded : (passed : Bool) (old : Session) (line : List ℕ) (code : ℕ) (new : Session) → HeedsWhere passed old line code new → TurnBy old (said_unless passed line) code new
heeded true old line code new h = (ap (λ (s : Session). s.world) h.1, ap (λ (s : Session). s.refused) h.1)
heeded false old line code new h = replied old (command_of line) code new h

served : (old : Session) (call : Call) (code : ℕ) (new : Session) → Serves old call code new → TurnBy old (command_by call) code new
served old (Asks asked) code new h = obeyed old asked code new h
served old (Says line) code new h = heeded (is_passed (kept line)) old line code new h
served old Looks code new h = (ap (λ (s : Session). s.world) h, ap (λ (s : Session). s.refused) h)

-- turns with these codes lead from the old session to the new one
record RunOf (old : Session) (coded : List Coded) (new : Session) : Type 0 where
  turns : List Turn
  told : map coded_turn turns ≡ coded
  runs : Runs old.world turns new.world
  rose : old.refused ≤ new.refused
  spared : new.refused ≡ old.refused → HaveMemory turns

-- a count never falls
risen : (short : Bool) (old next new : ℕ) → Rises short old next → next ≤ new → old ≤ new
risen true old next new rises rose = omega (arith, rises, rose)
risen false old next new rises rose = omega (arith, rises, rose)

-- where it stands in the end, it stood
record Stood (short : Bool) (next new : ℕ) : Type 0 where
  first : short ≡ false
  rest : new ≡ next

stood : (short : Bool) (old next new : ℕ) → Rises short old next → next ≤ new → new ≡ old → Stood short next new
stood true old next new rises rose same = absurd (omega (arith, rises, rose, same))
stood false old next new rises rose same = record { first = refl; rest = same ∙ sym rises }

-- and one call more before them
before : (old next new : Session) (command : Option Command) (code : ℕ) (coded : List Coded) → TurnBy old command code next → RunOf next coded new → RunOf old (with_command command code coded) new
before old next new None code coded (world, count) r = record {
  turns = r.turns;
  told = r.told;
  runs = subst (λ (w : World). Runs w r.turns new.world) world r.runs;
  rose = subst (λ (n : ℕ). n ≤ new.refused) count r.rose;
  spared = λ same. r.spared (same ∙ sym count);
}
before old next new (Some command) code coded (answer, steps, is, rises) r = record {
  turns = record { command = command; answer = answer } ∷ r.turns;
  told = ap (λ (n : ℕ). record { command = command; code = n } ∷ map coded_turn r.turns) (sym is) ∙ ap (λ (cs : List Coded). record { command = command; code = code } ∷ cs) r.told;
  runs = (next.world, steps, r.runs);
  rose = risen (lacks_memory answer) old.refused next.refused new.refused rises r.rose;
  spared = λ same. let all = stood (lacks_memory answer) old.refused next.refused new.refused rises r.rose same in (all.first, r.spared all.rest);
}

-- the world stays open
record Led (old : Session) (calls : List Called) (new : Option Session) : Type 0 where
  last : Session
  open_still : new ≡ Some last
  run : RunOf old (coded_of calls) last

led : (calls : List Called) (old : Session) (new : Option Session) → Made (Some old) calls new → Led old calls new
unfolding Calls
led [] old new e = record { last = old; open_still = e; run = record { turns = []; told = refl; runs = refl; rose = omega (arith); spared = λ same. tt } }
led (c ∷ cs) old new (None, h, made) = absurd h
led (c ∷ cs) old new (Some next, h, made) =
    let rest = led cs next new made in record {
      last = rest.last;
      open_still = rest.open_still;
      run = before old next rest.last (command_by c.call) c.code (coded_of cs) (served old c.call c.code next h) rest.run;
    }

pub calls_run : CallsAreARun
calls_run calls new made = let all = led calls fresh new made in (all.last, all.open_still, all.run.turns, all.run.told, all.run.runs, all.run.spared)
