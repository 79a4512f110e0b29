-- A transcript shows a run of the script's commands, and each run of them is shown by one.
use Rattle.std.proofs.Common.{◌≡◌, ◌≢◌, ℕ, Bool, true, false, ◌||◌, List, [], ◌∷◌, ◌++◌, ◌∙◌, codes, cond, filter, map, Option, Some, None, Ok, Err, refl, sym, ap, subst}
use Rattle.std.specs.Fmt.{digits}
use Rattle.std.specs.Prelude.{is_none}
use Rattle.std.specs.List.{All}
use Rattle.std.proofs.lemmas.Bool.{true≢false}
use Rattle.std.proofs.lemmas.List.Elements.{All-head}
use Rattle.std.proofs.lemmas.Option.{none-some}
use Rattle.sock_addrs.specs.declared.errno.Errno.TheVariants.{EMFILE, ENOBUFS}
use Rattle.route_core.specs.Commands.{Command}
use Rattle.route_core.specs.Undisturbed.{HaveRoom, OthersAreNotNeeded, OthersDoNotDisturb, Runs, Turn, commands_left, commands_of, is_left, lacks_room, turns_left}
use Rattle.route_core.specs.World.{World, empty_world}
use Rattle.route_core.specs.declared.answer.Answer.{Answer}
use Rattle.route_core.specs.declared.answer.Answer.TheVariants.{Refused}
use Rattle.event_file.specs.Answers.{answer_text}
use Rattle.event_file.specs.Lines.{answered_lines, lines_of}
use Rattle.event_file.specs.Runs.{OthersLeaveTheText, RunIsTranscript, SaysCommands, TextHasRoom, TranscriptIsRun, text_of}
use Rattle.event_file.specs.Transcript.{Answered, IsTranscript, command_in, has_bad_line}
use Rattle.event_file.proofs.ResponseLines.{All-both, All-first, All-rest}

-- ---- the commands that lines say

-- the lines say these commands, each line one
abbrev Say : List (Option (List ℕ)) → List Command → Type 0
Say lines commands = map command_in lines ≡ map Some commands

says_first : (line : Option (List ℕ)) (lines : List (Option (List ℕ))) (c : Command) (commands : List Command)
    → Say (line ∷ lines) (c ∷ commands) → (command_in line ≡ Some c) × Say lines commands
says_first line lines c commands h = (cc, cc)

says_with : (line : Option (List ℕ)) (lines : List (Option (List ℕ))) (said : Option Command)
    → command_in line ≡ said → (is_none said || has_bad_line lines) ≡ false
    → (has_bad_line lines ≡ false → (commands : List Command) × Say lines commands)
    → (commands : List Command) × Say (line ∷ lines) commands
says_with line lines None is good rest = absurd (true≢false good)
says_with line lines (Some c) is good rest =
    let (commands, says) = rest good in
    (c ∷ commands, ap (λ o. o ∷ map command_in lines) is ∙ ap (λ os. Some c ∷ os) says)

-- lines of which none is malformed say commands
says : (lines : List (Option (List ℕ))) → has_bad_line lines ≡ false → (commands : List Command) × Say lines commands
says [] good = ([], refl)
says (line ∷ lines) good = says_with line lines (command_in line) refl good (says lines)

-- ---- a transcript is a run

run_of : (lines : List (Option (List ℕ))) (commands : List Command) (old : World) (text : List ℕ) (last : World)
    → Say lines commands → Answered old lines text last
    → (turns : List Turn) × Runs old turns last × (commands_of turns ≡ commands) × (text ≡ text_of turns)
run_of [] [] old text last say (empty, same) = ([], same, refl, empty)
run_of [] (c ∷ commands) old text last say answered = cc
run_of (line ∷ lines) [] old text last say answered = cc
run_of (line ∷ lines) (c ∷ commands) old text last say (Ok answer, next, rest, (command, said, steps), is, more) =
    let (here, behind) = says_first line lines c commands say in
    let (turns, runs, same, texts) = run_of lines commands next rest last behind more in (
      (record { command = command; answer = answer }) ∷ turns,
      (next, steps, runs),
      cc,
      is ∙ ap (λ t. answer_text answer ++ t) texts,
    )
run_of (line ∷ lines) (c ∷ commands) old text last say (Err bad, next, rest, (none, same), is, more) =
    absurd (none-some c (sym none ∙ (says_first line lines c commands say).0))

transcript_of_run : (lines : List (Option (List ℕ))) (turns : List Turn) (old last : World)
    → Say lines (commands_of turns) → Runs old turns last → Answered old lines (text_of turns) last
transcript_of_run [] [] old last say same = (refl, same)
transcript_of_run [] (t ∷ ts) old last say runs = cc
transcript_of_run (line ∷ lines) [] old last say runs = cc
transcript_of_run (line ∷ lines) (t ∷ ts) old last say (next, steps, runs) =
    let (here, behind) = says_first line lines t.command (commands_of ts) say in
    (Ok t.answer, next, text_of ts, (t.command, here, steps), refl, transcript_of_run lines ts next last behind runs)

pub transcript-is_run : TranscriptIsRun
transcript-is_run script text good (last, answered) =
    let (commands, say) = says (answered_lines script) good in
    let (turns, runs, same, is) = run_of (answered_lines script) commands empty_world text last say answered in
    (turns, (say ∙ ap (λ cs. map Some cs) (sym same), last, runs), is)

pub run-is_transcript : RunIsTranscript
run-is_transcript script turns (say, last, runs) =
    (last, transcript_of_run (answered_lines script) turns empty_world last say runs)

-- ---- listeners do not disturb each other

-- the line tells of no want of room
abbrev Roomy : List ℕ → Type 0
Roomy line = (line ≢ codes "err 24") × (line ≢ codes "err 55")

sockets_line : lines_of (answer_text (Refused EMFILE)) ≡ codes "err 24" ∷ []
unfolding digits
sockets_line = refl

memory_line : lines_of (answer_text (Refused ENOBUFS)) ≡ codes "err 55" ∷ []
unfolding digits
memory_line = refl

answer_has_room : (answer : Answer) → TextHasRoom (answer_text answer) → lacks_room answer ≡ false
answer_has_room (Refused EMFILE) room =
    absurd ((All-head Roomy (codes "err 24") [] (subst (All Roomy) sockets_line room)).0 refl)
answer_has_room (Refused ENOBUFS) room =
    absurd ((All-head Roomy (codes "err 55") [] (subst (All Roomy) memory_line room)).1 refl)
answer_has_room answer room = refl

turns_have_room : (turns : List Turn) → TextHasRoom (text_of turns) → HaveRoom turns
turns_have_room [] room = tt
turns_have_room (t ∷ ts) room = (
  answer_has_room t.answer (All-first Roomy (Ok t.answer) (text_of ts) room),
  turns_have_room ts (All-rest Roomy (Ok t.answer) (text_of ts) room),
)

room-by : (t : Turn) (ts : List Turn) → TextHasRoom (answer_text t.answer) → TextHasRoom (text_of ts)
    → (b : Bool) → TextHasRoom (text_of (cond b (t ∷ ts) ts))
room-by t ts first rest true = All-both Roomy (Ok t.answer) (text_of ts) first rest
room-by t ts first rest false = rest

-- where a text has room, so has that of any of its turns
some_have_room : (p : Turn → Bool) (turns : List Turn) → TextHasRoom (text_of turns)
    → TextHasRoom (text_of (filter p turns))
some_have_room p [] room = room
some_have_room p (t ∷ ts) room =
    let first = All-first Roomy (Ok t.answer) (text_of ts) room in
    let rest = some_have_room p ts (All-rest Roomy (Ok t.answer) (text_of ts) room) in
    room-by t (filter p ts) first rest (p t)

map_filter-by : {X Y : Type 0} (f : X → Y) (x : X) (xs : List X) (ys : List Y) → map f xs ≡ ys
    → (b : Bool) → map f (cond b (x ∷ xs) xs) ≡ cond b (f x ∷ ys) ys
map_filter-by f x xs ys same true = ap (λ zs. f x ∷ zs) same
map_filter-by f x xs ys same false = same

-- what a test of their images leaves
map_filter : {X Y : Type 0} (f : X → Y) (p : Y → Bool) (xs : List X)
    → map f (filter (λ x. p (f x)) xs) ≡ filter p (map f xs)
map_filter f p [] = refl
map_filter f p (x ∷ xs) =
    map_filter-by f x (filter (λ x. p (f x)) xs) (filter p (map f xs)) (map_filter f p xs) (p (f x))

-- a script of the commands that are left is answered by the texts that they had, where memory allows
left_is_answered : OthersAreNotNeeded → (x rest : List ℕ) (turns : List Turn) (last : World)
    → Runs empty_world turns last → HaveRoom turns → SaysCommands rest (commands_left x (commands_of turns))
    → IsTranscript rest (text_of (turns_left x turns))
left_is_answered not_needed x rest turns last runs room say =
    let are = map_filter (λ t. t.command) (is_left x (commands_of turns)) turns in
    let (end, left, one) = not_needed x last turns runs room in
    run-is_transcript rest (turns_left x turns) (say ∙ ap (λ cs. map Some cs) (sym are), end, left)

-- and by no others where they have room
left_is_same : OthersDoNotDisturb → (x rest : List ℕ) (turns : List Turn) (last : World)
    → Runs empty_world turns last → HaveRoom turns → SaysCommands rest (commands_left x (commands_of turns))
    → (other : List ℕ) → IsTranscript rest other → TextHasRoom other → other ≡ text_of (turns_left x turns)
left_is_same same_answers x rest turns last runs room say other (end, answered) roomy =
    let left = commands_left x (commands_of turns) in
    let (told, so, same, is) = run_of (answered_lines rest) left empty_world other end say answered in
    let have = turns_have_room told (subst TextHasRoom is roomy) in
    is ∙ ap text_of (same_answers x empty_world last end turns told runs room same so have).0

pub others-leave_the_text : OthersDoNotDisturb → OthersAreNotNeeded → OthersLeaveTheText
others-leave_the_text same_answers not_needed script text good transcript room x =
    let (turns, run, is) = transcript-is_run script text good transcript in
    let (say, last, runs) = run in
    let roomy = subst TextHasRoom is room in
    let have = turns_have_room turns roomy in (
      turns,
      run,
      is,
      λ rest left. (
        left_is_answered not_needed x rest turns last runs have left,
        some_have_room (λ t. is_left x (commands_of turns) t.command) turns roomy,
        left_is_same same_answers x rest turns last runs have left,
      ),
    )
