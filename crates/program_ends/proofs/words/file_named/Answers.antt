use Rattle.std.proofs.Common.{arith, ℕ, List, ◌≡◌, ◌≢◌, ◌⊎◌, ◌∙◌, [], ◌∷◌, length, Result, Ok, Err, IfErr, inl, inr, map, ap, ap₂, refl, sym, true, codes}
use Rattle.std.specs.Result.{IsErrAnd}
use Rattle.std.specs.String.{string_bytes}
use Rattle.clap.specs.Words.{App, HasKind, Kinds, app_of, first_of, found_of, is_simple, is_simple_and_free, kind_of, matches_of, fault_of, with_rule}
use Rattle.clap.specs.Simple.{app_of_fields}
use Rattle.clap.specs.declared.error.Error.{Error}
use Rattle.clap.specs.declared.error.kind.ErrorKind.{ErrorKind}
use Rattle.clap.specs.declared.error.kind.ErrorKind.TheVariants.{OutOfMemory}
use Rattle.clap.proofs.OnLiterals.{clap_on_literals}
use Rattle.clap.proofs.WalkLemmas.{first_value-rows}
use Rattle.program_ends.specs.CommandLine.{program}
use Rattle.program_ends.specs.Refusals.{of_kind}
use Rattle.program_ends.specs.declared.refusal.Refusal.{Refusal}
use Rattle.program_ends.specs.declared.refusal.Refusal.TheVariants.{NoMemory, Usage}
use Rattle.program_ends.proofs.words.file_named.Goals as goal

abbrev without_help : App → App
without_help a = record a { top = record a.top { disable_help_flag = true } }

is_plain : (name : List ℕ) → is_simple (program name) ≡ true
unfolding clap_on_literals
is_plain name = refl

is_free : (name : List ℕ) → is_simple_and_free (program name) ≡ true
unfolding clap_on_literals
is_free name = refl

-- an error is want of memory, or something is wrong
some_fault : (faults : Kinds) (e : Error) → HasKind faults e → (kind_of e ≡ OutOfMemory) ⊎ (faults ≢ [])
some_fault faults e (inl memory) = inl memory
some_fault [] e (inr other) = absurd other
some_fault (k ∷ ks) e (inr other) = inr (λ none. absurd (omega (arith, ap length none)))

by_kind : (kind : ErrorKind) → (of_kind kind ≡ NoMemory) ⊎ (of_kind kind ≡ Usage)
by_kind OutOfMemory = inl refl
by_kind _ = inr refl

refused-by : {P : Type 0} (refusal : Refusal) (kind : ErrorKind) → refusal ≡ of_kind kind
    → (kind ≡ OutOfMemory) ⊎ P → (refusal ≡ NoMemory) ⊎ ((refusal ≡ Usage) × P)
refused-by refusal kind is (inl memory) = inl (is ∙ ap of_kind memory)
refused-by refusal kind is (inr p) = elim (by_kind kind) [
  | inl memory ↦ inl (is ∙ memory)
  | inr usage ↦ inr (is ∙ usage, p)
]

refused : {T P : Type 0} (r : Result T Refusal) (kind : ErrorKind) → IsErrAnd r (λ refusal. refusal ≡ of_kind kind)
    → (kind ≡ OutOfMemory) ⊎ P → IfErr r (λ refusal. (refusal ≡ NoMemory) ⊎ ((refusal ≡ Usage) × P))
refused (Ok a) kind is why = tt
refused (Err refusal) kind is why = refused-by refusal kind is why

pub returns-in_err-matches-clause-refused : goal.returns-in_err-matches-clause-refused
returns-in_err-matches-clause-refused c =
    let command_is : app_of c.in_ok-command.command ≡ program c.args.program.now = c.in_ok-command.ensures.shape c.new-file.ensures.optional.1
    ∙ ap₂ with_rule (ap app_of_fields c.disable_help_flag.ensures ∙ ap without_help c.new.ensures.app) c.new-file.ensures.rule in
    let faults_are = ap (λ a. fault_of a (map string_bytes c.args.words.now)) command_is in
    refused _ _ c.from_residual-in_err-matches.ensures.1 (some_fault _ c.in_err-matches.field-0.0
    (rw (← faults_are) (c.in_err-matches.ensures.kinds (ap is_simple_and_free command_is ∙ is_free c.args.program.now))))

pub returns-clause-named : goal.returns-clause-named
returns-clause-named c =
    let command_is : app_of c.in_ok-command.command ≡ program c.args.program.now = c.in_ok-command.ensures.shape c.new-file.ensures.optional.1
    ∙ ap₂ with_rule (ap app_of_fields c.disable_help_flag.ensures ∙ ap without_help c.new.ensures.app) c.new-file.ensures.rule in
    c.get_str.ensures ∙ first_value-rows (found_of c.in_ok-matches.matches) (codes "FILE")
    ∙ ap (first_of (codes "FILE")) ((c.in_ok-matches.ensures.matches (ap is_simple command_is ∙ is_plain c.args.program.now)).0
    ∙ ap (λ a. matches_of a (map string_bytes c.args.words.now)) command_is)

pub returns-clause-right : goal.returns-clause-right
returns-clause-right c =
    let command_is : app_of c.in_ok-command.command ≡ program c.args.program.now = c.in_ok-command.ensures.shape c.new-file.ensures.optional.1
    ∙ ap₂ with_rule (ap app_of_fields c.disable_help_flag.ensures ∙ ap without_help c.new.ensures.app) c.new-file.ensures.rule in
    sym (ap (λ a. fault_of a (map string_bytes c.args.words.now)) command_is)
    ∙ c.in_ok-matches.ensures.kinds (ap is_simple_and_free command_is ∙ is_free c.args.program.now)
