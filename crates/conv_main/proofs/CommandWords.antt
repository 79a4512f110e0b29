-- What the crate that reads words makes of them.
use Rattle.std.proofs.Common.{arith, ◌≡◌, ◌≢◌, ◌⊎◌, ◌∙◌, [], ◌∷◌, length, Result, Ok, Err, inl, inr, ap, refl, true}
use Rattle.std.specs.Prelude.{IfErr}
use Rattle.std.specs.Result.{IsErrAnd}
use Rattle.clap.specs.Words.{App, HasKind, Kinds, is_simple, is_simple_and_free, kind_of}
use Rattle.clap.specs.declared.error.Error.{Error}
use Rattle.clap.specs.declared.error.kind.ErrorKind.{ErrorKind}
use Rattle.clap.specs.declared.error.kind.ErrorKind.TheVariants.{OutOfMemory}
use Rattle.clap.proofs.OnLiterals.{clap_on_literals}
use Rattle.program_ends.specs.Refusals.{of_kind}
use Rattle.program_ends.specs.declared.refusal.Refusal.{Refusal}
use Rattle.program_ends.specs.declared.refusal.Refusal.TheVariants.{NoMemory, Usage}
use Rattle.conv_main.specs.CommandLine.{program}

abbrev pub without_help : App → App
without_help a = record a { top = record a.top { disable_help_flag = true } }

pub is_plain : is_simple program ≡ true
unfolding clap_on_literals
is_plain = refl

pub is_free : is_simple_and_free program ≡ true
unfolding clap_on_literals
is_free = refl

-- an error is want of memory, or something is wrong
pub some_fault : {P : Type 0} (faults : Kinds) (e : Error) → HasKind faults e → (kind_of e ≡ OutOfMemory) ⊎ ((faults ≢ []) ⊎ P)
some_fault faults e (inl memory) = inl memory
some_fault [] e (inr other) = absurd other
some_fault (k ∷ ks) e (inr other) = inr (inl (λ none. absurd (omega (arith, ap length none))))

by_kind : (kind : ErrorKind) → (of_kind kind ≡ NoMemory) ⊎ (of_kind kind ≡ Usage)
by_kind OutOfMemory = inl refl
by_kind _ = inr refl

refused-by : {P : Type 0} (refusal : Refusal) (kind : ErrorKind) → refusal ≡ of_kind kind
    → (kind ≡ OutOfMemory) ⊎ P → (refusal ≡ NoMemory) ⊎ ((refusal ≡ Usage) × P)
refused-by refusal kind is (inl memory) = inl (is ∙ ap of_kind memory)
refused-by refusal kind is (inr p) = elim (by_kind kind) [
  | inl memory ↦ inl (is ∙ memory)
  | inr usage ↦ inr (is ∙ usage, p)
]

pub refused : {T P : Type 0} (r : Result T Refusal) (kind : ErrorKind) → IsErrAnd r (λ refusal. refusal ≡ of_kind kind)
    → (kind ≡ OutOfMemory) ⊎ P → IfErr r (λ refusal. (refusal ≡ NoMemory) ⊎ ((refusal ≡ Usage) × P))
refused (Ok a) kind is why = tt
refused (Err refusal) kind is why = refused-by refusal kind is why
