use Rattle.std.proofs.Common.{◌≡◌, ◌∙◌, inl, inr, map, ap, ap₂, refl, sym, codes}
use Rattle.std.specs.String.{string_bytes}
use Rattle.clap.specs.Words.{app_of, fault_of, first_of, found_of, is_simple, is_simple_and_free, matches_of, with_rule}
use Rattle.clap.specs.Simple.{app_of_fields}
use Rattle.clap.proofs.WalkLemmas.{first_value-rows}
use Rattle.conv_main.specs.CommandLine.{program, side_of}
use Rattle.conv_main.proofs.CommandWords.{is_free, is_plain, refused, some_fault, without_help}
use Rattle.conv_main.proofs.words.asked_by.Goals as goal

pub returns-in_err-matches-clause-refused : goal.returns-in_err-matches-clause-refused
returns-in_err-matches-clause-refused c =
    let command_is : app_of c.in_ok-command.command ≡ program = c.in_ok-command.ensures.shape c.new-file.ensures.optional.1
    ∙ ap₂ with_rule (c.in_ok-arg-2.ensures.shape c.new-to.ensures.optional.1
    ∙ ap₂ with_rule (c.in_ok-arg.ensures.shape c.new-from.ensures.optional.1
    ∙ ap₂ with_rule (ap app_of_fields c.disable_help_flag.ensures ∙ ap without_help c.new.ensures.app) c.new-from.ensures.rule)
    c.new-to.ensures.rule) c.new-file.ensures.rule in
    let faults_are = ap (λ a. fault_of a (map string_bytes c.args.words.now)) command_is in
    refused _ _ c.from_residual-in_err-matches.ensures.1 (some_fault _ c.in_err-matches.field-0.0
    (rw (← faults_are) (c.in_err-matches.ensures.kinds (ap is_simple_and_free command_is ∙ is_free))))

pub returns-in_default-clause-refused : goal.returns-in_default-clause-refused
returns-in_default-clause-refused c =
    let command_is : app_of c.in_ok-command.command ≡ program = c.in_ok-command.ensures.shape c.new-file.ensures.optional.1
    ∙ ap₂ with_rule (c.in_ok-arg-2.ensures.shape c.new-to.ensures.optional.1
    ∙ ap₂ with_rule (c.in_ok-arg.ensures.shape c.new-from.ensures.optional.1
    ∙ ap₂ with_rule (ap app_of_fields c.disable_help_flag.ensures ∙ ap without_help c.new.ensures.app) c.new-from.ensures.rule)
    c.new-to.ensures.rule) c.new-file.ensures.rule in
    let rows = (c.in_ok-matches.ensures.matches (ap is_simple command_is ∙ is_plain)).0
    ∙ ap (λ a. matches_of a (map string_bytes c.args.words.now)) command_is in
    inr (refl, inr (inl (ap side_of (sym (c.get_str.ensures ∙ first_value-rows (found_of c.in_ok-matches.matches) (codes "FROM") ∙ ap (first_of (codes "FROM")) rows)) ∙ sym c.side_in.ensures ∙ c.in_default.is)))

pub returns-in_default-side_in-clause-refused : goal.returns-in_default-side_in-clause-refused
returns-in_default-side_in-clause-refused c =
    let command_is : app_of c.in_ok-command.command ≡ program = c.in_ok-command.ensures.shape c.new-file.ensures.optional.1
    ∙ ap₂ with_rule (c.in_ok-arg-2.ensures.shape c.new-to.ensures.optional.1
    ∙ ap₂ with_rule (c.in_ok-arg.ensures.shape c.new-from.ensures.optional.1
    ∙ ap₂ with_rule (ap app_of_fields c.disable_help_flag.ensures ∙ ap without_help c.new.ensures.app) c.new-from.ensures.rule)
    c.new-to.ensures.rule) c.new-file.ensures.rule in
    let rows = (c.in_ok-matches.ensures.matches (ap is_simple command_is ∙ is_plain)).0
    ∙ ap (λ a. matches_of a (map string_bytes c.args.words.now)) command_is in
    inr (refl, inr (inr (ap side_of (sym (c.get_str-2.ensures ∙ first_value-rows (found_of c.in_ok-matches.matches) (codes "TO") ∙ ap (first_of (codes "TO")) rows)) ∙ sym c.side_in-2.ensures ∙ c.in_default-side_in.is)))

pub returns-clause-right : goal.returns-clause-right
returns-clause-right c =
    let command_is : app_of c.in_ok-command.command ≡ program = c.in_ok-command.ensures.shape c.new-file.ensures.optional.1
    ∙ ap₂ with_rule (c.in_ok-arg-2.ensures.shape c.new-to.ensures.optional.1
    ∙ ap₂ with_rule (c.in_ok-arg.ensures.shape c.new-from.ensures.optional.1
    ∙ ap₂ with_rule (ap app_of_fields c.disable_help_flag.ensures ∙ ap without_help c.new.ensures.app) c.new-from.ensures.rule)
    c.new-to.ensures.rule) c.new-file.ensures.rule in
    sym (ap (λ a. fault_of a (map string_bytes c.args.words.now)) command_is)
    ∙ c.in_ok-matches.ensures.kinds (ap is_simple_and_free command_is ∙ is_free)

pub returns-clause-sides : goal.returns-clause-sides
returns-clause-sides c =
    let command_is : app_of c.in_ok-command.command ≡ program = c.in_ok-command.ensures.shape c.new-file.ensures.optional.1
    ∙ ap₂ with_rule (c.in_ok-arg-2.ensures.shape c.new-to.ensures.optional.1
    ∙ ap₂ with_rule (c.in_ok-arg.ensures.shape c.new-from.ensures.optional.1
    ∙ ap₂ with_rule (ap app_of_fields c.disable_help_flag.ensures ∙ ap without_help c.new.ensures.app) c.new-from.ensures.rule)
    c.new-to.ensures.rule) c.new-file.ensures.rule in
    let rows = (c.in_ok-matches.ensures.matches (ap is_simple command_is ∙ is_plain)).0
    ∙ ap (λ a. matches_of a (map string_bytes c.args.words.now)) command_is in (
      ap side_of (sym (c.get_str.ensures ∙ first_value-rows (found_of c.in_ok-matches.matches) (codes "FROM") ∙ ap (first_of (codes "FROM")) rows)) ∙ sym c.side_in.ensures ∙ c.in-Some.is,
      ap side_of (sym (c.get_str-2.ensures ∙ first_value-rows (found_of c.in_ok-matches.matches) (codes "TO") ∙ ap (first_of (codes "TO")) rows)) ∙ sym c.side_in-2.ensures ∙ c.in-Some-side_in.is,
    )

pub returns-clause-file : goal.returns-clause-file
returns-clause-file c =
    let command_is : app_of c.in_ok-command.command ≡ program = c.in_ok-command.ensures.shape c.new-file.ensures.optional.1
    ∙ ap₂ with_rule (c.in_ok-arg-2.ensures.shape c.new-to.ensures.optional.1
    ∙ ap₂ with_rule (c.in_ok-arg.ensures.shape c.new-from.ensures.optional.1
    ∙ ap₂ with_rule (ap app_of_fields c.disable_help_flag.ensures ∙ ap without_help c.new.ensures.app) c.new-from.ensures.rule)
    c.new-to.ensures.rule) c.new-file.ensures.rule in
    let rows = (c.in_ok-matches.ensures.matches (ap is_simple command_is ∙ is_plain)).0
    ∙ ap (λ a. matches_of a (map string_bytes c.args.words.now)) command_is in
    c.get_str-3.ensures ∙ first_value-rows (found_of c.in_ok-matches.matches) (codes "FILE") ∙ ap (first_of (codes "FILE")) rows
