use Rattle.std.proofs.Common.{◌≡◌, ◌∙◌, ◌++◌, List, ℕ, sym, ap, subst, arith}
use Rattle.std.specs.Prelude.{OnOk}
use Rattle.plain_lines.specs.Behind.{spaced, words_after}
use Rattle.plain_lines.specs.PlainLines.{plain_options}
use Rattle.plain_lines.proofs.PutLemmas.{kept_all, kept_more}
use Rattle.plain_lines.proofs.plain.put_route.Goals as goal

pub kept-preserved : goal.kept-preserved
kept-preserved c = (
  kept_more c.kept._i c.kept.text c.put_word.new.text c.in-Some.word.now (words_after c.kept.rest.now) (words_after c.in-Some.behind.now) _
      (omega arith) c.in-Some.ensures.words c.in_ok-put_word.ensures.put c.kept.invariant.0,
  c.in_ok-put_word.ensures.counted ∙ c.kept.invariant.1,
)

pub returns-clause-put : goal.returns-clause-put
returns-clause-put c =
    let words = words_after c.kept.rest.now in
    let put : c.kept.text ++ spaced (plain_options words) ≡ _ =
    ap (λ (ws : List (List ℕ)). c.kept.text ++ spaced ws) (sym (kept_all c.kept._i words (omega arith))) ∙ c.kept.invariant.0 in
    subst (λ (text : List ℕ). OnOk c.put_options.result (c.put_options.new.text ≡ text)) put c.put_options.ensures.put
