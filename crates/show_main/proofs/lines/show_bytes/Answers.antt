use Rattle.std.proofs.Common.{◌∙◌, ◌++◌, sym, rules}
use Rattle.show_main.specs.Shown.{shown_ended}
use Rattle.show_main.proofs.ShownLemmas.{ShowedFront-more, ShowedLines-all, ShowedLines-line, ShowedLines-stopped, begun_line-all, begun_line-parted, by_error, no_newline-append, shorter, shown_ended-parted}
use Rattle.show_main.proofs.lines.show_bytes.Goals as goal

pub returns-in_err-show_ended-clause-fault : goal.returns-in_err-show_ended-clause-fault
returns-in_err-show_ended-clause-fault g c =
    let line = c.loop-front.line.items in
    let front = c.in-Some.front.now in
    let parts = shown_ended-parted line front c.loop-front.rest.now c.in-Some.behind.now c.in-Some.ensures.whole c.loop-front.invariant.begun c.in-Some.ensures.first in
    by_error c.from_residual.result c.from_residual.ensures.1
    (λ f is. ShowedLines-stopped c.loop-front.invariant.shown (rw (parts, is) (ShowedFront-more (shown_ended c.in-Some.behind.now)
    c.in_err-show_ended.ensures.fault)))

pub loop-front-preserved : goal.loop-front-preserved
loop-front-preserved g c =
    let line = c.loop-front.line.items in
    let front = c.in-Some.front.now in
    record {
      begun = search rules;
      no_failure = search rules;
      memory = search rules;
      modest = shorter front c.in-Some.behind.now c.in-Some.ensures.whole c.loop-front.invariant.modest;
      shown = rw c.in_ok-show_ended.ensures.emptied (ShowedLines-line line front c.loop-front.rest.now c.in-Some.behind.now c.loop-front.invariant.shown c.in-Some.ensures.whole
          c.loop-front.invariant.begun c.in-Some.ensures.first c.in_ok-show_ended.ensures.shown);
      leaves = rw c.in_ok-show_ended.ensures.emptied (c.loop-front.invariant.leaves ∙ begun_line-parted line front c.loop-front.rest.now c.in-Some.behind.now c.in-Some.ensures.whole);
    }

pub returns-clause-shown : goal.returns-clause-shown
returns-clause-shown g c =
    ShowedLines-all (c.loop-front.line.items ++ c.loop-front.rest.now) c.loop-front.invariant.shown
    (no_newline-append c.loop-front.line.items c.loop-front.rest.now c.loop-front.invariant.begun c.in_default.ensures.none)

pub returns-clause-begun : goal.returns-clause-begun
returns-clause-begun g c =
    c.in_ok-extend.ensures.ok
    ∙ sym (begun_line-all (c.loop-front.line.items ++ c.loop-front.rest.now) (no_newline-append c.loop-front.line.items c.loop-front.rest.now c.loop-front.invariant.begun c.in_default.ensures.none))
    ∙ sym c.loop-front.invariant.leaves
