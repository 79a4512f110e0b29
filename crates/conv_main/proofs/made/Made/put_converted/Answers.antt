use Rattle.std.proofs.Common.{subst, sym}
use Rattle.conv_main.specs.Progress.{Begins}
use Rattle.conv_main.proofs.Grown.{begins_more, begins_self, begins_too}
use Rattle.conv_main.proofs.made.Made.put_converted.Goals as goal

pub returns-in_ok-append_digits-in-Lines-clause-err_out : goal.returns-in_ok-append_digits-in-Lines-clause-err_out
returns-in_ok-append_digits-in-Lines-clause-err_out c =
    let old = c.args.self.now.out.items in
    let first : Begins old c.append.new.text.items = subst (Begins old) (sym c.in_ok-append-in-Lines.ensures.ok) (begins_more old old _ (begins_self old)) in
    let second : Begins old c.append_digits.new.text.items =
    subst (Begins old) (sym c.in_ok-append_digits-in-Lines.ensures.ok) (begins_more old c.append.new.text.items _ first) in
    begins_too c.append-in-Lines.result old c.append_digits.new.text.items c.append-in-Lines.new.text.items second c.append-in-Lines.ensures.err
