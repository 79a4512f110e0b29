use Rattle.std.proofs.Common.{codes}
use Rattle.line_faults.specs.Help.{all_option_lines}
use Rattle.line_faults.proofs.Putting.{put_last}
use Rattle.line_faults.proofs.help.put_options_help.Goals as goal

pub returns-clause-put : goal.returns-clause-put
returns-clause-put c = put_last c.put_all_options.result c.args.text.now (codes "  then options, in this order:\n") all_option_lines
    c.put_all_options.new.text c.in_ok-put.ensures.put c.put_all_options.ensures.put
