use Rattle.route_msgs.proofs.Patched.{errno_changed, flags_changed, pid_changed}
use Rattle.route_msgs.proofs.laws.changes_one_field.Goals as goal

pub returns-clause-flags : goal.returns-clause-flags
returns-clause-flags c = flags_changed

pub returns-clause-pid : goal.returns-clause-pid
returns-clause-pid c = pid_changed

pub returns-clause-errno : goal.returns-clause-errno
returns-clause-errno c = errno_changed
