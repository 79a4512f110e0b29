-- The messages of a dump are messages as a socket reads them.
use Rattle.std.proofs.Common.{◌≡◌, ℕ, List, inl, refl, ◌∙◌, arith}
use Rattle.std.specs.Prelude.{Option}
use Rattle.std.specs.List.{AllByRecursion}
use Rattle.sock_addrs.specs.declared.errno.Errno.{Errno}
use Rattle.radix_tree.proofs.ListLemmas.{all_weaker}
use Rattle.route_msgs.specs.Layout.{number_at}
use Rattle.listeners.specs.Queue.{AreMessages, IsMessage, cut, length_field}
use Rattle.listeners.proofs.QueueLemmas.{cut-joined, whole-joined}
use Rattle.table_dump.specs.Dumps.{IsWhole, bytes_of, dump_fault, fitting, shown_of}
use Rattle.route_core.specs.Step.{Steps, effect}
use Rattle.route_core.specs.World.{World}
use Rattle.route_core.specs.declared.answer.Answer.TheVariants.{Messages}
use Rattle.route_core.specs.declared.command.Command.TheVariants.{Dump}

says_length : (m : List ℕ) → length_field m ≡ number_at 0 2 m
unfolding number_at
says_length m = omega arith

is_message : (m : List ℕ) → IsWhole m → IsMessage m
is_message m whole = record { least = omega (arith, whole.least); says_length = says_length m ∙ whole.says_size }

all_messages : (ms : List (List ℕ)) → AllByRecursion IsWhole ms → AllByRecursion IsMessage ms
all_messages ms whole = all_weaker IsWhole IsMessage is_message ms whole

pub dumped_are_messages : (ms : List (List ℕ)) (bytes : List ℕ) → bytes ≡ bytes_of ms → AllByRecursion IsWhole ms
    → AreMessages bytes
dumped_are_messages ms bytes is whole = rw is (whole-joined ms (all_messages ms whole))

dumped_are_cut : (ms : List (List ℕ)) (bytes : List ℕ) → bytes ≡ bytes_of ms → AllByRecursion IsWhole ms
    → cut bytes ≡ ms
dumped_are_cut ms bytes is whole = rw is (cut-joined ms (all_messages ms whole))

-- so a dump is the machine's
pub dumped : (w : World) (flags : Option ℕ) (room : ℕ) (bytes : List ℕ) (fault : Option Errno)
    → let ms = shown_of flags w.interfaces w.table in
    bytes ≡ bytes_of (fitting room ms) → AllByRecursion IsWhole (fitting room ms) → fault ≡ dump_fault room ms
    → Steps w (Dump flags room) (Messages (cut bytes) fault) w
unfolding effect
dumped w flags room bytes fault is whole by =
    inl (rw (dumped_are_cut (fitting room (shown_of flags w.interfaces w.table)) bytes is whole, by) refl)
