-- The replies that the world delivers are messages.
use Rattle.std.proofs.Common.{◌≡◌, ℕ, ◌+◌, ◌<◌, ◌≤◌, Bool, true, false, not, ◌&&◌, nat_lt, ◌==◌, List, length, take, drop, ◌++◌, get_or, refl, sym, ap, ◌∙◌, arith, lit≤, lit<, length-append, length-drop, length-take-le, get_or-take, append_assoc}
use Rattle.std.specs.Prelude.{slice_index, if◌then◌else◌}
use Rattle.std.proofs.lemmas.List.{get_or_append_left}
use Rattle.std.proofs.lemmas.Bool.{eqb-true, ltb-false}
use Rattle.byteorder.specs.Endian.{big_bytes}
use Rattle.byteorder.specs.Numbers.{length-bytes_high_first}
use Rattle.sock_addrs.specs.Errno.{errno_number}
use Rattle.sock_addrs.specs.declared.errno.Errno.{Errno}
use Rattle.route_msgs.specs.Layout.{Field, field, number_at, with_field}
use Rattle.listeners.specs.Queue.{IsMessage, length_field}
use Rattle.route_core.specs.Effects.{IsEchoed}
use Rattle.route_msgs.specs.Patches.{with_pid}
use Rattle.route_msgs.specs.declared.patches.TheConstants.{ERRNO_OFFSET, FLAGS_OFFSET, PID_OFFSET}
use Rattle.route_core.specs.Requests.{done_reply}
use Rattle.route_core.specs.Writes.{keeps_pid, refused_reply}

-- the length that a message begins with is its first field
length_field_is : (m : List ℕ) → length_field m ≡ number_at 0 2 m
unfolding number_at
length_field_is m = omega arith

pub message_of_size : (m : List ℕ) → 20 ≤ length m → number_at 0 2 m ≡ length m → IsMessage m
message_of_size m least says = record { least = least; says_length = length_field_is m ∙ says }

-- bytes that are as long and begin alike are one message where the others are
pub record BeginsAs (old new : List ℕ) : Type 0 where
  pub size : length new ≡ length old
  first : slice_index new 0 ≡ slice_index old 0
  second : slice_index new 1 ≡ slice_index old 1

begins_as : (f : Field) (m : List ℕ) → 2 ≤ f.offset → f.offset + f.width ≤ length m → BeginsAs m (with_field f m)
unfolding with_field
begins_as f m behind fits =
    let front = take f.offset m in
    let bytes = big_bytes f.width f.value in
    let rest = drop (f.offset + f.width) m in
    let a : length front ≡ f.offset = length-take-le f.offset m (omega arith) in
    let b : length bytes ≡ f.width = length-bytes_high_first f.width f.value in
    let size : length (front ++ bytes ++ rest) ≡ length m =
    omega (
      arith,
      length-append (front ++ bytes) rest,
      length-append front bytes,
      length-drop (f.offset + f.width) m,
      a,
      b,
    ) in
    let at : (i : ℕ) → i < 2 → slice_index (front ++ bytes ++ rest) i ≡ slice_index m i = λ i less.
    ap (λ (xs : List ℕ). get_or xs i 0) (append_assoc front bytes rest)
    ∙ (get_or_append_left front (bytes ++ rest) 0 i (omega arith) ∙ get_or-take f.offset m i 0 (omega arith)) in
    record { size = size; first = at 0 (lit< tt); second = at 1 (lit< tt) }

still_message : (old new : List ℕ) → BeginsAs old new → IsMessage old → IsMessage new
still_message old new same is = record {
  least = rw same.size is.least;
  says_length = rw (same.first, same.second) (is.says_length ∙ sym same.size);
}

both : (a b : Bool) → (a && b) ≡ true → (a ≡ true) × (b ≡ true)
both true b h = (refl, h)
both false b h = cc

not_true : (b : Bool) → not b ≡ true → b ≡ false
not_true true h = cc
not_true false h = refl

-- what is echoed is long enough, and says its own length
pub whole : (m : List ℕ) → IsEchoed m → 76 ≤ length m
whole m is =
    ltb-false (length m) 76 (not_true _ (both (not (nat_lt (length m) 76)) (number_at 0 2 m == length m) is.whole).0)

echoed_is_message : (m : List ℕ) → IsEchoed m → IsMessage m
echoed_is_message m is =
    let long : 76 ≤ length m = whole m is in
    message_of_size m (omega arith) (eqb-true (number_at 0 2 m) (length m)
    (both (not (nat_lt (length m) 76)) (number_at 0 2 m == length m) is.whole).1)

-- a field that is written behind the length of an echoed message, and within its header
written : (f : Field) (m echoed : List ℕ) → IsEchoed m → BeginsAs m echoed → 2 ≤ f.offset → f.offset + f.width ≤ 76
    → BeginsAs m (with_field f echoed)
written f m echoed is so_far behind within =
    let long : 76 ≤ length echoed = rw so_far.size (whole m is) in
    let more = begins_as f echoed behind (omega (arith, within)) in
    record { size = more.size ∙ so_far.size; first = more.first ∙ so_far.first; second = more.second ∙ so_far.second }

unwritten : (m : List ℕ) → BeginsAs m m
unwritten m = record { size = refl; first = refl; second = refl }

pid_written : (pid : ℕ) (m : List ℕ) → IsEchoed m → BeginsAs m (with_pid pid m)
pid_written pid m is = written (field PID_OFFSET 4 pid) m m is (unwritten m) (lit≤ tt) (lit≤ tt)

pid_or_not : (pid : ℕ) (m : List ℕ) (keeps : Bool) → IsEchoed m → BeginsAs m (if keeps then m else with_pid pid m)
pid_or_not pid m true is = unwritten m
pid_or_not pid m false is = pid_written pid m is

refused_begins : (errno : Errno) (pid : ℕ) (m : List ℕ) → IsEchoed m → BeginsAs m (refused_reply errno pid m)
refused_begins errno pid m is =
    let before = pid_or_not pid m (keeps_pid errno) is in
    written (field ERRNO_OFFSET 4 (errno_number errno)) m _ is before (lit≤ tt) (lit≤ tt)

done_begins : (pid : ℕ) (m : List ℕ) → IsEchoed m → BeginsAs m (done_reply pid m)
done_begins pid m is = written (field FLAGS_OFFSET 4 _) m _ is (pid_written pid m is) (lit≤ tt) (lit≤ tt)

-- the replies that echo a message are messages
pub refused_is_message : (errno : Errno) (pid : ℕ) (m reply : List ℕ) → IsEchoed m → reply ≡ refused_reply errno pid m
    → IsMessage reply
refused_is_message errno pid m reply is e =
    rw e (still_message m (refused_reply errno pid m) (refused_begins errno pid m is) (echoed_is_message m is))

pub done_is_message : (pid : ℕ) (m reply : List ℕ) → IsEchoed m → reply ≡ done_reply pid m → IsMessage reply
done_is_message pid m reply is e =
    rw e (still_message m (done_reply pid m) (done_begins pid m is) (echoed_is_message m is))
