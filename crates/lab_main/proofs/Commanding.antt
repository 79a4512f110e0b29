-- What is answered to a line that is a command, or was meant to be one.
use Rattle.std.proofs.Common.{◌≡◌, ◌≢◌, ℕ, Bool, true, false, List, [], Result, Ok, Err, refl, sym, subst}
use Rattle.std.specs.Prelude.{Decides, OnOk, MatchBool, if◌then◌else◌}
use Rattle.std.proofs.lemmas.Slice.Eq.{bytes_eq-Decides}
use Rattle.std.specs.Str.{bytes_eq}
use Rattle.event_file.specs.Lines.{is_passed, kept}
use Rattle.plain_lines.specs.PlainLines.{plain_of}
use Rattle.route_core.specs.World.{World}
use Rattle.lab_main.specs.Questions.{is_question}
use Rattle.lab_main.specs.Texts.{told_plainly}
use Rattle.lab_main.specs.Telling.{Answers, Obeys, Says, answer_to, plainly}

pub on_ok : {A E P Q : Type 0} (r : Result A E) → (P → Q) → OnOk r P → OnOk r Q
on_ok (Ok v) f p = f p
on_ok (Err e) f p = p

other_else : (b : Bool) (p line xs : List ℕ) → Decides b (p ≡ line) → p ≢ line → (if b then [] else xs) ≡ xs
other_else true p line xs d differs = absurd (differs (d.0 refl))
other_else false p line xs d differs = refl

pub plainly_other : (line : List ℕ) → plain_of line ≢ line → plainly line ≡ told_plainly (plain_of line)
plainly_other line differs = other_else (bytes_eq (plain_of line) line) (plain_of line) line (told_plainly (plain_of line))
    (bytes_eq-Decides (plain_of line) line) differs

pub command_answered : (old : World) (line body : List ℕ) (new : World) (before after : ℕ) → is_question line ≡ false → is_passed (kept line) ≡ false
    → Obeys old (plain_of line) (plainly line) body new before after → Answers old line body new before after
command_answered old line body new before after asks passed obeys =
    let obeyed = Obeys old (plain_of line) (plainly line) body new before after in
    let nothing = Says [] old body new before after in
    subst (λ b. MatchBool b (Says (answer_to line old) old body new before after) (MatchBool (is_passed (kept line)) nothing obeyed)) (sym asks)
    (subst (λ b. MatchBool b nothing obeyed) (sym passed) obeys)

pub answers_as : (line body : List ℕ) (a b c d : World) (k l m n : ℕ) → c ≡ a → d ≡ b → l ≡ k → n ≡ m → Answers a line body b k m → Answers c line body d l n
answers_as line body a b c d k l m n old new before after answers =
    subst (λ w. Answers w line body d l n) (sym old) (subst (λ w. Answers a line body w l n) (sym new)
    (subst (λ r. Answers a line body b r n) (sym before) (subst (λ r. Answers a line body b k r) (sym after) answers)))
