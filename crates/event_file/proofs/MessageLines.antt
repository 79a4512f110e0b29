-- The lines of messages, written or kept back one after another.
use Rattle.std.proofs.Common.{◌≡◌, ℕ, List, [], ◌∷◌, ◌++◌, Option, refl, sym, ap, ◌∙◌, append_assoc, append-nil}
use Rattle.std.proofs.lemmas.Grind.{flat_map-append}
use Rattle.std.specs.Prelude.{flat_map}
use Rattle.event_file.specs.Answers.{message_line}
use Rattle.event_file.specs.Counts.{Counts}
use Rattle.event_file.specs.Output.{KeptBack, WroteFront}
use Rattle.route_core.specs.Received.{cut, AreMessages}
use Rattle.event_file.proofs.Fronts.{KeptBack-then, KeptBack-stopped, WroteFront-more}

abbrev pub lines : List (List ℕ) → List ℕ
lines messages = flat_map message_line messages

pub lines-append : (ms ns : List (List ℕ)) → lines (ms ++ ns) ≡ lines ms ++ lines ns
lines-append ms ns = flat_map-append message_line ms ns

-- of the messages of the bytes, the lines of those before the rest were written or are kept back
pub record KeptMessages {T : Type 0} (contents : T → Option (List ℕ)) (old new : Counts T) (bytes rest kept : List ℕ) : Type 0 where
  pub messages : List (List ℕ)
  pub parted : cut bytes ≡ messages ++ cut rest
  pub back : KeptBack contents old new (lines messages) kept
  pub whole : AreMessages rest

module _ {T : Type 0} {contents : T → Option (List ℕ)} where
  -- that of one more
  pub KeptMessages-more : {a b c : Counts T} {bytes rest kept now : List ℕ} (m left : List ℕ) → KeptMessages contents a b bytes rest kept → cut rest ≡ m ∷ cut left → AreMessages left
      → KeptBack contents b c (kept ++ message_line m) now → KeptMessages contents a c bytes left now
  KeptMessages-more {a} {b} {c} {bytes} {rest} {kept} {now} m left p e h q = record {
    messages = p.messages ++ m ∷ [];
    parted = p.parted ∙ ap (λ ms. p.messages ++ ms) e ∙ sym (append_assoc p.messages (m ∷ []) (cut left));
    back = rw (lines-append p.messages (m ∷ []), append-nil (message_line m)) (KeptBack-then (message_line m) p.back q);
    whole = h;
  }

  -- the next one stopped in its line
  pub KeptMessages-stopped : {a b c : Counts T} {bytes rest kept : List ℕ} (m left : List ℕ) → KeptMessages contents a b bytes rest kept → cut rest ≡ m ∷ cut left
      → WroteFront contents b c (kept ++ message_line m) → WroteFront contents a c (lines (cut bytes))
  KeptMessages-stopped {a} {b} {c} {bytes} {rest} {kept} m left p e q =
      let all : lines (cut bytes) ≡ lines p.messages ++ (message_line m ++ lines (cut left)) =
      ap lines (p.parted ∙ ap (λ ms. p.messages ++ ms) e) ∙ lines-append p.messages (m ∷ cut left) in
      let before : lines (cut bytes) ≡ (lines p.messages ++ message_line m) ++ lines (cut left) =
      all ∙ sym (append_assoc (lines p.messages) (message_line m) (lines (cut left))) in
      rw before (WroteFront-more (lines (cut left)) (KeptBack-stopped (message_line m) p.back q))
