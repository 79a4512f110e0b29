use Rattle.std.proofs.Common.{◌++◌, ◌∷◌, [], ◌∙◌, take, append_assoc, ap, slice_index, rules}
use Rattle.conv_main.proofs.Grown.{taken_one}
use Rattle.conv_main.proofs.texts.append.Goals as goal

pub bytes-preserved : goal.bytes-preserved
bytes-preserved c =
    let bytes = c.args.bytes.now in let i = c.bytes.i in let byte = slice_index bytes i in
    record {
      text = c.in_ok-push.ensures.ok ∙ ap (λ l. l ++ byte ∷ []) c.bytes.invariant.text
          ∙ append_assoc c.args.text.now.items (take i bytes) (byte ∷ [])
          ∙ ap (λ l. c.args.text.now.items ++ l) (taken_one bytes i c.bytes-test.true);
      memory = search rules;
    }
