use Rattle.std.proofs.Common.{◌∙◌, ◌+◌, ◌++◌, ap, sym, take, arith}
use Rattle.std.proofs.lemmas.List.Folds.{flat_map-map}
use Rattle.text_lines.specs.Part.{lines_text}
use Rattle.refutation.specs.declared.proof.Proof.{Proof}
use Rattle.proof_text.specs.Entry.{entry_of}
use Rattle.proof_text.specs.Text.{entry_lines}
use Rattle.proof_text.proofs.Written.{lines-pushed}
use Rattle.proof_text.proofs.write.push_proofs.Goals as goal

pub loop-proof-preserved : goal.loop-proof-preserved
loop-proof-preserved c =
    lines-pushed (λ (proof : Proof). entry_lines (entry_of proof)) c.args.proofs.now c.loop-proof.proof-index c.proof-item.result c.args.text.now.items
    c.loop-proof.text.items c.push_proof.new.text.items (omega arith) c.proof-item.is
    (c.loop-proof.invariant ∙ ap (λ lines. c.args.text.now.items ++ lines_text lines) (flat_map-map entry_lines entry_of (take c.loop-proof.proof-index c.args.proofs.now)))
    c.in_ok-push_proof.ensures
    ∙ ap (λ lines. c.args.text.now.items ++ lines_text lines) (sym (flat_map-map entry_lines entry_of (take (c.loop-proof.proof-index + 1) c.args.proofs.now)))
