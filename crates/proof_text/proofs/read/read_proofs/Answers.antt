use Rattle.std.proofs.Common.{◌∙◌, ap, length, arith}
use Rattle.std.specs.Prelude.{◌==◌}
use Rattle.std.proofs.lemmas.List.Sums.{count_by-le-length}
use Rattle.std.proofs.lemmas.List.Splits.{length-slice_split}
use Rattle.proof_text.proofs.read.read_proofs.Goals as goal

pub overflow_add-number : goal.overflow_add-number
overflow_add-number c =
    let parts = ap length c.new-lines.ensures ∙ length-slice_split (λ b. b == 10) c.args.text.now in
    let few = count_by-le-length (λ b. b == 10) c.args.text.now in
    let small = c.requires in
    let counted = c.lines.invariant.count in
    let one = ap length c.in-Some.ensures in
    omega (arith, parts, few, small, counted, one)
