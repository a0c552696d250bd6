use Rattle.std.proofs.Common.{◌≡◌, ◌++◌, codes, take}
use Rattle.std.specs.Fmt.{signed_decimal}
use Rattle.std.specs.List.{flat_map}
use Rattle.proof_text.proofs.write.push_literals.Given as goal

abbrev pub invariant-loop-literal : goal.invariant-loop-literal
invariant-loop-literal l = l.text.items
    ≡ l.fn.text.items ++ flat_map (λ literal. signed_decimal literal ++ codes " ") (take l.literal-index l.clause)
