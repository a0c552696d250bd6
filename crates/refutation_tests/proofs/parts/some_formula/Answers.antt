use Rattle.std.specs.List.{IsDistinct}
use Rattle.std.proofs.lemmas.List.Elements.{All-nil}
use Rattle.refutation.specs.Literal.{IsLiteral}
use Rattle.refutation_tests.proofs.parts.some_formula.Goals as goal

pub push-requires : goal.push-requires
unfolding IsDistinct
push-requires c = (All-nil (IsLiteral c.new-formula.result.vars), tt)
