use Rattle.std.proofs.Common.{◌+◌, ◌∙◌, arith}
use Rattle.ir_read.proofs.Decimals.{value_more, value_too_large, value_whole}
use Rattle.ir_read.proofs.number.value_of.Goals as goal

pub loop-digit-preserved : goal.loop-digit-preserved
loop-digit-preserved c =
    let more = value_more c.args.digits.now c.loop-digit.digit-index c.requires (omega arith) in
    (omega (arith, c.in_ok-checked_mul.ensures, c.in_ok-value.ensures), omega (arith, c.in_ok-value.ensures))

pub returns-in_err-checked_mul : goal.returns-in_err-checked_mul
returns-in_err-checked_mul c =
    let more = value_more c.args.digits.now c.loop-digit.digit-index c.requires (omega arith) in
    c.from_residual.ensures ∙ value_too_large c.args.digits.now (c.loop-digit.digit-index + 1) (omega (arith, c.in_err-checked_mul.ensures))

pub returns-in_err-value : goal.returns-in_err-value
returns-in_err-value c =
    let more = value_more c.args.digits.now c.loop-digit.digit-index c.requires (omega arith) in
    c.from_residual-in_err-value.ensures ∙ value_too_large c.args.digits.now (c.loop-digit.digit-index + 1) (omega (arith, c.in_ok-checked_mul.ensures, c.in_err-value.ensures))

pub returns : goal.returns
returns c = value_whole c.args.digits.now c.loop-digit.digit-index c.loop-digit.value c.loop-digit-test.false c.loop-digit.invariant.0 c.loop-digit.invariant.1
