use Rattle.ir_names.proofs.Numbers.{lead_low, lead_high, lead_next}
use Rattle.ir_names.proofs.number.lead_of.Goals as goal

pub loop-behind-preserved : goal.loop-behind-preserved
loop-behind-preserved c =
    lead_next c.args.digits.now c.args.others.now c.loop-behind.behind c.loop-behind.lead c.digit_at-digit.result c.digit_at-other.result c.lead_with-lead.result
    c.loop-behind-test.true c.loop-behind.invariant c.digit_at-digit.ensures.value c.digit_at-other.ensures.value c.digit_at-digit.ensures.small c.digit_at-other.ensures.small c.lead_with-lead.ensures

pub returns-else-lead-lt-MOST : goal.returns-else-lead-lt-MOST
returns-else-lead-lt-MOST c = lead_high c.args.digits.now c.args.others.now c.loop-behind.lead c.loop-behind.behind c.if-lead-lt-MOST.false c.loop-behind.invariant

pub returns-else-lead-gt0 : goal.returns-else-lead-gt0
returns-else-lead-gt0 c = lead_low c.args.digits.now c.args.others.now c.loop-behind.lead c.loop-behind.behind c.if-lead-gt0.false c.loop-behind.invariant
