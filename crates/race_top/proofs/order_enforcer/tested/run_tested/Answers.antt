use Rattle.std.proofs.Common.{◌+◌, ◌-◌, ◌∙◌, arith}
use Rattle.machine_model.specs.Primary.{setting_of}
use Rattle.race_top.specs.declared.order_enforcer.tested.Tested.TheVariants as answers
use Rattle.race_top.proofs.Tested.{remains-after, remains-spent}
use Rattle.race_top.proofs.order_enforcer.tested.run_tested.Goals as goal

pub returns-in-Over : goal.returns-in-Over
returns-in-Over g c = λ snapshots recalls.
    remains-after _ (c.from-most.result + 1 - (c.loop.counter + 1)) _ _ _ _ (answers.Over c.in-Over.run') _ (omega arith)
    (rw c.in-Over.is at c.in_ok-next.ensures.tests) (c.loop.invariant.remains snapshots recalls)

pub loop-preserved : goal.loop-preserved
loop-preserved g c =
    let within = rw c.in-Onward.is at c.in_ok-next.ensures.within in
    record {
      short = omega (arith, within.2);
      remains = λ snapshots recalls.
          remains-after _ _ _ _ _ _ (answers.Onward c.in-Onward.next c.in-Onward.noted) _ (omega arith)
          (rw c.in-Onward.is at c.in_ok-next.ensures.tests) (c.loop.invariant.remains snapshots recalls);
      of = within.0;
    }

pub returns : goal.returns
returns g c = λ snapshots recalls.
    let setting = setting_of c.args.code.now c.args.case.now c.args.input.now in
    c.conclude.ensures setting ∙ remains-spent _ _ _ _ _ _ (omega arith) (c.loop.invariant.remains snapshots recalls)
