use Rattle.std.proofs.Common.{sym}
use Rattle.machine_model.proofs.Policies.{choice-enabled}
use Rattle.turn_policy.specs.Policy.{choice_of}
use Rattle.turn_policy.proofs.policy.Policy.choose.Goals as goal

-- what it picks is enabled
pub returns-clause-among : goal.returns-clause-among
returns-clause-among c =
    let chosen = rw c.in_ok-choice.was at c.next_choice.ensures.choice in
    (choice-enabled c.args.self.now.listed c.args.self.now.policy c.args.enabled.now (choice_of c.in_ok-choice.choice) (sym chosen)).0
