use Rattle.std.proofs.Common.{refl, sym, ◌∙◌}
use Rattle.machine_model.specs.Follow.{Follow}
use Rattle.turn_policy.specs.Policy.{free_threads}
use Rattle.turn_policy.proofs.Choices.{follow-entry, follow-none, follow-past, position-left}
use Rattle.turn_policy.proofs.policy.Policy.follow_without.Goals as goal

pub returns-in_err-first-clause-choice : goal.returns-in_err-first-clause-choice
returns-in_err-first-clause-choice c =
    rw (
      c.from_residual.ensures,
      follow-none c.args.self.now.listed c.args.self.now.policy.follow (free_threads c.args.held c.args.enabled.now)
          (sym c.next_above.ensures ∙ c.in_err-first.was),
    )
    refl

pub returns-in-Some-clause-choice : goal.returns-in-Some-clause-choice
returns-in-Some-clause-choice c =
    let listed = c.self.inside.listed in
    let place = c.self.inside.position in
    let follow : Follow = record { position = place; last = c.self.inside.last } in
    let threads = free_threads c.args.held c.args.enabled.now in
    let some = sym c.next_above.ensures ∙ c.in_ok-first.was in
    let rest = position-left threads listed c.as_slice-listed.result.now place c.as_slice-listed.ensures in
    rw (
      ← c.self.view_is,
      c.from.ensures,
      c.as_slice-listed.ensures,
      follow-entry listed follow threads c.in_ok-first.first c.in-Some.entry some (rest ∙ sym c.next_listed.ensures ∙ c.in-Some.is),
    )
    refl

pub returns-in-None-clause-choice : goal.returns-in-None-clause-choice
returns-in-None-clause-choice c =
    let listed = c.self.inside.listed in
    let place = c.self.inside.position in
    let follow : Follow = record { position = place; last = c.self.inside.last } in
    let threads = free_threads c.args.held c.args.enabled.now in
    let some = sym c.next_above.ensures ∙ c.in_ok-first.was in
    let rest = position-left threads listed c.as_slice-listed.result.now place c.as_slice-listed.ensures in
    rw (
      ← c.self.view_is,
      c.unwrap_or.ensures,
      c.next_above-in-None.ensures,
      c.as_slice-listed.ensures,
      follow-past listed follow threads c.in_ok-first.first some (rest ∙ sym c.next_listed.ensures ∙ c.in-None.is),
    )
    refl
