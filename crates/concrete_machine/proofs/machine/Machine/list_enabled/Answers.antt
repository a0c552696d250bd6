use Rattle.std.proofs.Common.{◌≡◌, ◌<◌, ◌++◌, ◌∷◌, [], All, List, ℕ, length, ◌≤◌, sym, ap, ◌∙◌, subst, arith, rules}
use Rattle.std.specs.List.{filter, range_with_len}
use Rattle.std.proofs.lemmas.Grind.{common_steps}
use Rattle.std.proofs.lemmas.List.Elements.{All-push}
use Rattle.machine_model.specs.Enabled.{enabled, is_enabled}
use Rattle.concrete_machine.specs.Machine.{Machine}
use Rattle.concrete_machine.proofs.Enabled.{filter_more}
use Rattle.concrete_machine.proofs.machine.Machine.list_enabled.Goals as goal
use Rattle.concrete_machine.proofs.machine.Machine.list_enabled.Goals.{then-enabled+in_ok-push, else-enabled}

pub loop-thread-preserved : goal.loop-thread-preserved
loop-thread-preserved c =
    let Few : List ℕ → Type 0 = λ listed. All (λ thread. thread < 16) listed in
    let small : c.loop-thread.thread < 16 = omega (arith, c.loop-thread-test.true, c.min-most.ensures) in (
      let more = filter_more (is_enabled c.args.code.now c.args.self.now.state) c.loop-thread.thread in
          let before = c.loop-thread.invariant.0 in
          let answer = c.enabled.ensures in
          elim c.if-enabled.branch [
            | then-enabled+in_ok-push w ↦ grind (arith, common_steps, more)
            | else-enabled w ↦ grind (arith, common_steps, more)
          ],
      elim c.if-enabled.branch [
        | then-enabled+in_ok-push w ↦
            let items : c.if-enabled.list.items ≡ c.loop-thread.list.items ++ c.loop-thread.thread ∷ [] = grind (arith, common_steps) in
            subst Few (sym items) (All-push (λ thread. thread < 16) c.loop-thread.list.items c.loop-thread.thread c.loop-thread.invariant.1 small)
        | else-enabled w ↦
            let items : c.if-enabled.list.items ≡ c.loop-thread.list.items = grind (arith, common_steps) in
            subst Few (sym items) c.loop-thread.invariant.1
      ],
    )

pub returns-clause-value : goal.returns-clause-value
unfolding enabled
returns-clause-value c =
    let threads = c.args.self.now.state.threads in
    let count : c.len.result ≡ length threads =
    c.len.ensures ∙ ap (λ (machine : Machine). length machine.state.threads) c.self.view_is in
    let few : length threads ≤ 16 = search rules in
    let all : c.loop-thread.thread ≡ length threads =
    omega (arith, count, few, c.loop-thread-test.false, c.loop-thread.auto.thread-end, c.min-most.ensures) in
    c.loop-thread.invariant.0
    ∙ ap (λ n. filter (is_enabled c.args.code.now c.args.self.now.state) (range_with_len 0 n)) all
