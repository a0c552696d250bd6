use Rattle.std.proofs.Common.{◌≡◌, None, Some, Ok, Err, arith}
use Rattle.std.specs.Prelude.{slice_get}
use Rattle.std.proofs.lemmas.Grind.{common_steps}
use Rattle.std.proofs.lemmas.Option.{slice_get_within}
use Rattle.concrete_machine.specs.Call.{joinable, stored}
use Rattle.concrete_machine.proofs.Calls.{calls-joined, calls-not_stored, calls-unjoinable, found-joinable}
use Rattle.concrete_machine.proofs.call.join.Goals as goal

pub returns-in_default-clause-value : goal.returns-in_default-clause-value
returns-in_default-clause-value c = λ others.
    let before = c.args.state.now in
    let o = c.state.view_is in
    let none : joinable (slice_get before.threads c.args.number) ≡ None = grind (arith, common_steps) in
    calls-unjoinable before others c.args.number c.args.at c.trap_of_join.result none
    (λ result. let is = c.trap_of_join.ensures result in grind (arith, common_steps))

pub returns-in-Err-clause-value : goal.returns-in-Err-clause-value
returns-in-Err-clause-value c = λ others.
    let before = c.args.state.now in
    let o = c.state.view_is in
    let may : joinable (slice_get before.threads c.args.number) ≡ Some c.in-Some.result = grind (arith, common_steps) in
    let refused : stored before.objects c.args.at c.in-Some.result ≡ Err c.in-Err.trap = grind (arith, common_steps) in
    let calls = calls-not_stored before others c.args.number c.args.at c.in-Some.result c.in-Err.trap may refused in
    (calls.0, grind (arith, common_steps))

pub mark_joined-requires : goal.mark_joined-requires
mark_joined-requires c =
    let before = c.args.state.now in
    let o = c.state.view_is in
    let may : joinable (slice_get before.threads c.args.number) ≡ Some c.in-Some.result = grind (arith, common_steps) in
    let found = found-joinable (slice_get before.threads c.args.number) c.in-Some.result may in
    let within = slice_get_within before.threads c.args.number found.0 found.1 in
    grind (arith, common_steps)

pub returns-clause-value : goal.returns-clause-value
returns-clause-value c = λ others.
    let before = c.args.state.now in
    let o = c.state.view_is in
    let may : joinable (slice_get before.threads c.args.number) ≡ Some c.in-Some.result = grind (arith, common_steps) in
    let stores : stored before.objects c.args.at c.in-Some.result ≡ Ok c.store.new.objects = grind (arith, common_steps) in
    let found = found-joinable (slice_get before.threads c.args.number) c.in-Some.result may in
    let marked = c.mark_joined.ensures.value found.0 in
    calls-joined before _ others c.args.number c.args.at c.in-Some.result c.store.new.objects found.0 found.1 may stores
    (grind (arith, common_steps))
