use Rattle.std.proofs.Common.{set, ap, ◌∙◌, sym}
use Rattle.std.proofs.lemmas.List.Edits.{map_over_more}
use Rattle.machine_model.specs.Memory.{dead}
use Rattle.concrete_machine.proofs.thread_end.kill.Goals as goal

pub loop-object-preserved : goal.loop-object-preserved
loop-object-preserved c =
    let now = c.loop-object in
    let item = c.object-item.result in
    let killed = c.kill_one.ensures ∙ ap (dead c.args.bases.now) (sym c.object-item.is) in
    ap (λ object. set now.objects now.object-index object) killed
    ∙ map_over_more (dead c.args.bases.now) c.args.objects.now now.objects now.object-index item c.loop-object-test.true now.invariant c.object-item.is
