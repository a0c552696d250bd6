use Rattle.machine_model.specs.Instruction.{effect_of}
use Rattle.concrete_machine.proofs.effect.apply.Goals as goal

pub returns-in-Load : goal.returns-in-Load
unfolding effect_of
returns-in-Load c number frame is = rw (c.in-Load.is, ← c.number_at-in-Load.ensures) (c.load.ensures frame is)

pub returns-in-Binary : goal.returns-in-Binary
unfolding effect_of
returns-in-Binary c number frame is = rw (c.in-Binary.is, ← c.number_at.ensures, ← c.setting.view_is) (c.compute.ensures frame c.args.objects.now is)
