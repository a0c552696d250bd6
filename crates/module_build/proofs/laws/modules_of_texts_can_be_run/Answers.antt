use Rattle.machine_model.specs.Runnable.{IsRunnable}
use Rattle.module_build.proofs.Texts.{texts_hold}
use Rattle.module_build.proofs.laws.modules_of_texts_can_be_run.Goals as goal

pub returns : goal.returns
returns c = texts_hold IsRunnable c.accepted_modules_can_be_run.ensures c.read_is_spelled.ensures.read c.tokens_are_few.ensures
