-- The run of a case that its races are judged against.
use Rattle.ir_types.specs.declared.input.Input.{Input}
use Rattle.ir_types.specs.declared.«module».Module.{Module}
use Rattle.run_types.specs.declared.case.Case.{Case}
use Rattle.run_types.specs.declared.run.Run.{Run}
use Rattle.machine_model.specs.Run.{run_of}
use Rattle.machine_model.specs.Setting.{Setting}
use Rattle.machine_model.specs.System.{machine_of}

abbrev pub setting_of : Module → Case → Input → Setting
setting_of code case input = record { code = code; input = input; watch = case.watch }

-- an input's primary follows the recorded turns from the start
abbrev pub Primary : Module → Case → Input → Run
Primary code case input = run_of (machine_of (setting_of code case input)) case.turns case.steps
