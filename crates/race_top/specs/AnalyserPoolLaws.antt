-- What the verdict asks of the results of a race's jobs, the jobs give.
use Rattle.std.specs.Prelude.{◌≡◌, true}
use Rattle.ir_types.specs.declared.«module».Module.{Module}
use Rattle.run_types.specs.declared.case.Case.{Case}
use Rattle.run_types.specs.declared.race.Race.{Race}
use Rattle.machine_model.specs.Reach.{Reaches}
use Rattle.race_verdict.specs.Results.{AreResults}
use Rattle.race_top.specs.AnalyserPool.{results_of}

abbrev pub JobsGiveResults : Type 0
JobsGiveResults =
    (code : Module) (case : Case) (race : Race) → Reaches code case race case.input ≡ true →
    AreResults 1 1 (results_of code case race)
