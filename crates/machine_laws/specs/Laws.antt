-- What holds of every turn and run, whatever the module, the input, the watched sites and the listed turns.
use Rattle.std.specs.Prelude.{◌≡◌, ◌≢◌, ℕ, ◌+◌, ◌<◌, ◌≤◌, List, [], length}
use Rattle.ir_types.specs.declared.instruction.Inst.{Inst}
use Rattle.ir_types.specs.declared.«module».Module.{Module}
use Rattle.run_types.specs.declared.run.Outcome.TheVariants.{Spent}
use Rattle.machine_model.specs.declared.state.Frame.{Frame}
use Rattle.machine_model.specs.declared.state.Object.{Object}
use Rattle.machine_model.specs.Decision.{most_numbers, next_number, numbers_of, numbers_within}
use Rattle.machine_model.specs.Effect.{Footprint}
use Rattle.machine_model.specs.Run.{first_course, run_from, run_of}
use Rattle.machine_model.specs.Setting.{Setting}
use Rattle.machine_model.specs.System.{System}
use Rattle.machine_model.specs.Turn.{steps_within, steps_from}

-- how many numbers an instruction is allowed makes no difference, once it is as many as any decides
abbrev pub NumbersNeedNoMore : Type 0
NumbersNeedNoMore =
    (code : Module) (objects : List Object) (frame : Frame) (addresses : List ℕ) (inst : Inst) (most : ℕ) →
    most_numbers ≤ most →
    numbers_within most (next_number code objects frame addresses inst) [] ≡ numbers_of code objects frame addresses inst

-- how many instructions a turn is allowed makes no difference, once it is more than the steps that are left
abbrev pub TurnNeedsNoMore : Type 0
TurnNeedsNoMore =
    (setting : Setting) (number : ℕ) (footprint : Footprint) (left : ℕ) (decided : List ℕ) (most : ℕ) →
    left < most → steps_within most setting number footprint left decided ≡ steps_from setting number footprint left decided

-- how many turns a run is allowed makes no difference, once it is more than its budget
abbrev pub RunNeedsNoMore : {S : Type 0} → System S → Type 0
RunNeedsNoMore system =
    (listed : List ℕ) (steps most : ℕ) →
    steps < most → run_from most system listed (first_course system steps) ≡ run_of system listed steps

-- a run's turns and items are together at most its budget and one more: the exit status, or the turn that was cut
abbrev pub RunIsWithinBudget : {S : Type 0} → System S → Type 0
RunIsWithinBudget system =
    (listed : List ℕ) (steps : ℕ) →
    length (run_of system listed steps).turns + length (run_of system listed steps).output ≤ steps + 1

-- a larger budget changes nothing of a run that was not spent
abbrev pub LargerBudgetKeepsRun : {S : Type 0} → System S → Type 0
LargerBudgetKeepsRun system =
    (listed : List ℕ) (steps more : ℕ) →
    steps ≤ more → (run_of system listed steps).outcome ≢ Spent →
    run_of system listed more ≡ run_of system listed steps
