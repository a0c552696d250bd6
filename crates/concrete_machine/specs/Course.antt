-- The run so far that the code keeps, in terms of the definitions.
use Rattle.std.specs.Prelude.{◌≡◌, ℕ, Option, Some, None, Result, Ok, Err}
use Rattle.ir_types.specs.declared.«module».Module.{Module}
use Rattle.run_types.specs.declared.case.Case.{Case}
use Rattle.machine_model.specs.declared.state.State.{State}
use Rattle.machine_model.specs.Policy.{Choice}
use Rattle.machine_model.specs.Runnable.{IsRunnable}
use Rattle.machine_model.specs.Run.{Advance, Course}
use Rattle.machine_model.specs.Run.Advance.{Onward, Over}
use Rattle.rc_base.specs.declared.failures.NoMemory.{NoMemory}
use Rattle.concrete_machine.specs.declared.course.Advance.{Advance as Answer}
use Rattle.concrete_machine.specs.declared.course.Advance.TheVariants as answers
use Rattle.concrete_machine.specs.declared.course.Course.{Course as Kept}

abbrev pub course_of : Kept → Course State
course_of kept = record {
  state = kept.machine.state;
  left = kept.left;
  decided = kept.machine.decided;
  turns = kept.turns.items;
  policy = kept.policy.policy;
}

-- the run is of a module that can be run, and the chooser has the recorded turns
pub record IsOf (code : Module) (case : Case) (kept : Kept) : Type 0 where
  pub runnable : IsRunnable code
  pub listed : kept.policy.listed ≡ case.turns

abbrev pub advance_of : Answer → Advance State
advance_of (answers.Onward kept) = Onward (course_of kept)
advance_of (answers.Over kept outcome) = Over (course_of kept) outcome

-- and so it is where the run goes on
abbrev pub GoesOn : Module → Case → Answer → Type 0
GoesOn code case (answers.Onward kept) = IsOf code case kept
GoesOn code case (answers.Over kept outcome) = Unit {0}

-- the steps that are left
abbrev pub left_in : Answer → ℕ
left_in (answers.Onward kept) = kept.left
left_in (answers.Over kept outcome) = kept.left

-- a choice by which the chooser came to be as it is
abbrev pub choice_of : ℕ → Course State → Choice
choice_of thread course = record { thread = thread; next = course.policy }

-- the thread that is chosen, and the chooser after it; where there is none nothing changes
abbrev pub ChoosesTurn : Result (Option ℕ) NoMemory → Course State → Course State → Option Choice → Type 0
ChoosesTurn (Err refused) before after choice = Unit {0}
ChoosesTurn (Ok None) before after choice = (choice ≡ None) × (after ≡ before)
ChoosesTurn (Ok (Some thread)) before after choice =
    (choice ≡ Some (choice_of thread after)) × (after ≡ record before { policy = after.policy })
