-- Runs of a module that has all of its rows: each step has its cost, and a run is spent only where its last step was cut.
use Rattle.std.proofs.Common.{◌≡◌, ◌≢◌, ℕ, zero, suc, ◌+◌, ◌<◌, List, [], ◌∷◌, Option, Some, None, refl, sym, ap, ◌∙◌, subst, arith}
use Rattle.std.specs.Prelude.{All, Contains}
use Rattle.std.proofs.lemmas.List.Elements.{All-cons, All-nil}
use Rattle.ir_types.specs.declared.input.Input.{Input}
use Rattle.ir_types.specs.declared.«module».Module.{Module}
use Rattle.run_types.specs.declared.case.Case.{Case}
use Rattle.run_types.specs.declared.run.Outcome.{Outcome}
use Rattle.run_types.specs.declared.run.Outcome.TheVariants as outcomes
use Rattle.run_types.specs.declared.run.Run.{Run}
use Rattle.run_types.specs.declared.run.TurnEnd.{TurnEnd}
use Rattle.run_types.specs.declared.run.TurnEnd.TheVariants as ends
use Rattle.machine_model.specs.declared.state.State.{State}
use Rattle.machine_model.specs.Charge.{HasCost, IsCut}
use Rattle.machine_laws.specs.JobLaws.{IsRepeat}
use Rattle.machine_laws.specs.JobReplays.{Replays}
use Rattle.machine_model.specs.Moment.{Moment, moments_from, moments_of, moments_with, onward_or_none}
use Rattle.machine_laws.specs.PendingLaws.{ArePending}
use Rattle.machine_model.specs.Policy.{Choice, choose}
use Rattle.machine_model.specs.Primary.{setting_of}
use Rattle.machine_model.specs.RowLaws.{RunIsCut, SpentJobIsCut, SpentRunIsCut, StepsHaveCosts, charges_at}
use Rattle.machine_model.specs.Rows.{HasRows}
use Rattle.machine_model.specs.Run.{Course, advanced, advanced_by, advanced_with, concluded, first_course, onward_or_concluded, run_from, run_of}
use Rattle.machine_model.specs.Setting.{Setting}
use Rattle.machine_model.specs.System.{System, machine_of}
use Rattle.machine_model.specs.Turn.{turn}
use Rattle.machine_laws.proofs.Charges.{IsCharged}
use Rattle.machine_laws.proofs.Endings.{EachAndLast, EndsIn, each-cons, each-last, each-none}
use Rattle.machine_laws.proofs.JobReplays.{alternate-replays, primary_job-replays}
use Rattle.machine_laws.proofs.Leading.{end_of, next_course, turn-less}
use Rattle.machine_laws.proofs.Machines.{machine-is_system}
use Rattle.machine_laws.proofs.PendingThreads.{started-are_pending, turn-keeps_pending}
use Rattle.machine_model.proofs.Policies.{choice-enabled}
use Rattle.machine_laws.proofs.Released.{may-run}
use Rattle.machine_laws.proofs.RowEffects.{Holds, IsSound, made-sound}
use Rattle.machine_laws.proofs.WholeTurns.{turn-charged}

module _ (setting : Setting) (rows : HasRows setting.code) where
  abbrev system : System State
  system = machine_of setting

  -- what holds between turns
  record Between (state : State) : Type 0 where
    pend : ArePending setting.code state
    sound : All (IsSound setting.code) state.threads

  abbrev HaveCosts : Moment State → Type 0
  HaveCosts moment = All HasCost (charges_at setting moment)

  abbrev RunIsCharged : Run → List (Moment State) → Type 0
  RunIsCharged run moments =
      EachAndLast HaveCosts (λ moment. EndsIn IsCut (charges_at setting moment)) (run.outcome ≡ outcomes.Spent) moments

  abbrev IsOn : ℕ → List ℕ → Type 0
  IsOn most listed =
      (course : Course State) → course.left < most → Between course.state →
      RunIsCharged (run_from most system listed course) (moments_from most system listed course)

  advance-charged : (most : ℕ) (listed : List ℕ) (course : Course State) (choice : Choice) → course.left < suc most →
      Between course.state → choose listed course.policy (system.enabled course.state) ≡ Some choice →
      IsOn most listed →
      RunIsCharged (onward_or_concluded system (run_from most system listed) (advanced_with system course (Some choice)))
      (moments_with (moments_from most system listed) system course (Some choice))
  advance-charged most listed course choice less between chosen rest = go (end_of system course choice) refl
    where
      moment : Moment State
      moment = record { before = course; thread = choice.thread }

      among : Contains (system.enabled course.state) choice.thread
      among = (choice-enabled listed course.policy (system.enabled course.state) choice chosen).0

      is : IsCharged (Holds setting choice.thread) (turn setting course.state choice.thread course.left) (charges_at setting moment)
      is = turn-charged setting rows choice.thread course.state course.left between.pend between.sound (may-run setting course.state choice.thread among)

      next : Course State
      next = next_course system course choice

      over : (outcome : Outcome) → outcome ≢ outcomes.Spent → RunIsCharged (concluded system next outcome) (moment ∷ [])
      over outcome goes = each-cons moment [] is.costs.each (each-none goes)

      go : (end : TurnEnd) → end_of system course choice ≡ end →
          RunIsCharged (onward_or_concluded system (run_from most system listed) (advanced_by choice.thread next end))
          (moment ∷ onward_or_none (moments_from most system listed) (advanced_by choice.thread next end))
      go ends.Going ending =
          each-cons moment _ is.costs.each
          (rest next (turn-less system (machine-is_system setting) course next choice most (rw ending refl) less)
          (record {
            pend = turn-keeps_pending setting course.state choice.thread course.left between.pend ending;
            sound = is.keeps.sound;
          }))
      go (ends.Exit status) ending = over (outcomes.Exit status) (λ spent. let h : ⊥ = cc in h)
      go (ends.Trap trap site) ending = over (outcomes.Trap trap choice.thread site) (λ spent. let h : ⊥ = cc in h)
      go ends.Spent ending = each-last moment is.costs.each (is.costs.last ending)

  run_from-charged : (most : ℕ) (listed : List ℕ) → IsOn most listed
  unfolding run_from moments_from advanced
  run_from-charged zero listed course less between = absurd (omega arith)
  run_from-charged (suc most) listed course less between =
      go (run_from-charged most listed) (choose listed course.policy (system.enabled course.state)) refl
    where
      go : IsOn most listed → (found : Option Choice) → choose listed course.policy (system.enabled course.state) ≡ found →
          RunIsCharged (onward_or_concluded system (run_from most system listed) (advanced_with system course found))
          (moments_with (moments_from most system listed) system course found)
      go rest None found = each-none (λ spent. let h : ⊥ = cc in h)
      go rest (Some choice) found = advance-charged most listed course choice less between found rest

  run_of-charged : (listed : List ℕ) (steps : ℕ) → RunIsCharged (run_of system listed steps) (moments_of system listed steps)
  unfolding run_of moments_of
  run_of-charged listed steps =
      run_from-charged (steps + 1) listed (first_course system steps) (omega arith)
      (record {
        pend = started-are_pending setting.code;
        sound = All-cons (IsSound setting.code) _ [] (made-sound setting.code setting.code.main [] rows rows.main) (All-nil (IsSound setting.code));
      })

pub steps-have_costs : StepsHaveCosts
steps-have_costs setting listed steps rows = (run_of-charged setting rows listed steps).each

pub spent_run-is_cut : SpentRunIsCut
spent_run-is_cut setting listed steps rows spent =
    let end = (run_of-charged setting rows listed steps).last spent in
    record {
      earlier = end.front;
      last = end.last;
      is_last = end.is;
      paid = end.holds.front;
      step = end.holds.last;
      is_its_last = end.holds.is;
      is_cut = end.holds.holds;
    }

-- the run of a job is the one that its turns give
replayed-is_cut : (code : Module) (case : Case) (input : Input) (run : Run) → HasRows code → Replays code case input run →
    RunIsCut code case input run
replayed-is_cut code case input run rows replays spent =
    let again = replays (subst (λ outcome. ¬ IsRepeat outcome) (sym spent) (λ repeat. repeat)) in
    spent_run-is_cut (setting_of code case input) run.turns case.steps rows (ap (λ (run : Run). run.outcome) again ∙ spent)

pub spent_job-is_cut : SpentJobIsCut
spent_job-is_cut code case race input rows = (
  replayed-is_cut code case input _ rows (primary_job-replays code case input),
  λ schedule run ran. replayed-is_cut code case input run rows (alternate-replays code case race input schedule run ran),
)
