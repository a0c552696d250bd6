-- What a run with the repeat test gives from a course on, turn by turn.
use Rattle.std.proofs.Common.{◌≡◌, ℕ, zero, suc, ◌+◌, Bool, true, false, cond, List, [], ◌∷◌, ◌++◌, length, refl, sym, ◌∙◌, arith}
use Rattle.run_types.specs.declared.run.Outcome.TheVariants as outcomes
use Rattle.run_types.specs.declared.run.Run.{Run}
use Rattle.machine_model.specs.declared.state.State.{State}
use Rattle.machine_model.specs.Begun.{begun_by}
use Rattle.machine_model.specs.Begun.Begun.{Complete, Ready}
use Rattle.machine_model.specs.Repeat.{Snapshot, earlier_turn, repeats, snapshot_of}
use Rattle.machine_model.specs.Run.{Advance, Course, advanced, concluded}
use Rattle.machine_model.specs.Run.Advance.{Onward, Over}
use Rattle.machine_model.specs.System.{System}
use Rattle.machine_model.specs.TestedRun.{tested_after, tested_from, tested_on}
use Rattle.concrete_machine.specs.Course.{course_of}
use Rattle.race_top.specs.declared.order_enforcer.past.Past.{Past}
use Rattle.race_top.specs.declared.order_enforcer.tested.Tested.{Tested}
use Rattle.race_top.specs.declared.order_enforcer.tested.Tested.TheVariants as answers
use Rattle.race_top.specs.Past.{Recalls}
use Rattle.race_top.specs.Tested.{Tests}

-- the run from this course on, of at most `most` turns, with what is kept for the repeat test
pub record Remains (most : ℕ) (system : System State) (listed : List ℕ) (past : Past) (course : Course State) (run : Run) : Type 0 where
  pub snapshots : List (Snapshot State)
  pub recalls : Recalls snapshots past
  pub same : tested_from most system listed snapshots course ≡ run

-- what is said of each list of snapshots that is recalled
abbrev pub OfRecalled : Past → (List (Snapshot State) → Type 0) → Type 0
OfRecalled past P = (snapshots : List (Snapshot State)) → Recalls snapshots past → P snapshots

pub remains-begun : (most : ℕ) (system : System State) (listed : List ℕ) (snapshots : List (Snapshot State))
    (past : Past) (course : Course State) →
    most ≡ course.left + 1 → Recalls snapshots past →
    Remains most system listed past course (tested_on system listed snapshots course)
remains-begun most system listed snapshots past course all recalls =
    record { snapshots = snapshots; recalls = recalls; same = rw all refl }

-- a turn after which the run goes on, or is over
module _ {S : Type 0} (system : System S) (go : List (Snapshot S) → Course S → Run) (past : List (Snapshot S)) where
  on-ready : (advance : Advance S) (kept : List (Snapshot S)) (next : Course S) →
      begun_by system past advance ≡ Ready kept next → tested_after system go past advance ≡ go kept next
  on-ready (Over last outcome) kept next is = absurd (let h : ⊥ = cc in h)
  on-ready (Onward course) kept next is = by_test (repeats system past (snapshot_of course)) is
    where
      over : Run
      over = concluded system course (outcomes.Repeats (length past) (earlier_turn (length past)))

      all : List (Snapshot S)
      all = past ++ snapshot_of course ∷ []

      by_test : (repeat : Bool) → cond repeat (Complete over) (Ready all course) ≡ Ready kept next →
          cond repeat over (go all course) ≡ go kept next
      by_test true is = absurd (let h : ⊥ = cc in h)
      by_test false is = cc

  on-complete : (advance : Advance S) (run : Run) → begun_by system past advance ≡ Complete run →
      tested_after system go past advance ≡ run
  on-complete (Over last outcome) run is = cc
  on-complete (Onward course) run is = by_test (repeats system past (snapshot_of course)) is
    where
      over : Run
      over = concluded system course (outcomes.Repeats (length past) (earlier_turn (length past)))

      all : List (Snapshot S)
      all = past ++ snapshot_of course ∷ []

      by_test : (repeat : Bool) → cond repeat (Complete over) (Ready all course) ≡ Complete run →
          cond repeat over (go all course) ≡ run
      by_test true is = cc
      by_test false is = absurd (let h : ⊥ = cc in h)

-- after a turn the run goes on with one turn less, or that is how it ends
abbrev pub GoesOn : ℕ → System State → List ℕ → Tested → Run → Type 0
GoesOn rest system listed (answers.Onward course past) run = Remains rest system listed past (course_of course) run
GoesOn rest system listed (answers.Over ended) run = ended ≡ run

pub remains-after : (most rest : ℕ) (system : System State) (listed : List ℕ) (past : Past) (course : Course State)
    (tested : Tested) (run : Run) → most ≡ rest + 1 →
    OfRecalled past (λ snapshots. Tests tested (begun_by system snapshots (advanced system listed course))) →
    Remains most system listed past course run → GoesOn rest system listed tested run
unfolding tested_from
remains-after zero rest system listed past course tested run count tests from = absurd (omega arith)
remains-after (suc most) rest system listed past course (answers.Onward next noted) run count tests from =
    let test = tests from.snapshots from.recalls in
    let same : rest ≡ most = omega arith in
    record {
      snapshots = test.0;
      recalls = test.1;
      same = rw same
          (sym (on-ready system (tested_from most system listed) from.snapshots (advanced system listed course) test.0
          (course_of next) test.2) ∙ from.same);
    }
remains-after (suc most) rest system listed past course (answers.Over ended) run count tests from =
    sym (on-complete system (tested_from most system listed) from.snapshots (advanced system listed course) ended
    (tests from.snapshots from.recalls)) ∙ from.same

-- where no turn is allowed any more, it is spent
pub remains-spent : (most : ℕ) (system : System State) (listed : List ℕ) (past : Past) (course : Course State)
    (run : Run) →
    most ≡ 0 → Remains most system listed past course run → concluded system course outcomes.Spent ≡ run
unfolding tested_from
remains-spent zero system listed past course run none from = from.same
remains-spent (suc most) system listed past course run none from = absurd (omega arith)
