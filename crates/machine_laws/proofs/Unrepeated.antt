-- A run that repeats no turn is the run without the repeat test.
use Rattle.std.proofs.Common.{◌≡◌, ℕ, zero, suc, ◌+◌, Bool, true, false, cond, List, ◌∷◌, [], ◌++◌, length, refl}
use Rattle.run_types.specs.declared.run.Outcome.TheVariants as outcomes
use Rattle.run_types.specs.declared.run.Run.{Run}
use Rattle.machine_laws.specs.JobLaws.{IsRepeat, UnrepeatedIsRun}
use Rattle.machine_model.specs.Repeat.{Snapshot, earlier_turn, repeats, snapshot_of}
use Rattle.machine_model.specs.Run.{Advance, Course, advanced, first_course, onward_or_concluded, run_from, run_of, concluded}
use Rattle.machine_model.specs.Run.Advance.{Onward, Over}
use Rattle.machine_model.specs.System.{System}
use Rattle.machine_model.specs.TestedRun.{tested_after, tested_from, tested_run}

-- from here on the runs are the same, unless the tested one repeats a turn
abbrev Agree : {S : Type 0} → (List (Snapshot S) → Course S → Run) → (Course S → Run) → Type 0
Agree {S} tested go =
    (past : List (Snapshot S)) (course : Course S) → ¬ IsRepeat (tested past course).outcome → tested past course ≡ go course

tested_after-agrees : {S : Type 0} (system : System S) (tested : List (Snapshot S) → Course S → Run)
    (go : Course S → Run) (past : List (Snapshot S))
    (advance : Advance S) → Agree tested go →
    ¬ IsRepeat (tested_after system tested past advance).outcome →
    tested_after system tested past advance ≡ onward_or_concluded system go advance
tested_after-agrees system tested go past (Over course outcome) agree never = refl
tested_after-agrees system tested go past (Onward course) agree never = by_repeat (repeats system past (snapshot_of course)) never
  where
    ended : Run
    ended = concluded system course (outcomes.Repeats (length past) (earlier_turn (length past)))

    later : Run
    later = tested (past ++ snapshot_of course ∷ []) course

    by_repeat : (repeat : Bool) → ¬ IsRepeat (cond repeat ended later).outcome → cond repeat ended later ≡ go course
    by_repeat true never = absurd (never tt)
    by_repeat false never = agree (past ++ snapshot_of course ∷ []) course never

pub tested_from-agrees : {S : Type 0} (most : ℕ) (system : System S) (listed : List ℕ) →
    Agree (tested_from most system listed) (run_from most system listed)
unfolding tested_from run_from
tested_from-agrees zero system listed = λ past course never. refl
tested_from-agrees (suc most) system listed = λ past course never.
    tested_after-agrees system (tested_from most system listed) (run_from most system listed) past
    (advanced system listed course) (tested_from-agrees most system listed) never

pub unrepeated-is_run : {S : Type 0} (system : System S) → UnrepeatedIsRun system
unfolding tested_run run_of
unrepeated-is_run system listed steps never =
    let start = first_course system steps in
    tested_from-agrees (steps + 1) system listed (snapshot_of start ∷ []) start never
