-- An alternate goes on from the first thread's turn as it does from the hold.
use Rattle.std.proofs.Common.{◌≡◌, ℕ, zero, suc, ◌+◌, ◌<◌, Bool, true, false, cond, List, ◌∷◌, [], ◌++◌, length, Some, None, refl, ap, ◌∙◌, arith}
use Rattle.run_types.specs.declared.run.Outcome.TheVariants as outcomes
use Rattle.run_types.specs.declared.run.Run.{Run}
use Rattle.machine_model.specs.Begun.{begun_by, released_course}
use Rattle.machine_model.specs.Begun.Begun.{Complete, Ready}
use Rattle.machine_model.specs.Hold.Held.{Reordered, NotEnforced, RunOver}
use Rattle.machine_model.specs.Job.{alternate_from}
use Rattle.machine_model.specs.Job.Alternate.{Ran}
use Rattle.machine_model.specs.Repeat.{Snapshot, earlier_turn, repeats, snapshot_of}
use Rattle.machine_model.specs.Run.{Advance, Course, advanced, concluded}
use Rattle.machine_model.specs.Run.Advance.{Onward, Over}
use Rattle.machine_model.specs.System.{System}
use Rattle.machine_model.specs.SystemLaws.{IsSystem}
use Rattle.machine_model.specs.TestedRun.{tested_after, tested_from}
use Rattle.machine_laws.specs.WholeAlternate.{AlternateIsWhole}
use Rattle.machine_laws.proofs.Budget.{AdvanceBalances, advanced-balances}

tested_after-agrees : {S : Type 0} (system : System S) (go other : List (Snapshot S) → Course S → Run)
    (past : List (Snapshot S)) (course : Course S) (advance : Advance S) → AdvanceBalances system course advance →
    ((past : List (Snapshot S)) (next : Course S) → next.left < course.left → go past next ≡ other past next) →
    tested_after system go past advance ≡ tested_after system other past advance
tested_after-agrees system go other past course (Over last outcome) balances agree = refl
tested_after-agrees system go other past course (Onward next) balances agree =
    ap (cond (repeats system past (snapshot_of next))
    (concluded system next (outcomes.Repeats (length past) (earlier_turn (length past)))))
    (agree (past ++ snapshot_of next ∷ []) next balances.0)

-- any two bounds above what is left agree
tested_from-agrees : {S : Type 0} (one two : ℕ) (system : System S) (facts : IsSystem system) (listed : List ℕ)
    (past : List (Snapshot S)) (course : Course S) → course.left < one → course.left < two →
    tested_from one system listed past course ≡ tested_from two system listed past course
unfolding tested_from
tested_from-agrees zero two system facts listed past course h k = absurd (omega arith)
tested_from-agrees (suc one) zero system facts listed past course h k = absurd (omega arith)
tested_from-agrees (suc one) (suc two) system facts listed past course h k =
    tested_after-agrees system (tested_from one system listed) (tested_from two system listed) past course
    (advanced system listed course) (advanced-balances system facts listed course)
    (λ past next less. tested_from-agrees one two system facts listed past next (omega arith) (omega arith))

-- a tested turn and the rest are the tested run
begun-goes_on : {S : Type 0} (system : System S) (facts : IsSystem system) (listed : List ℕ)
    (past : List (Snapshot S)) (course : Course S) (advance : Advance S) → AdvanceBalances system course advance →
    alternate_from system listed 1 (Some (begun_by system past advance))
    ≡ Ran (tested_after system (tested_from course.left system listed) past advance)
begun-goes_on system facts listed past course (Over last outcome) balances = refl
begun-goes_on {S} system facts listed past course (Onward next) balances = go (repeats system past (snapshot_of next))
  where
    over : Run
    over = concluded system next (outcomes.Repeats (length past) (earlier_turn (length past)))

    all : List (Snapshot S)
    all = past ++ snapshot_of next ∷ []

    go : (repeat : Bool) →
        alternate_from system listed 1 (Some (cond repeat (Complete over) (Ready all next)))
        ≡ Ran (cond repeat over (tested_from course.left system listed all next))
    go true = refl
    go false =
        ap Ran (tested_from-agrees (next.left + 1) course.left system facts listed all next (omega arith) balances.0)

pub alternate-is_whole : {S : Type 0} (system : System S) (facts : IsSystem system) → AlternateIsWhole system
unfolding tested_from
alternate-is_whole system facts listed race None = refl
alternate-is_whole system facts listed race (Some (NotEnforced reason course)) = refl
alternate-is_whole system facts listed race (Some (RunOver run)) = refl
alternate-is_whole system facts listed race (Some (Reordered past course)) =
    let released = released_course race.t1 course in
    let more : suc course.left ≡ course.left + 1 = omega arith in
    begun-goes_on system facts listed past released (advanced system listed released)
    (advanced-balances system facts listed released)
    ∙ ap (λ most. Ran (tested_from most system listed past released)) more
