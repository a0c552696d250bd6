-- Which lists a replay refuses: those of which some turn is another thread's, comes after the end, or was cut.
use Rattle.std.proofs.Common.{◌≡◌, ◌≢◌, ℕ, zero, suc, ◌+◌, ◌<◌, ◌≤◌, Bool, true, false, cond, eqb, ltb, List, ◌∷◌, [], ◌++◌, length, take, Option, Some, None, refl, arith, length-append}
use Rattle.std.specs.Prelude.{not}
use Rattle.std.specs.List.{position_or_len, zip}
use Rattle.std.proofs.lemmas.Bool.{eq-eqb, eqb-true, ltb-false}
use Rattle.std.proofs.lemmas.Bool.Decides.{nat_tests}
use Rattle.run_types.specs.declared.run.Outcome.{Outcome}
use Rattle.run_types.specs.declared.run.Outcome.TheVariants as outcomes
use Rattle.run_types.specs.declared.run.Run.{Run}
use Rattle.machine_model.specs.Policy.{Choice, choose}
use Rattle.machine_model.specs.Run.{Course, advanced, advanced_with, first_course, onward_or_concluded, run_from, run_of}
use Rattle.machine_model.specs.System.{System}
use Rattle.machine_laws.proofs.Replays.{Begins, chosen-begins, run_from-begins}
use Rattle.race_top.specs.TraceReplay.{error_at_end, error_from, first_other, is_listed, replay_error}

abbrev pub differs : ℕ × ℕ → Bool
differs pair = not (eqb pair.0 pair.1)

-- no place of a list differs from itself
itself-agrees : (turns : List ℕ) → length (zip turns turns) ≤ position_or_len differs (zip turns turns)
itself-agrees [] = omega arith
itself-agrees (turn ∷ turns) =
    let rest = itself-agrees turns in
    rw (eq-eqb turn turn refl) (omega arith)

none-past : {A : Type 0} (past : Bool) (value : A) → past ≡ false → cond past (Some value) None ≡ None
none-past true value is = absurd (let h : ⊥ = cc in h)
none-past false value is = refl

past-from_none : {A : Type 0} (past : Bool) (value : A) → cond past (Some value) None ≡ None → past ≡ false
past-from_none true value is = absurd (let h : ⊥ = cc in h)
past-from_none false value is = refl

first_other-itself : (turns : List ℕ) → first_other turns turns ≡ None
first_other-itself turns =
    let agrees = itself-agrees turns in
    let past : ltb (position_or_len differs (zip turns turns)) (length (zip turns turns)) ≡ false = grind (arith, nat_tests) in
    none-past _ _ past

beyond : (turns : List ℕ) → is_listed turns (length turns + 1) ≡ false
beyond turns = grind (arith, nat_tests)

error_at_end-itself : (turns : List ℕ) (outcome : Outcome) → outcome ≢ outcomes.Spent →
    error_at_end turns (length turns) outcome ≡ None
error_at_end-itself turns (outcomes.Exit status) whole = none-past _ _ (beyond turns)
error_at_end-itself turns (outcomes.Trap trap thread site) whole = none-past _ _ (beyond turns)
error_at_end-itself turns outcomes.Deadlock whole = none-past _ _ (beyond turns)
error_at_end-itself turns (outcomes.Repeats turn earlier) whole = none-past _ _ (beyond turns)
error_at_end-itself turns outcomes.Spent whole = absurd (whole refl)

pub replay_error-itself : (run : Run) → run.outcome ≢ outcomes.Spent → replay_error run.turns run ≡ None
unfolding replay_error
replay_error-itself run whole =
    rw (first_other-itself run.turns) (error_at_end-itself run.turns run.outcome whole)

agree-take : (listed turns : List ℕ) → length (zip listed turns) ≤ position_or_len differs (zip listed turns) →
    length listed ≤ length turns → take (length listed) turns ≡ listed
agree-take [] turns agrees long = refl
agree-take (thread ∷ listed) [] agrees long = absurd (omega arith)
agree-take (thread ∷ listed) (taken ∷ turns) agrees long =
    go (eqb thread taken) refl agrees (λ rest. agree-take listed turns rest (omega arith))
  where
    count : ℕ
    count = position_or_len differs (zip listed turns)

    go : (same : Bool) → eqb thread taken ≡ same → suc (length (zip listed turns)) ≤ cond (not (not same)) (1 + count) 0 →
        (length (zip listed turns) ≤ count → take (length listed) turns ≡ listed) →
        taken ∷ take (length listed) turns ≡ thread ∷ listed
    go true is bound rest = let same = eqb-true thread taken is in let tail = rest (omega arith) in cc
    go false is bound rest = absurd (omega arith)

not-listed : (listed : List ℕ) (turn : ℕ) → is_listed listed turn ≡ false → 0 < turn → length listed < turn
not-listed listed turn is some = grind (arith, nat_tests)

long-enough : (listed : List ℕ) (taken : ℕ) (outcome : Outcome) → (outcome ≡ outcomes.Spent → 0 < taken) →
    error_at_end listed taken outcome ≡ None → length listed ≤ taken
long-enough listed taken (outcomes.Exit status) some none =
    let past = not-listed listed (taken + 1) (past-from_none _ _ none) (omega arith) in omega arith
long-enough listed taken (outcomes.Trap trap thread site) some none =
    let past = not-listed listed (taken + 1) (past-from_none _ _ none) (omega arith) in omega arith
long-enough listed taken outcomes.Deadlock some none =
    let past = not-listed listed (taken + 1) (past-from_none _ _ none) (omega arith) in omega arith
long-enough listed taken (outcomes.Repeats turn earlier) some none =
    let past = not-listed listed (taken + 1) (past-from_none _ _ none) (omega arith) in omega arith
long-enough listed taken outcomes.Spent some none =
    let past = not-listed listed taken (past-from_none _ _ none) (some refl) in omega arith

taken-without_error : (listed : List ℕ) (run : Run) (other : Option ℕ) → first_other listed run.turns ≡ other →
    (run.outcome ≡ outcomes.Spent → 0 < length run.turns) → error_from listed run other ≡ None →
    take (length listed) run.turns ≡ listed
taken-without_error listed run (Some place) is some none = absurd (let h : ⊥ = cc in h)
taken-without_error listed run None is some none =
    agree-take listed run.turns (ltb-false _ _ (past-from_none _ _ is))
    (long-enough listed (length run.turns) run.outcome some none)

-- a run that was spent has the turn that was cut
spent-some : {S : Type 0} (go : Course S → Run) (system : System S) (course : Course S) (choice : Option Choice) →
    ((next : Course S) → Begins next.turns (go next).turns) →
    (onward_or_concluded system go (advanced_with system course choice)).outcome ≡ outcomes.Spent →
    0 < length (onward_or_concluded system go (advanced_with system course choice)).turns
spent-some go system course None continues spent = absurd (let h : ⊥ = cc in h)
spent-some go system course (Some choice) continues spent =
    let begins = chosen-begins go system course choice continues in
    rw begins.1
    (omega (arith, length-append (course.turns ++ choice.thread ∷ []) begins.0, length-append course.turns (choice.thread ∷ [])))

run_from-some : {S : Type 0} (most : ℕ) (system : System S) (listed : List ℕ) (course : Course S) → 0 < most →
    (run_from most system listed course).outcome ≡ outcomes.Spent → 0 < length (run_from most system listed course).turns
unfolding run_from advanced
run_from-some zero system listed course some spent = absurd (omega arith)
run_from-some (suc most) system listed course some spent =
    spent-some (run_from most system listed) system course (choose listed course.policy (system.enabled course.state))
    (run_from-begins most system listed) spent

pub replay_error-none : {S : Type 0} (system : System S) (listed : List ℕ) (steps : ℕ) →
    replay_error listed (run_of system listed steps) ≡ None →
    take (length listed) (run_of system listed steps).turns ≡ listed
unfolding replay_error run_of
replay_error-none system listed steps none =
    let run = run_from (steps + 1) system listed (first_course system steps) in
    taken-without_error listed run (first_other listed run.turns) refl
    (run_from-some (steps + 1) system listed (first_course system steps) (omega arith)) none
