-- Where a run takes another thread than the listed one, that one is not enabled.
use Rattle.std.proofs.Common.{◌≡◌, ◌≢◌, ℕ, zero, suc, ◌+◌, ◌<◌, Bool, true, false, cond, eqb, List, ◌∷◌, [], ◌++◌, length, Option, Some, None, refl, sym, subst, ap, ◌∙◌, append_assoc, arith, length-append}
use Rattle.std.specs.Prelude.{Contains, not, slice_get}
use Rattle.std.specs.List.{position_or_len, zip}
use Rattle.std.proofs.lemmas.Bool.{eqb-false, eqb-true, ltb-true}
use Rattle.run_types.specs.declared.run.Outcome.{Outcome}
use Rattle.run_types.specs.declared.run.Outcome.TheVariants as outcomes
use Rattle.run_types.specs.declared.run.Run.{Run}
use Rattle.run_types.specs.declared.run.TurnEnd.{TurnEnd}
use Rattle.run_types.specs.declared.run.TurnEnd.TheVariants as ends
use Rattle.machine_model.specs.Policy.{Choice, choose}
use Rattle.machine_model.specs.ReplayLaws.{course_after, onward_from}
use Rattle.machine_model.specs.Run.{Course, advanced, advanced_by, advanced_with, after_turn, first_course, onward_or_concluded, run_from, run_of}
use Rattle.machine_model.specs.System.{System}
use Rattle.machine_laws.proofs.Replays.{Chooser, Continues, IsAt, chosen-begins, follows-next, may-choose, mode-stays, next-in, run_from-begins, slice_get-after}
use Rattle.race_top.specs.TraceReplay.{error_at_end, error_from, first_other, replay_error}
use Rattle.race_top.specs.declared.trace_replay.ReplayError.{ReplayError}
use Rattle.race_top.specs.declared.trace_replay.ReplayError.TheVariants.{TurnNotEnabled}
use Rattle.race_top.proofs.Refusals.{differs}

-- two lists have a front in common, and then differ
pub record Parts (listed turns : List ℕ) (before : ℕ) : Type 0 where
  pub front : List ℕ
  pub thread : ℕ
  pub taken : ℕ
  pub listed_rest : List ℕ
  pub taken_rest : List ℕ
  pub listed_is : listed ≡ front ++ thread ∷ listed_rest
  pub taken_is : turns ≡ front ++ taken ∷ taken_rest
  pub count : length front ≡ before
  pub apart : thread ≢ taken

parts : (listed turns : List ℕ) → position_or_len differs (zip listed turns) < length (zip listed turns) →
    Parts listed turns (position_or_len differs (zip listed turns))
parts [] turns within = absurd (omega arith)
parts (thread ∷ listed) [] within = absurd (omega arith)
parts (thread ∷ listed) (taken ∷ turns) within = go (eqb thread taken) refl within (parts listed turns)
  where
    count : ℕ
    count = position_or_len differs (zip listed turns)

    go : (same : Bool) → eqb thread taken ≡ same → cond (not (not same)) (1 + count) 0 < suc (length (zip listed turns)) →
        (count < length (zip listed turns) → Parts listed turns count) →
        Parts (thread ∷ listed) (taken ∷ turns) (cond (not (not same)) (1 + count) 0)
    go true is bound rest =
        let later = rest (omega arith) in
        let same = eqb-true thread taken is in
        record {
          front = thread ∷ later.front;
          thread = later.thread;
          taken = later.taken;
          listed_rest = later.listed_rest;
          taken_rest = later.taken_rest;
          listed_is = ap (λ others. thread ∷ others) later.listed_is;
          taken_is = ap (λ one. one ∷ turns) (sym same) ∙ ap (λ others. thread ∷ others) later.taken_is;
          count = omega (arith, later.count);
          apart = later.apart;
        }
    go false is bound rest = record {
      front = [];
      thread = thread;
      taken = taken;
      listed_rest = listed;
      taken_rest = turns;
      listed_is = refl;
      taken_is = refl;
      count = refl;
      apart = eqb-false thread taken is;
    }

-- no list is longer than itself
no_longer : (front : List ℕ) (thread : ℕ) (rest : List ℕ) → front ≡ front ++ thread ∷ rest → ⊥
no_longer front thread rest same = omega (arith, ap length same, length-append front (thread ∷ rest))

-- the turn that is taken is the listed one where that is enabled
here : {S : Type 0} → Chooser → (go : Course S → Run) (system : System S) (listed : List ℕ) (course : Course S)
    (one : Option Choice)
    (thread taken : ℕ) (listed_rest taken_rest : List ℕ) →
    choose listed course.policy (system.enabled course.state) ≡ one →
    IsAt course.policy (length course.turns) → Continues go →
    listed ≡ course.turns ++ thread ∷ listed_rest →
    (onward_or_concluded system go (advanced_with system course one)).turns ≡ course.turns ++ taken ∷ taken_rest →
    Contains (system.enabled course.state) thread → thread ≡ taken
here laws go system listed course None thread taken listed_rest taken_rest picked at continues listed_is taken_is among =
    absurd (no_longer course.turns taken taken_rest taken_is)
here laws go system listed course (Some choice) thread taken listed_rest taken_rest picked at continues listed_is taken_is among =
    let begins = chosen-begins go system course choice continues in
    let first = next-in course.turns choice.thread _ begins.0 begins.1 in
    let second : slice_get (onward_or_concluded system go (advanced_with system course (Some choice))).turns (length course.turns) ≡ Some taken =
    rw taken_is (slice_get-after course.turns taken taken_rest) in
    let next : slice_get listed course.policy.follow.position ≡ Some thread =
    rw (at.1, listed_is) (slice_get-after course.turns thread listed_rest) in
    let picks = laws.is_listed listed course.policy (system.enabled course.state) choice thread (mode-stays course.policy at.0)
    (may-choose course.policy thread at.0) next among picked in
    let same : choice.thread ≡ taken = cc in
    sym picks.0 ∙ same

too_long : (front : List ℕ) (one first taken : ℕ) (common rest : List ℕ) →
    front ++ one ∷ [] ≡ front ++ first ∷ (common ++ taken ∷ rest) → ⊥
too_long front one first taken common rest same =
    omega (arith, ap length same, length-append front (one ∷ []), length-append front (first ∷ (common ++ taken ∷ rest)), length-append common (taken ∷ rest))

-- a turn after which others follow is not the last
by_end : {S : Type 0} (go : Course S → Run) (after : Course S → Course S) (system : System S)
    (course next : Course S) (end : TurnEnd)
    (thread taken one first : ℕ) (common taken_rest : List ℕ) → next.turns ≡ course.turns ++ one ∷ [] →
    (onward_or_concluded system go (advanced_by one next end)).turns ≡ course.turns ++ first ∷ (common ++ taken ∷ taken_rest) →
    ((go next).turns ≡ course.turns ++ first ∷ (common ++ taken ∷ taken_rest) →
    Contains (system.enabled (after next).state) thread → thread ≡ taken) →
    Contains (system.enabled (onward_from after course (advanced_by one next end)).state) thread → thread ≡ taken
by_end go after system course next ends.Going thread taken one first common taken_rest turns is on = on is
by_end go after system course next (ends.Exit status) thread taken one first common taken_rest turns is on =
    absurd (too_long course.turns one first taken common taken_rest (sym turns ∙ is))
by_end go after system course next (ends.Trap trap site) thread taken one first common taken_rest turns is on =
    absurd (too_long course.turns one first taken common taken_rest (sym turns ∙ is))
by_end go after system course next ends.Spent thread taken one first common taken_rest turns is on =
    absurd (too_long course.turns one first taken common taken_rest (sym turns ∙ is))

-- what holds after a listed turn that was taken holds before it
further : {S : Type 0} → Chooser → (go : Course S → Run) (after : Course S → Course S) (system : System S)
    (listed : List ℕ) (course : Course S)
    (one : Option Choice) (thread taken first : ℕ) (common listed_rest taken_rest : List ℕ) →
    choose listed course.policy (system.enabled course.state) ≡ one →
    IsAt course.policy (length course.turns) → Continues go →
    listed ≡ course.turns ++ first ∷ (common ++ thread ∷ listed_rest) →
    (onward_or_concluded system go (advanced_with system course one)).turns ≡ course.turns ++ first ∷ (common ++ taken ∷ taken_rest) →
    ((next : Course S) → IsAt next.policy (length next.turns) →
    listed ≡ next.turns ++ (common ++ thread ∷ listed_rest) → (go next).turns ≡ next.turns ++ (common ++ taken ∷ taken_rest) →
    Contains (system.enabled (after next).state) thread → thread ≡ taken) →
    Contains (system.enabled (onward_from after course (advanced_with system course one)).state) thread → thread ≡ taken
further laws go after system listed course None thread taken first common listed_rest taken_rest picked at continues listed_is taken_is on =
    absurd (no_longer course.turns first (common ++ taken ∷ taken_rest) taken_is)
further laws go after system listed course (Some choice) thread taken first common listed_rest taken_rest picked at continues listed_is taken_is on =
    let begins = chosen-begins go system course choice continues in
    let chosen_one = next-in course.turns choice.thread _ begins.0 begins.1 in
    let first_one : slice_get (onward_or_concluded system go (advanced_with system course (Some choice))).turns (length course.turns) ≡ Some first =
    rw taken_is (slice_get-after course.turns first (common ++ taken ∷ taken_rest)) in
    let same : first ≡ choice.thread = cc in
    let next_listed : slice_get listed course.policy.follow.position ≡ Some choice.thread =
    rw (at.1, listed_is, same) (slice_get-after course.turns choice.thread (common ++ thread ∷ listed_rest)) in
    let among = (laws.is_enabled listed course.policy (system.enabled course.state) choice picked).0 in
    let picks = laws.is_listed listed course.policy (system.enabled course.state) choice choice.thread (mode-stays course.policy at.0)
    (may-choose course.policy choice.thread at.0) next_listed among picked in
    let turned = system.turn course.state choice.thread course.left in
    let moved = λ (rest : List ℕ). ap (λ thread. course.turns ++ thread ∷ rest) same ∙ sym (append_assoc course.turns (choice.thread ∷ []) rest) in
    by_end go after system course (after_turn course choice turned) turned.end thread taken choice.thread first common taken_rest
    refl taken_is
    (λ is. on (after_turn course choice turned) (
      follows-next laws listed course.policy (system.enabled course.state) choice picked at.0,
      omega (arith, picks.1, at.1, length-append course.turns (choice.thread ∷ [])),
    )
    (listed_is ∙ moved (common ++ thread ∷ listed_rest)) (is ∙ moved (common ++ taken ∷ taken_rest)))

walk : {S : Type 0} → Chooser → (common : List ℕ) (most : ℕ) (system : System S) (listed : List ℕ) (thread taken : ℕ)
    (listed_rest taken_rest : List ℕ) (course : Course S) → IsAt course.policy (length course.turns) →
    listed ≡ course.turns ++ (common ++ thread ∷ listed_rest) →
    (run_from most system listed course).turns ≡ course.turns ++ (common ++ taken ∷ taken_rest) →
    Contains (system.enabled (course_after (length common) system listed course).state) thread → thread ≡ taken
unfolding run_from course_after advanced
walk laws [] zero system listed thread taken listed_rest taken_rest course at listed_is taken_is among =
    absurd (no_longer course.turns taken taken_rest taken_is)
walk laws (first ∷ common) zero system listed thread taken listed_rest taken_rest course at listed_is taken_is among =
    absurd (no_longer course.turns first (common ++ taken ∷ taken_rest) taken_is)
walk laws [] (suc most) system listed thread taken listed_rest taken_rest course at listed_is taken_is among =
    here laws (run_from most system listed) system listed course
    (choose listed course.policy (system.enabled course.state)) thread taken listed_rest taken_rest refl at
    (run_from-begins most system listed) listed_is taken_is among
walk laws (first ∷ common) (suc most) system listed thread taken listed_rest taken_rest course at listed_is taken_is among =
    further laws (run_from most system listed) (course_after (length common) system listed) system listed course
    (choose listed course.policy (system.enabled course.state)) thread taken first common listed_rest taken_rest refl at
    (run_from-begins most system listed) listed_is taken_is
    (walk laws common most system listed thread taken listed_rest taken_rest) among

found : (past : Bool) (value place : ℕ) → cond past (Some value) None ≡ Some place → (past ≡ true) × (value ≡ place)
found true value place is = (refl, cc)
found false value place is = absurd (let h : ⊥ = cc in h)

other-error : (listed : Bool) (error other : ReplayError) → (error ≡ other → ⊥) → cond listed (Some error) None ≡ Some other → ⊥
other-error true error other apart is = apart cc
other-error false error other apart is = let h : ⊥ = cc in h

not-at_end : (listed : List ℕ) (taken turn : ℕ) (outcome : Outcome) →
    error_at_end listed taken outcome ≡ Some (TurnNotEnabled turn) → ⊥
not-at_end listed taken turn (outcomes.Exit status) = other-error _ _ _ (λ same. cc)
not-at_end listed taken turn (outcomes.Trap trap thread site) = other-error _ _ _ (λ same. cc)
not-at_end listed taken turn outcomes.Deadlock = other-error _ _ _ (λ same. cc)
not-at_end listed taken turn (outcomes.Repeats later earlier) = other-error _ _ _ (λ same. cc)
not-at_end listed taken turn outcomes.Spent = other-error _ _ _ (λ same. cc)

refused-at : {S : Type 0} → Chooser → (most : ℕ) (system : System S) (listed : List ℕ) (steps before thread : ℕ) →
    Parts listed (run_from most system listed (first_course system steps)).turns before →
    slice_get listed before ≡ Some thread →
    Contains (system.enabled (course_after before system listed (first_course system steps)).state) thread → ⊥
refused-at laws most system listed steps before thread apart next among =
    let listed_one : slice_get listed before ≡ Some apart.thread =
    ap (λ whole. slice_get whole before) apart.listed_is
    ∙ ap (slice_get (apart.front ++ apart.thread ∷ apart.listed_rest)) (sym apart.count)
    ∙ slice_get-after apart.front apart.thread apart.listed_rest in
    let same : thread ≡ apart.thread = cc in
    let At : ℕ → ℕ → Type 0 =
    λ count one. Contains (system.enabled (course_after count system listed (first_course system steps)).state) one in
    apart.apart
    (walk laws apart.front most system listed apart.thread apart.taken apart.listed_rest apart.taken_rest
    (first_course system steps) (refl, refl) apart.listed_is apart.taken_is
    (subst (λ (count : ℕ). At count apart.thread) (sym apart.count) (subst (At before) same among)))

refused-by : {S : Type 0} → Chooser → (most : ℕ) (system : System S) (listed : List ℕ) (steps before thread : ℕ)
    (other : Option ℕ) →
    first_other listed (run_from most system listed (first_course system steps)).turns ≡ other →
    error_from listed (run_from most system listed (first_course system steps)) other ≡ Some (TurnNotEnabled (before + 1)) →
    slice_get listed before ≡ Some thread →
    Contains (system.enabled (course_after before system listed (first_course system steps)).state) thread → ⊥
refused-by laws most system listed steps before thread None is refused next among =
    let run = run_from most system listed (first_course system steps) in
    not-at_end listed (length run.turns) (before + 1) run.outcome refused
refused-by laws most system listed steps before thread (Some place) is refused next among =
    let turns = (run_from most system listed (first_course system steps)).turns in
    let injected : place + 1 ≡ before + 1 = cc in
    let at = found _ _ place is in
    refused-at laws most system listed steps before thread
    (subst (Parts listed turns) (at.1 ∙ omega arith) (parts listed turns (ltb-true _ _ at.0))) next among

pub refused-not_enabled : {S : Type 0} → Chooser → (system : System S) (listed : List ℕ) (steps before thread : ℕ) →
    replay_error listed (run_of system listed steps) ≡ Some (TurnNotEnabled (before + 1)) →
    slice_get listed before ≡ Some thread →
    ¬ Contains (system.enabled (course_after before system listed (first_course system steps)).state) thread
unfolding replay_error run_of
refused-not_enabled laws system listed steps before thread refused next =
    refused-by laws (steps + 1) system listed steps before thread _ refl refused next
