-- A run's turns begin with those of each course on its way; given back as the list, they are chosen again.
use Rattle.std.proofs.Common.{◌≡◌, ℕ, zero, suc, ◌+◌, List, ◌∷◌, [], ◌++◌, length, Option, Some, None, refl, sym, ◌∙◌, append_assoc, arith, length-append}
use Rattle.std.specs.Prelude.{slice_get}
use Rattle.std.proofs.lemmas.List.{append-nil}
use Rattle.run_types.specs.declared.run.Run.{Run}
use Rattle.run_types.specs.declared.run.TurnEnd.{TurnEnd}
use Rattle.run_types.specs.declared.run.TurnEnd.TheVariants as ends
use Rattle.machine_model.specs.declared.mode.Mode.TheVariants.{Before}
use Rattle.machine_model.specs.Policy.{Choice, Policy, choose, from_front}
use Rattle.machine_model.specs.PolicyLaws.{ChoiceIsEnabled, ChoiceIsLast, ChoosesUnlessNone, ListedIsChosen, MayChoose, mode_after}
use Rattle.machine_model.specs.Run.{Course, advanced, advanced_by, advanced_with, after_turn, first_course, onward_or_concluded, run_from, run_of}
use Rattle.machine_model.specs.System.{System}

-- a list goes on from a front
abbrev pub Begins : List ℕ → List ℕ → Type 0
Begins front whole = (rest : List ℕ) × (whole ≡ front ++ rest)

pub Begins-itself : (front : List ℕ) → Begins front front
Begins-itself front = ([], sym (append-nil front))

Begins-less : (front : List ℕ) (thread : ℕ) (whole : List ℕ) → Begins (front ++ thread ∷ []) whole → Begins front whole
Begins-less front thread whole begins =
    (thread ∷ begins.0, begins.1 ∙ append_assoc front (thread ∷ []) begins.0)

pub slice_get-after : (front : List ℕ) (thread : ℕ) (rest : List ℕ) →
    slice_get (front ++ thread ∷ rest) (length front) ≡ Some thread
slice_get-after [] thread rest = refl
slice_get-after (first ∷ front) thread rest = slice_get-after front thread rest

-- a front and the next turn, and what follows
pub next-in : (front : List ℕ) (thread : ℕ) (whole rest : List ℕ) → whole ≡ (front ++ thread ∷ []) ++ rest →
    slice_get whole (length front) ≡ Some thread
next-in front thread whole rest is = rw (is, append_assoc) (slice_get-after front thread rest)

advanced_by-begins : {S : Type 0} (system : System S) (go : Course S → Run) (thread : ℕ) (next : Course S)
    (end : TurnEnd) →
    Begins next.turns (go next).turns → Begins next.turns (onward_or_concluded system go (advanced_by thread next end)).turns
advanced_by-begins system go thread next ends.Going begins = begins
advanced_by-begins system go thread next (ends.Exit status) begins = Begins-itself next.turns
advanced_by-begins system go thread next (ends.Trap trap site) begins = Begins-itself next.turns
advanced_by-begins system go thread next ends.Spent begins = Begins-itself next.turns

-- what is left from a course on begins with its turns
abbrev pub Continues : {S : Type 0} → (Course S → Run) → Type 0
Continues {S} go = (next : Course S) → Begins next.turns (go next).turns

-- and with the one that is chosen
pub chosen-begins : {S : Type 0} (go : Course S → Run) (system : System S) (course : Course S) (choice : Choice) →
    Continues go →
    Begins (course.turns ++ choice.thread ∷ []) (onward_or_concluded system go (advanced_with system course (Some choice))).turns
chosen-begins go system course choice continues =
    let turned = system.turn course.state choice.thread course.left in
    let next = after_turn course choice turned in
    advanced_by-begins system go choice.thread next turned.end (continues next)

advanced_with-begins : {S : Type 0} (go : Course S → Run) (system : System S) (course : Course S)
    (choice : Option Choice) →
    Continues go → Begins course.turns (onward_or_concluded system go (advanced_with system course choice)).turns
advanced_with-begins go system course None continues = Begins-itself course.turns
advanced_with-begins go system course (Some choice) continues =
    Begins-less course.turns choice.thread (onward_or_concluded system go (advanced_with system course (Some choice))).turns
    (chosen-begins go system course choice continues)

pub run_from-begins : {S : Type 0} (most : ℕ) (system : System S) (listed : List ℕ) (course : Course S) →
    Begins course.turns (run_from most system listed course).turns
unfolding run_from advanced
run_from-begins zero system listed course = Begins-itself course.turns
run_from-begins (suc most) system listed course =
    advanced_with-begins (run_from most system listed) system course
    (choose listed course.policy (system.enabled course.state)) (run_from-begins most system listed)

-- the chooser follows the list, up to the hold point
abbrev pub Follows : Policy → Type 0
Follows policy = policy.mode ≡ Before

-- and it is at this place of the list
abbrev pub IsAt : Policy → ℕ → Type 0
IsAt policy place = Follows policy × (policy.follow.position ≡ place)

-- it may choose each thread
pub may-choose : (policy : Policy) (thread : ℕ) → Follows policy → MayChoose policy.mode thread
may-choose policy thread follows = rw follows tt

pub mode-stays : (policy : Policy) → Follows policy → mode_after policy.mode ≡ policy.mode
mode-stays policy follows = rw follows refl

-- the same course with another chooser
abbrev pub chosen_by : {S : Type 0} → Policy → Course S → Course S
chosen_by policy course = record course { policy = policy }

-- from here on the runs are the same, where the list goes on as the first one does
abbrev Agree : {S : Type 0} → List ℕ → (Course S → Run) → (Course S → Run) → Type 0
Agree {S} again go other = (next : Course S) (policy : Policy) → Follows next.policy → IsAt policy (length next.turns) →
    again ≡ (go next).turns → other (chosen_by policy next) ≡ go next

advanced_by-agree : {S : Type 0} (system : System S) (again : List ℕ) (go other : Course S → Run) (thread : ℕ)
    (next : Course S) (policy : Policy) (end : TurnEnd) →
    Agree again go other → Follows next.policy → IsAt policy (length next.turns) →
    again ≡ (onward_or_concluded system go (advanced_by thread next end)).turns →
    onward_or_concluded system other (advanced_by thread (chosen_by policy next) end) ≡ onward_or_concluded system go (advanced_by thread next end)
advanced_by-agree system again go other thread next policy ends.Going agree follows at same = agree next policy follows at same
advanced_by-agree system again go other thread next policy (ends.Exit status) agree follows at same = refl
advanced_by-agree system again go other thread next policy (ends.Trap trap site) agree follows at same = refl
advanced_by-agree system again go other thread next policy ends.Spent agree follows at same = refl

-- the laws of the chooser
pub record Chooser : Type 0 where
  pub is_enabled : ChoiceIsEnabled
  pub is_some : ChoosesUnlessNone
  pub is_last : ChoiceIsLast
  pub is_listed : ListedIsChosen

-- a chooser that follows the list goes on to follow it
pub follows-next : Chooser → (listed : List ℕ) (policy : Policy) (threads : List ℕ) (choice : Choice) →
    choose listed policy threads ≡ Some choice → Follows policy → Follows choice.next
follows-next laws listed policy threads choice picked follows =
    (laws.is_last listed policy threads choice picked).1 ∙ mode-stays policy follows ∙ follows

-- where one chooses, the other does
both-choose : Chooser → (listed again : List ℕ) (one other : Policy) (threads : List ℕ) (choice : Choice) →
    choose listed one threads ≡ Some choice → Follows other → choose again other threads ≡ None → ⊥
both-choose laws listed again one other threads choice picked follows none =
    laws.is_some again other threads choice.thread none (laws.is_enabled listed one threads choice picked).0
    (may-choose other choice.thread follows)

advanced_with-agree : {S : Type 0} → Chooser → (again : List ℕ) (go other : Course S → Run) (system : System S)
    (listed : List ℕ)
    (course : Course S) (policy : Policy) (one two : Option Choice) →
    choose listed course.policy (system.enabled course.state) ≡ one →
    choose again policy (system.enabled course.state) ≡ two →
    Agree again go other → Continues go → Follows course.policy → IsAt policy (length course.turns) →
    again ≡ (onward_or_concluded system go (advanced_with system course one)).turns →
    onward_or_concluded system other (advanced_with system (chosen_by policy course) two)
    ≡ onward_or_concluded system go (advanced_with system course one)
advanced_with-agree laws again go other system listed course policy None None first second agree continues follows at same = refl
advanced_with-agree laws again go other system listed course policy None (Some choice) first second agree continues follows at same =
    absurd (both-choose laws again listed policy course.policy (system.enabled course.state) choice second follows first)
advanced_with-agree laws again go other system listed course policy (Some choice) None first second agree continues follows at same =
    absurd (both-choose laws listed again course.policy policy (system.enabled course.state) choice first at.0 second)
advanced_with-agree laws again go other system listed course policy (Some choice) (Some other_choice) first second agree continues follows at same =
    let threads = system.enabled course.state in
    let begins = chosen-begins go system course choice continues in
    let among = (laws.is_enabled listed course.policy threads choice first).0 in
    let next : slice_get again policy.follow.position ≡ Some choice.thread =
    rw at.1 (next-in course.turns choice.thread again begins.0 (same ∙ begins.1)) in
    let picks = laws.is_listed again policy threads other_choice choice.thread (mode-stays policy at.0)
    (may-choose policy choice.thread at.0) next among second in
    let turned = system.turn course.state choice.thread course.left in
    rw picks.0
    (advanced_by-agree system again go other choice.thread (after_turn course choice turned) other_choice.next turned.end agree
    (follows-next laws listed course.policy threads choice first follows)
    (follows-next laws again policy threads other_choice second at.0, omega (arith, picks.1, at.1, length-append course.turns (choice.thread ∷ []))) same)

run_from-agree : {S : Type 0} → Chooser → (again : List ℕ) (most : ℕ) (system : System S) (listed : List ℕ) →
    Agree again (run_from most system listed) (run_from most system again)
unfolding run_from advanced
run_from-agree laws again zero system listed = λ course policy follows at same. refl
run_from-agree laws again (suc most) system listed = λ course policy follows at same.
    advanced_with-agree laws again (run_from most system listed) (run_from most system again) system listed course policy
    (choose listed course.policy (system.enabled course.state)) (choose again policy (system.enabled course.state))
    refl refl (run_from-agree laws again most system listed) (run_from-begins most system listed) follows at same

pub run_of-turns : {S : Type 0} → Chooser → (system : System S) (listed : List ℕ) (steps : ℕ) →
    run_of system (run_of system listed steps).turns steps ≡ run_of system listed steps
unfolding run_of
run_of-turns laws system listed steps =
    run_from-agree laws (run_from (steps + 1) system listed (first_course system steps)).turns (steps + 1) system listed
    (first_course system steps) from_front refl (refl, refl) refl
