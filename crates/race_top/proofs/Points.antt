-- The search for the hold point of a race among the moments of a run.
use Rattle.std.proofs.Common.{◌≡◌, ℕ, ◌+◌, ◌-◌, List, [], ◌∷◌, ◌++◌, drop, length, take, Option, Some, None, refl, sym, ap, subst, ◌∙◌, arith, length-drop}
use Rattle.std.specs.Prelude.{IfSome, option_map}
use Rattle.std.proofs.lemmas.List.{map_push}
use Rattle.ir_types.specs.declared.input.Input.{Input}
use Rattle.ir_types.specs.declared.«module».Module.{Module}
use Rattle.run_types.specs.declared.case.Case.{Case}
use Rattle.run_types.specs.declared.race.Race.{Race}
use Rattle.machine_model.specs.declared.state.State.{State}
use Rattle.machine_model.specs.Job.{point_of, point_at, point_in, snapshots}
use Rattle.machine_model.specs.Moment.{Moment, access_at, from_turn}
use Rattle.machine_model.specs.Policy.{Choice, Policy}
use Rattle.machine_model.specs.Primary.{setting_of}
use Rattle.machine_model.specs.Reach.{from_first, primary_moments}
use Rattle.machine_model.specs.Repeat.{Snapshot, snapshot_of}
use Rattle.machine_model.specs.System.{machine_of}
use Rattle.concrete_machine.specs.declared.course.Course.{Course}
use Rattle.concrete_machine.specs.Course.{IsOf}
use Rattle.race_top.specs.declared.order_enforcer.past.Past.{Past}
use Rattle.race_top.specs.declared.order_enforcer.point.Point.{Point}
use Rattle.race_top.specs.Past.{Recalls}
use Rattle.race_top.proofs.Moments.{take-next}

-- where no moment from the race's first access on is left, there is none
pub point-none : (code : Module) (case : Case) (race : Race) (input : Input) (number : ℕ) (left : List (Moment State)) →
    left ≡ [] → from_turn race.t1 number left ≡ from_first race (primary_moments code case input) →
    point_of code case race input ≡ None
unfolding point_of
point-none code case race input number left none from =
    let end : from_first race (primary_moments code case input) ≡ [] =
    sym from ∙ ap (from_turn race.t1 number) none in
    ap (point_in (machine_of (setting_of code case input)) (primary_moments code case input)) end

-- the snapshots of one moment more
pub snapshots-next : (moments : List (Moment State)) (i : ℕ) (moment : Moment State) (rest : List (Moment State)) →
    drop i moments ≡ moment ∷ rest →
    snapshots (take (i + 1) moments) ≡ snapshots (take i moments) ++ snapshot_of moment.before ∷ []
snapshots-next moments i moment rest is =
    ap snapshots (take-next moments i moment rest is)
    ∙ map_push (λ one. snapshot_of one.before) (take i moments) moment

-- where the next moment is the race's, its course is the hold point's
pub point-here : (code : Module) (case : Case) (race : Race) (input : Input) (i : ℕ) (moment : Moment State)
    (rest : List (Moment State)) →
    drop i (primary_moments code case input) ≡ moment ∷ rest →
    moment ∷ rest ≡ from_first race (primary_moments code case input) →
    point_of code case race input
    ≡ point_at (snapshots (take i (primary_moments code case input)) ++ snapshot_of moment.before ∷ []) moment
    (access_at (machine_of (setting_of code case input)) moment)
unfolding point_of
point-here code case race input i moment rest is from =
    let moments = primary_moments code case input in
    let system = machine_of (setting_of code case input) in
    let count : length moments - length rest ≡ i + 1 = omega (arith, length-drop i moments, ap length is) in
    ap (point_in system moments) (sym from)
    ∙ ap (λ number. point_at (snapshots (take number moments)) moment (access_at system moment)) count
    ∙ ap (λ past. point_at past moment (access_at system moment)) (snapshots-next moments i moment rest is)

-- the thread that is told is that of a choice
pub thread-chosen : (chosen : Option Choice) (thread : ℕ) → Some thread ≡ option_map (λ choice. choice.thread) chosen →
    (next : Policy) × (chosen ≡ Some (record { thread = thread; next = next }))
thread-chosen None thread is = absurd (let h : ⊥ = cc in h)
thread-chosen (Some choice) thread is = let same : thread ≡ choice.thread = cc in (choice.next, rw same refl)

-- where none is told there is no choice
pub none-chosen : (chosen : Option Choice) → None ≡ option_map (λ choice. choice.thread) chosen → chosen ≡ None
none-chosen None is = refl
none-chosen (Some choice) is = absurd (let h : ⊥ = cc in h)

-- a point has the course that was found, which is of the module and the case
pub point-of : (code : Module) (case : Case) (found : Option Point) (course : Course) → IsOf code case course →
    IfSome found (λ point. point.course ≡ course) → IfSome found (λ point. IsOf code case point.course)
point-of code case None course of is = tt
point-of code case (Some point) course of is = subst (IsOf code case) (sym is) of

pub Recalls-next : (moments : List (Moment State)) (i : ℕ) (moment : Moment State) (rest : List (Moment State))
    (now : Snapshot State) (past : Past) →
    drop i moments ≡ moment ∷ rest →
    Recalls ((snapshots (take i moments) ++ snapshot_of moment.before ∷ []) ++ now ∷ []) past →
    Recalls (snapshots (take (i + 1) moments) ++ now ∷ []) past
Recalls-next moments i moment rest now past is recalls = rw (snapshots-next moments i moment rest is) recalls
