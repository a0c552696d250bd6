-- What a visible instruction does, by its kind, and what is cut.
use Rattle.std.proofs.Common.{◌≡◌, ℕ, ◌+◌, ◌<◌, ◌≤◌, false, cond, List, [], map, Option, Some, None, ◌-◌, ◌++◌, length, refl, sym, ap, ◌∙◌, subst, arith}
use Rattle.std.specs.Prelude.{slice_get}
use Rattle.std.proofs.lemmas.Bool.{lt-ltb}
use Rattle.ir_types.specs.declared.external.Extern.{Extern}
use Rattle.ir_types.specs.declared.external.Extern.TheVariants.{Putchar}
use Rattle.ir_types.specs.declared.instruction.Inst.{Inst}
use Rattle.ir_types.specs.declared.instruction.Inst.TheVariants.{External, Ret}
use Rattle.ir_types.specs.declared.instruction.Operand.{Operand}
use Rattle.ir_types.specs.declared.instruction.Site.{Site}
use Rattle.run_types.specs.declared.run.TurnEnd.TheVariants.{Spent}
use Rattle.machine_model.specs.declared.state.Frame.{Frame}
use Rattle.machine_model.specs.declared.state.State.{State}
use Rattle.machine_model.specs.declared.state.Thread.{Thread}
use Rattle.machine_model.specs.Code.{Placed}
use Rattle.machine_model.specs.Call.{call_of, is_blocked}
use Rattle.machine_model.specs.Decision.{numbers_of}
use Rattle.machine_model.specs.Effect.{Effect, mapped}
use Rattle.machine_model.specs.Effect.Effect.{Done, Pauses, Exits, Traps, Blocks, NoRow}
use Rattle.machine_model.specs.Instruction.{effect_of}
use Rattle.machine_model.specs.Operation.{charged_for_items, footprint_of, made_by, put_back, after_call, visible_effect}
use Rattle.machine_model.specs.Setting.{Setting}
use Rattle.machine_model.specs.Shared.{shared_of}
use Rattle.machine_model.specs.Thread.{top, value_of}
use Rattle.machine_model.specs.Step.{first_step_at, first_step_in}
use Rattle.machine_model.specs.Turn.{Move, afforded, charged, cost_of_effect, led_by, paid, stopped}
use Rattle.concrete_machine.specs.declared.operation.Action.{Action}
use Rattle.concrete_machine.specs.Call.{frames_of, items_of_call}
use Rattle.concrete_machine.specs.Code.{next_at, next_of}
use Rattle.concrete_machine.specs.Operation.{Acts, IsTopOf, items_of}

-- a call that is not blocked is made
visible_call : (setting : Setting) (state : State) (number : ℕ) (thread : Thread) (frame : Frame) (decided : List ℕ)
    (to : Option ℕ) (which : Extern) (arguments : List Operand) → is_blocked (shared_of state) number which decided ≡ false →
    let values = map (value_of frame) arguments in
    visible_effect setting state number thread frame decided (External to which arguments)
    ≡ charged_for_items (after_call state (made_by setting.code which values) number frame to) (call_of (shared_of state) number which values decided)
unfolding visible_effect
visible_call setting state number thread frame decided to which arguments free =
    let values = map (value_of frame) arguments in
    ap (λ test. cond test Blocks
    (charged_for_items (after_call state (made_by setting.code which values) number frame to) (call_of (shared_of state) number which values decided))) free

-- all but calls and returns change only their thread and the objects
visible_other : (setting : Setting) (state : State) (number : ℕ) (thread : Thread) (frame : Frame) (decided : List ℕ) (inst : Inst) →
    ((to : Option ℕ) (which : Extern) (arguments : List Operand) → inst ≡ External to which arguments → ⊥) →
    ((value : Option Operand) → inst ≡ Ret value → ⊥) →
    (items_of inst ≡ 0) × (visible_effect setting state number thread frame decided inst
    ≡ mapped (put_back state number) (effect_of setting number (footprint_of state thread) frame decided inst))
unfolding visible_effect
visible_other setting state number thread frame decided (External to which arguments) call return =
    absurd (call to which arguments refl)
visible_other setting state number thread frame decided (Ret value) call return = absurd (return value refl)
visible_other setting state number thread frame decided inst call return = (refl, refl)

-- where an instruction costs more than is left it is cut
charged-short : {S : Type 0} (before : S) (left : ℕ) (decided : List ℕ) (site : Site) (effect : Effect S) →
    ((price : ℕ) → cost_of_effect effect ≡ Some price → left < price) →
    charged before left decided site effect ≡ stopped before left decided Spent
unfolding charged
charged-short {S} before left decided site effect dear = go (cost_of_effect effect) dear
  where
    go : (cost : Option ℕ) → ((price : ℕ) → cost ≡ Some price → left < price) →
        afforded before left decided (λ rest. led_by before rest decided site effect) cost ≡ stopped before left decided Spent
    go None dear = refl
    go (Some price) dear = rw (lt-ltb left price (dear price refl)) refl

effect-costs : {S : Type 0} (effect : Effect S) (price : ℕ) → cost_of_effect effect ≡ Some price → 0 < price
effect-costs (Done more after) price is = let one : more + 1 ≡ price = cc in omega arith
effect-costs (Pauses more after) price is = let one : more + 1 ≡ price = cc in omega arith
effect-costs (Exits more status after) price is = let one : more + 1 ≡ price = cc in omega arith
effect-costs (Traps trap) price is = let one : 1 ≡ price = cc in omega arith
effect-costs Blocks price is = absurd (let h : ⊥ = cc in h)
effect-costs NoRow price is = absurd (let h : ⊥ = cc in h)

-- an instruction costs more than it prints items
visible-costs : (setting : Setting) (state : State) (number : ℕ) (thread : Thread) (frame : Frame) (decided : List ℕ)
    (inst : Inst) (price : ℕ) → cost_of_effect (visible_effect setting state number thread frame decided inst) ≡ Some price →
    items_of inst < price
unfolding visible_effect is_blocked call_of
visible-costs setting state number thread frame decided (External to Putchar arguments) price is =
    let two : 2 ≡ price = cc in omega arith
visible-costs setting state number thread frame decided (External to which arguments) price is =
    effect-costs (visible_effect setting state number thread frame decided (External to which arguments)) price is
visible-costs setting state number thread frame decided inst price is =
    effect-costs (visible_effect setting state number thread frame decided inst) price is

-- where no more is left than an instruction prints it is cut
pub visible-short : (setting : Setting) (state : State) (number left : ℕ) (thread : Thread) (frame : Frame) (more decided : List ℕ)
    (site : Site) (inst : Inst) → left ≤ items_of inst →
    charged state left more site (visible_effect setting state number thread frame decided inst) ≡ stopped state left more Spent
visible-short setting state number left thread frame more decided site inst short =
    charged-short state left more site (visible_effect setting state number thread frame decided inst)
    (λ price is. let dear = visible-costs setting state number thread frame decided inst price is in omega arith)

-- what a call that is not blocked did
pub acts_call : (action : Action) (setting : Setting) (before after : State) (number : ℕ) (thread : Thread) (frame : Frame)
    (decided : List ℕ) (inst : Inst) (to : Option ℕ) (which : Extern) (arguments : List Operand) →
    inst ≡ External to which arguments → is_blocked (shared_of before) number which decided ≡ false →
    let values = map (value_of frame) arguments in
    Acts action (items_of_call which) before after
    (charged_for_items (after_call before (made_by setting.code which values) number frame to) (call_of (shared_of before) number which values decided)) →
    Acts action (items_of inst) before after (visible_effect setting before number thread frame decided inst)
acts_call action setting before after number thread frame decided inst to which arguments is free acts =
    let AtEffect : Effect State → Type 0 = λ effect. Acts action (items_of_call which) before after effect in
    let AtInst : Inst → Type 0 = λ other. Acts action (items_of other) before after (visible_effect setting before number thread frame decided other) in
    subst AtInst (sym is) (subst AtEffect (sym (visible_call setting before number thread frame decided to which arguments free)) acts)

-- what an instruction did that is neither a call nor a return
pub acts_other : (action : Action) (setting : Setting) (before after : State) (number : ℕ) (thread : Thread) (frame : Frame)
    (decided : List ℕ) (inst : Inst) →
    ((to : Option ℕ) (which : Extern) (arguments : List Operand) → inst ≡ External to which arguments → ⊥) →
    ((value : Option Operand) → inst ≡ Ret value → ⊥) →
    Acts action 0 before after (mapped (put_back before number) (effect_of setting number (footprint_of before thread) frame decided inst)) →
    Acts action (items_of inst) before after (visible_effect setting before number thread frame decided inst)
acts_other action setting before after number thread frame decided inst call return acts =
    let facts = visible_other setting before number thread frame decided inst call return in
    let AtEffect : Effect State → Type 0 = λ effect. Acts action 0 before after effect in
    let AtCount : ℕ → Type 0 = λ count. Acts action count before after (visible_effect setting before number thread frame decided inst) in
    subst AtCount (sym facts.0) (subst AtEffect (sym facts.1) acts)

-- who keeps its frames keeps the frame that runs
pub is_top_kept : (old new : Option Thread) (frame : Frame) → frames_of new ≡ frames_of old → IsTopOf old frame → IsTopOf new frame
is_top_kept None new frame same is = absurd is
is_top_kept (Some thread) None frame same is =
    let none : None ≡ top thread = ap (λ (frames : List Frame). slice_get frames (length frames - 1)) same in
    absurd (let h : ⊥ = cc in h)
is_top_kept (Some thread) (Some after) frame same is =
    ap (λ (frames : List Frame). slice_get frames (length frames - 1)) same ∙ is

moves_at : (setting : Setting) (before : State) (number left : ℕ) (thread : Thread) (addresses more numbers : List ℕ)
    (placed : Placed) (move : Move State) (found : Option Frame) → next_at setting.code found ≡ Some placed →
    ((frame : Frame) → found ≡ Some frame → more ≡ numbers_of setting.code before.objects frame addresses placed.inst) →
    numbers ≡ addresses ++ more →
    ((frame : Frame) → found ≡ Some frame →
    charged before left more placed.site (visible_effect setting before number thread frame numbers placed.inst) ≡ move) →
    paid before left [] (first_step_in setting before number thread addresses found) ≡ move
unfolding paid
moves_at setting before number left thread addresses more numbers placed move None next later all moves =
    absurd (let h : ⊥ = cc in h)
moves_at setting before number left thread addresses more numbers placed move (Some frame) next later all moves =
    ap (λ found. paid before left [] (first_step_at setting before number thread addresses frame found)) next
    ∙ ap (λ others. charged before left others placed.site
    (visible_effect setting before number thread frame (addresses ++ others) placed.inst)) (sym (later frame refl))
    ∙ ap (λ others. charged before left more placed.site
    (visible_effect setting before number thread frame others placed.inst)) (sym all)
    ∙ moves frame refl

-- what the pending instruction did
pub moves_pending : (setting : Setting) (before : State) (number left : ℕ) (thread : Thread) (addresses more numbers : List ℕ)
    (placed : Placed) (move : Move State) → next_of setting.code thread ≡ Some placed →
    ((frame : Frame) → top thread ≡ Some frame → more ≡ numbers_of setting.code before.objects frame addresses placed.inst) →
    numbers ≡ addresses ++ more →
    ((frame : Frame) → top thread ≡ Some frame →
    charged before left more placed.site (visible_effect setting before number thread frame numbers placed.inst) ≡ move) →
    paid before left [] (first_step_in setting before number thread addresses (top thread)) ≡ move
moves_pending setting before number left thread addresses more numbers placed move next later all moves =
    moves_at setting before number left thread addresses more numbers placed move (top thread) next later all moves
