-- A turn pays for what it prints: each item costs 1, and so does the turn itself unless it is cut.
use Rattle.std.proofs.Common.{◌≡◌, ℕ, zero, suc, ◌+◌, ◌-◌, ◌≤◌, eqb, List, ◌∷◌, ◌++◌, [], length, Option, Some, None, refl, ap, arith, length-append, map, ◌%◌}
use Rattle.std.specs.Prelude.{slice_get, slice_set}
use Rattle.std.specs.List.{list_all}
use Rattle.ir_types.specs.declared.external.ItemKind.TheVariants.{Status}
use Rattle.ir_types.specs.declared.instruction.Inst.{Inst}
use Rattle.ir_types.specs.declared.instruction.Inst.TheVariants.{External, Ret}
use Rattle.ir_types.specs.declared.instruction.Site.{Site}
use Rattle.run_types.specs.declared.run.TurnEnd.{TurnEnd}
use Rattle.run_types.specs.declared.run.TurnEnd.TheVariants as ends
use Rattle.machine_model.specs.declared.state.Frame.{Frame}
use Rattle.machine_model.specs.declared.state.Operation.{Operation}
use Rattle.machine_model.specs.declared.state.State.{State}
use Rattle.machine_model.specs.declared.state.Thread.{Thread}
use Rattle.machine_model.specs.Call.{Returned, is_blocked, call_of}
use Rattle.machine_model.specs.Effect.{Effect, Footprint, mapped}
use Rattle.machine_model.specs.Effect.Effect.{Done, Pauses, Exits, Traps, Blocks, NoRow}
use Rattle.machine_model.specs.Instruction.{effect_of}
use Rattle.machine_model.specs.Memory.{without}
use Rattle.machine_model.specs.Operation.{visible_effect, charged_for_items, ended, made_by, after_call, ends_with, unless_last, with_status, put_back, footprint_of}
use Rattle.machine_model.specs.Setting.{Setting}
use Rattle.machine_model.specs.Shared.{shared_of}
use Rattle.machine_model.specs.Thread.{has_ended, value_of}
use Rattle.machine_model.specs.Step.{Step, first_step, next_step}
use Rattle.machine_model.specs.Step.Step.{Waits, Does, Starts, Lacks}
use Rattle.machine_model.specs.SystemLaws.{price_of}
use Rattle.machine_model.specs.Turn.{Turned, Move, cost_of_effect, led_by, paid, rest_of_turn, rest_of, steps_within, steps_from, continued, turn, turn_of}
use Rattle.machine_model.specs.Turn.Move.{Leads, Stops}
use Rattle.machine_model.proofs.Cases.{by_test}
use Rattle.machine_model.proofs.Payment.{Pays, each-afforded, each-charged, paid-pays}
use Rattle.machine_model.proofs.Steps.{each-first_step}

-- what an effect prints costs it 1 for each item, but for the exit status
abbrev pub Charges : State → Effect State → Type 0
Charges before (Done more after) =
    (length before.output ≤ length after.output) × (length after.output ≤ length before.output + more)
Charges before (Pauses more after) =
    (length before.output ≤ length after.output) × (length after.output ≤ length before.output + more)
Charges before (Exits more status after) =
    (length before.output ≤ length after.output) × (length after.output ≤ length before.output + more + 1)
Charges before (Traps trap) = Unit {0}
Charges before Blocks = Unit {0}
Charges before NoRow = Unit {0}

after_call-charges : (state : State) (others : List Thread) (number : ℕ) (frame : Frame) (to : Option ℕ) (call : Effect Returned) →
    Charges state (charged_for_items (after_call state others number frame to) call)
after_call-charges state others number frame to (Done more call) =
    let long = length-append state.output call.items in (omega arith, omega arith)
after_call-charges state others number frame to (Pauses more call) =
    let long = length-append state.output call.items in (omega arith, omega arith)
after_call-charges state others number frame to (Exits more status call) =
    let long = length-append state.output call.items in (omega arith, omega arith)
after_call-charges state others number frame to (Traps trap) = tt
after_call-charges state others number frame to Blocks = tt
after_call-charges state others number frame to NoRow = tt

status-charges : (before state : State) (more status : ℕ) → state.output ≡ before.output →
    Charges before (Exits more status (with_status state status))
status-charges before state more status same =
    let long = length-append state.output (record { kind = Status; bits = status } ∷ []) in
    let alike = ap length same in
    (omega arith, omega arith)

unless_last-charges : (before state : State) → state.output ≡ before.output → Charges before (unless_last state)
unless_last-charges before state same =
    by_test (Charges before) (list_all has_ended state.threads) _ _
    (λ h. status-charges before state 0 0 same)
    (λ h. let alike = ap length same in (omega arith, omega arith))

ends_with-charges : (state : State) (number : ℕ) (thread : Thread) (frame : Frame) (result : ℕ) →
    Charges state (ends_with state number thread frame result)
ends_with-charges state number thread frame result =
    by_test (Charges state) (eqb number 0) _ _
    (λ h. status-charges state state 0 (result % 256) refl)
    (λ h. unless_last-charges state (record state {
      threads = slice_set state.threads number (ended thread result);
      objects = without frame.stack state.objects;
    }) refl)

mapped-charges : (state : State) (number : ℕ) (effect : Effect Footprint) →
    Charges state (mapped (put_back state number) effect)
mapped-charges state number (Done more after) = (omega arith, omega arith)
mapped-charges state number (Pauses more after) = (omega arith, omega arith)
mapped-charges state number (Exits more status after) = (omega arith, omega arith)
mapped-charges state number (Traps trap) = tt
mapped-charges state number Blocks = tt
mapped-charges state number NoRow = tt

visible_effect-charges : (setting : Setting) (state : State) (number : ℕ) (thread : Thread) (frame : Frame)
    (decided : List ℕ) (inst : Inst) → Charges state (visible_effect setting state number thread frame decided inst)
unfolding visible_effect
visible_effect-charges setting state number thread frame decided (External to which arguments) =
    by_test (Charges state) (is_blocked (shared_of state) number which decided) _ _
    (λ h. tt)
    (λ h. after_call-charges state (made_by setting.code which (map (value_of frame) arguments)) number frame to
    (call_of (shared_of state) number which (map (value_of frame) arguments) decided))
visible_effect-charges setting state number thread frame decided (Ret value) =
    ends_with-charges state number thread frame _
visible_effect-charges setting state number thread frame decided inst =
    mapped-charges state number (effect_of setting number (footprint_of state thread) frame decided inst)

-- the output only grows, and items and steps that are left pay for this much more
pub record Balances (before after : State) (left rest price : ℕ) : Type 0 where
  pub grows : length before.output ≤ length after.output
  pub pays : length after.output + rest + price ≤ length before.output + left

abbrev pub MoveBalances : State → ℕ → Move State → Type 0
MoveBalances before left (Leads after rest decided) = Balances before after left rest 1
MoveBalances before left (Stops turned) =
    Balances before turned.after left turned.left (price_of turned.end)

spent-balances : (state : State) (left : ℕ) → Balances state state left left 0
spent-balances state left = record { grows = omega arith; pays = omega arith }

-- an effect that costs so much and was paid
led-balances : (before : State) (left price : ℕ) (decided : List ℕ) (site : Site) (effect : Effect State) →
    Charges before effect → cost_of_effect effect ≡ Some price → price ≤ left →
    MoveBalances before left (led_by before (left - price) decided site effect)
led-balances before left price decided site (Done more after) charges is room =
    let one : more + 1 ≡ price = cc in record { grows = charges.0; pays = omega arith }
led-balances before left price decided site (Pauses more after) charges is room =
    let one : more + 1 ≡ price = cc in record { grows = charges.0; pays = omega arith }
led-balances before left price decided site (Exits more status after) charges is room =
    let one : more + 1 ≡ price = cc in record { grows = charges.0; pays = omega arith }
led-balances before left price decided site (Traps trap) charges is room =
    let one : 1 ≡ price = cc in record { grows = omega arith; pays = omega arith }
led-balances before left price decided site Blocks charges is room = absurd (let h : ⊥ = cc in h)
led-balances before left price decided site NoRow charges is room = absurd (let h : ⊥ = cc in h)

-- of a step with which a turn begins, which does not wait
abbrev StepCharges : State → Step State → Type 0
StepCharges before (Waits after addresses) = ⊥
StepCharges before (Does numbers site effect) = Charges before effect
StepCharges before Starts = Unit {0}
StepCharges before Lacks = Unit {0}

paid-balances : (before : State) (left : ℕ) (decided : List ℕ) (step : Step State) → StepCharges before step →
    MoveBalances before left (paid before left decided step)
unfolding paid
paid-balances before left decided (Waits after addresses) charges = absurd charges
paid-balances before left decided (Does numbers site effect) charges =
    each-charged (MoveBalances before left) before left (decided ++ numbers) site effect (spent-balances before left)
    (λ price is some room. led-balances before left price (decided ++ numbers) site effect charges is room)
paid-balances before left decided Starts charges =
    each-afforded (MoveBalances before left) before left decided (λ rest. Leads before rest decided) (Some 1) (spent-balances before left)
    (λ price is room. let one : 1 ≡ price = cc in record { grows = omega arith; pays = omega arith })
paid-balances before left decided Lacks charges = spent-balances before left

first_step-charges : (setting : Setting) (state : State) (number : ℕ) (thread : Thread) (operation : Operation) →
    StepCharges state (first_step setting state number thread operation)
first_step-charges setting state number thread operation =
    each-first_step (StepCharges state) setting state number thread operation tt tt
    (λ numbers decided site frame inst. visible_effect-charges setting state number thread frame decided inst)

continued-keeps : (go : Footprint → ℕ → List ℕ → Turned Footprint) (left : ℕ) (move : Move Footprint) → Pays left move →
    ((after : Footprint) (rest : ℕ) (decided : List ℕ) → (go after rest decided).left ≤ rest) →
    (continued go move).left ≤ left
continued-keeps go left (Leads after rest decided) pays keeps = let kept = keeps after rest decided in omega arith
continued-keeps go left (Stops turned) pays keeps = pays

-- instructions leave no more steps than there were
steps_within-keeps : (setting : Setting) (number most : ℕ) (footprint : Footprint) (left : ℕ) (decided : List ℕ) →
    (steps_within most setting number footprint left decided).left ≤ left
unfolding steps_within
steps_within-keeps setting number zero footprint left decided = omega arith
steps_within-keeps setting number (suc most) footprint left decided =
    continued-keeps (steps_within most setting number) left (paid footprint left decided (next_step setting number footprint))
    (paid-pays footprint left decided (next_step setting number footprint)) (steps_within-keeps setting number most)

-- the turn goes on from here
rest_of-balances : (setting : Setting) (number : ℕ) (before state : State) (left rest : ℕ) (decided : List ℕ)
    (thread : Option Thread) → Balances before state left rest 1 →
    let turned = rest_of setting number state rest decided thread in
    Balances before turned.after left turned.left (price_of turned.end)
rest_of-balances setting number before state left rest decided None balances =
    record { grows = balances.grows; pays = omega (arith, balances.pays) }
rest_of-balances setting number before state left rest decided (Some thread) balances =
    by_test (λ (turned : Turned State). Balances before turned.after left turned.left (price_of turned.end)) (has_ended thread) _ _
    (λ h. balances)
    (λ h. let keeps = steps_within-keeps setting number (rest + 1) (footprint_of state thread) rest decided in
    let bound = price-bound (steps_from setting number (footprint_of state thread) rest decided).end in
    record { grows = balances.grows; pays = omega (arith, balances.pays) })
  where
    price-bound : (end : TurnEnd) → price_of end ≤ 1
    price-bound ends.Going = omega arith
    price-bound (ends.Exit status) = omega arith
    price-bound (ends.Trap trap site) = omega arith
    price-bound ends.Spent = omega arith

-- a turn's items, its steps and the turn itself are paid from what was left
pub turn-balances : (setting : Setting) (state : State) (number left : ℕ) →
    let turned = turn setting state number left in
    Balances state turned.after left turned.left (price_of turned.end)
unfolding turn rest_of_turn
turn-balances setting state number left = by_thread (slice_get state.threads number)
  where
    by_move : (move : Move State) → MoveBalances state left move →
        let turned = continued (rest_of_turn setting number) move in
        Balances state turned.after left turned.left (price_of turned.end)
    by_move (Leads after rest decided) balances =
        rest_of-balances setting number state after left rest decided (slice_get after.threads number) balances
    by_move (Stops turned) balances = balances

    by_thread : (thread : Option Thread) → let turned = turn_of setting state number left thread in
        Balances state turned.after left turned.left (price_of turned.end)
    by_thread None = spent-balances state left
    by_thread (Some thread) =
        by_move (paid state left [] (first_step setting state number thread thread.pending))
        (paid-balances state left [] (first_step setting state number thread thread.pending)
        (first_step-charges setting state number thread thread.pending))
