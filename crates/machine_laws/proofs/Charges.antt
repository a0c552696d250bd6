-- A turn of which each step is one that there is to take: each has a cost, and where the turn is spent its last step was
-- cut.
use Rattle.std.proofs.Common.{◌≡◌, ℕ, ◌+◌, ◌-◌, ◌<◌, ◌≤◌, Bool, true, false, cond, ltb, List, [], ◌∷◌, ◌++◌, Some, refl, arith}
use Rattle.std.proofs.lemmas.Bool.{ltb-false, ltb-true}
use Rattle.ir_types.specs.declared.instruction.Site.{Site}
use Rattle.run_types.specs.declared.run.TurnEnd.TheVariants as ends
use Rattle.machine_model.specs.Charge.{Charge, HasCost, IsCut, charge_of, charges_on}
use Rattle.machine_model.specs.Effect.{Effect}
use Rattle.machine_model.specs.Effect.Effect.{Done, Pauses, Exits, Traps, Blocks, NoRow}
use Rattle.machine_model.specs.Step.{Step}
use Rattle.machine_model.specs.Step.Step.{Waits, Does, Starts, Lacks}
use Rattle.machine_model.specs.Turn.{Turned, Move, afforded, charged, continued, cost_of_effect, led_by, paid}
use Rattle.machine_model.specs.Turn.Move.{Leads, Stops}
use Rattle.machine_laws.proofs.Endings.{EachAndLast, each-cons, each-last, each-none}

-- there is such an effect, and this holds of what it leaves
abbrev pub EffectGoes : {S : Type 0} → (S → Type 0) → Effect S → Type 0
EffectGoes P (Done more after) = P after
EffectGoes P (Pauses more after) = P after
EffectGoes P (Exits more status after) = P after
EffectGoes P (Traps trap) = Unit {0}
EffectGoes P Blocks = ⊥
EffectGoes P NoRow = ⊥

abbrev pub StepGoes : {S : Type 0} → (S → Type 0) → Step S → Type 0
StepGoes P (Waits after addresses) = P after
StepGoes P (Does numbers site effect) = EffectGoes P effect
StepGoes P Starts = Unit {0}
StepGoes P Lacks = ⊥

-- this holds of what a turn, or a part of one, leaves; each of its steps has its cost, and where it is spent the last one
-- was cut
pub record IsCharged {S : Type 0} (P : S → Type 0) (turned : Turned S) (charges : List Charge) : Type 0 where
  pub keeps : P turned.after
  pub costs : EachAndLast HasCost IsCut (turned.end ≡ ends.Spent) charges

-- each effect that there is has its cost
some-cost : {S : Type 0} (P : S → Type 0) (effect : Effect S) → EffectGoes P effect →
    (price : ℕ) × (cost_of_effect effect ≡ Some price) × (1 ≤ price)
some-cost P (Done more after) goes = (more + 1, refl, omega arith)
some-cost P (Pauses more after) goes = (more + 1, refl, omega arith)
some-cost P (Exits more status after) goes = (more + 1, refl, omega arith)
some-cost P (Traps trap) goes = (1, refl, omega arith)
some-cost P Blocks goes = absurd goes
some-cost P NoRow goes = absurd goes

-- a step, and what it leads to
module _ {S : Type 0} (P : S → Type 0) (go : S → ℕ → List ℕ → Turned S) (others : S → ℕ → List Charge) (before : S) (left : ℕ)
    (holds : P before)
    (goes : (after : S) (rest : ℕ) (decided : List ℕ) → rest < left → P after → IsCharged P (go after rest decided) (others after rest)) where
  abbrev Goes : Move S → Move S → Type 0
  Goes move other = IsCharged P (continued go move) (charges_on others other)

  -- the numbers that were decided have no part in what steps cost
  led-charged : (rest : ℕ) (decided again : List ℕ) (site : Site) (effect : Effect S) → rest < left → EffectGoes P effect →
      Goes (led_by before rest decided site effect) (led_by before rest again site effect)
  led-charged rest decided again site (Done more after) less keeps = goes after rest decided less keeps
  led-charged rest decided again site (Pauses more after) less keeps = record { keeps = keeps; costs = each-none (λ spent. let h : ⊥ = cc in h) }
  led-charged rest decided again site (Exits more status after) less keeps = record { keeps = keeps; costs = each-none (λ spent. let h : ⊥ = cc in h) }
  led-charged rest decided again site (Traps trap) less keeps = record { keeps = holds; costs = each-none (λ spent. let h : ⊥ = cc in h) }
  led-charged rest decided again site Blocks less keeps = absurd keeps
  led-charged rest decided again site NoRow less keeps = absurd keeps

  afforded-charged : (decided again : List ℕ) (price : ℕ) (move other : ℕ → Move S) →
      (price ≤ left → Goes (move (left - price)) (other (left - price))) →
      IsCharged P (continued go (afforded before left decided move (Some price)))
      (record { cost = Some price; left = left } ∷ charges_on others (afforded before left again other (Some price)))
  afforded-charged decided again price move other pays = by_room (ltb left price) refl
    where
      by_room : (short : Bool) → ltb left price ≡ short →
          IsCharged P (continued go (cond short (Stops (record { after = before; left = left; decided = decided; end = ends.Spent })) (move (left - price))))
          (record { cost = Some price; left = left } ∷
          charges_on others (cond short (Stops (record { after = before; left = left; decided = again; end = ends.Spent })) (other (left - price))))
      by_room true test = record { keeps = holds; costs = each-last _ (price, refl) (price, refl, ltb-true left price test) }
      by_room false test =
          let rest = pays (ltb-false left price test) in record { keeps = rest.keeps; costs = each-cons _ _ (price, refl) rest.costs }

  pub paid-charged : (decided : List ℕ) (step : Step S) → StepGoes P step →
      IsCharged P (continued go (paid before left decided step)) (charge_of left step ∷ charges_on others (paid before left [] step))
  unfolding paid charged
  paid-charged decided (Waits after addresses) keeps =
      record { keeps = keeps; costs = each-cons _ [] (0, refl) (each-none (λ spent. let h : ⊥ = cc in h)) }
  paid-charged decided (Does numbers site effect) keeps =
      let cost = some-cost P effect keeps in
      rw cost.1 (afforded-charged (decided ++ numbers) numbers cost.0
      (λ rest. led_by before rest (decided ++ numbers) site effect) (λ rest. led_by before rest numbers site effect)
      (λ room. led-charged (left - cost.0) (decided ++ numbers) numbers site effect (omega (arith, cost.2)) keeps))
  paid-charged decided Starts keeps =
      afforded-charged decided [] 1 (λ rest. Leads before rest decided) (λ rest. Leads before rest []) (λ room. goes before (left - 1) decided (omega arith) holds)
  paid-charged decided Lacks keeps = absurd keeps
