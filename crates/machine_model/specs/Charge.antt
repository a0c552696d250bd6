-- What the steps of a turn cost, and what was left for each.
use Rattle.std.specs.Prelude.{◌≡◌, ℕ, zero, suc, ◌+◌, ◌<◌, List, [], ◌∷◌, slice_get, Option, Some, None, if◌then◌else◌}
use Rattle.machine_model.specs.declared.state.State.{State}
use Rattle.machine_model.specs.declared.state.Thread.{Thread}
use Rattle.machine_model.specs.Effect.{Footprint}
use Rattle.machine_model.specs.Operation.{footprint_of}
use Rattle.machine_model.specs.Setting.{Setting}
use Rattle.machine_model.specs.Step.{Step, first_step, next_step}
use Rattle.machine_model.specs.Thread.{has_ended}
use Rattle.machine_model.specs.Turn.{Move, cost_of, paid}
use Rattle.machine_model.specs.Turn.Move.{Leads, Stops}

-- the cost of a step, none where there was no step to take, and what was left for it
pub record Charge : Type 0 where
  pub cost : Option ℕ
  pub left : ℕ

abbrev pub charge_of : {S : Type 0} → ℕ → Step S → Charge
charge_of left step = record { cost = cost_of step; left = left }

abbrev pub charges_on : {S : Type 0} → (S → ℕ → List Charge) → Move S → List Charge
charges_on go (Leads after left decided) = go after left
charges_on go (Stops turned) = []

-- the steps of a thread until the turn ends, of which there are at most `most`
unfoldable pub charges_within : ℕ → Setting → ℕ → Footprint → ℕ → List Charge
charges_within zero setting number footprint left = []
charges_within (suc most) setting number footprint left =
    let step = next_step setting number footprint in
    charge_of left step ∷ charges_on (charges_within most setting number) (paid footprint left [] step)

abbrev pub charges_of_rest : Setting → ℕ → State → ℕ → Option Thread → List Charge
charges_of_rest setting number state left None = []
charges_of_rest setting number state left (Some thread) =
    if has_ended thread then [] else charges_within (left + 1) setting number (footprint_of state thread) left

abbrev pub charges_of_turn : Setting → State → ℕ → ℕ → Option Thread → List Charge
charges_of_turn setting state number left None = []
charges_of_turn setting state number left (Some thread) =
    let step = first_step setting state number thread thread.pending in
    charge_of left step
    ∷ charges_on (λ after rest. charges_of_rest setting number after rest (slice_get after.threads number)) (paid state left [] step)

-- of the turn of a thread
unfoldable pub charges : Setting → State → ℕ → ℕ → List Charge
charges setting state number left = charges_of_turn setting state number left (slice_get state.threads number)

-- there was a step to take
abbrev pub HasCost : Charge → Type 0
HasCost charge = (cost : ℕ) × (charge.cost ≡ Some cost)

-- it cost more than was left
abbrev pub IsCut : Charge → Type 0
IsCut charge = (cost : ℕ) × (charge.cost ≡ Some cost) × (charge.left < cost)
