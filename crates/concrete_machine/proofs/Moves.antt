-- Where the instructions of a turn lead: by the first of them, or nowhere where no more are run.
use Rattle.std.proofs.Common.{◌≡◌, ℕ, zero, suc, List, ap, ◌∙◌}
use Rattle.run_types.specs.declared.run.TurnEnd.TheVariants as ends
use Rattle.machine_model.specs.Effect.{Footprint}
use Rattle.machine_model.specs.Setting.{Setting}
use Rattle.machine_model.specs.Step.{next_step}
use Rattle.machine_model.specs.Turn.{Turned, paid, steps_within, continued}
use Rattle.machine_model.specs.Turn.Move.{Leads, Stops}

pub steps_within-leads : (most more : ℕ) (setting : Setting) (number : ℕ) (before after : Footprint) (left least : ℕ) (decided told : List ℕ) →
    most ≡ suc more → paid before left decided (next_step setting number before) ≡ Leads after least told →
    steps_within most setting number before left decided ≡ steps_within more setting number after least told
unfolding steps_within
steps_within-leads most more setting number before after left least decided told is leads =
    ap (λ fuel. steps_within fuel setting number before left decided) is ∙ ap (continued (steps_within more setting number)) leads

pub steps_within-stops : (most more : ℕ) (setting : Setting) (number : ℕ) (before : Footprint) (left : ℕ) (decided : List ℕ) (there : Turned Footprint) →
    most ≡ suc more → paid before left decided (next_step setting number before) ≡ Stops there →
    steps_within most setting number before left decided ≡ there
unfolding steps_within
steps_within-stops most more setting number before left decided there is stopped =
    ap (λ fuel. steps_within fuel setting number before left decided) is ∙ ap (continued (steps_within more setting number)) stopped

pub steps_within-none : (most : ℕ) (setting : Setting) (number : ℕ) (before : Footprint) (left : ℕ) (decided : List ℕ) →
    most ≡ zero →
    steps_within most setting number before left decided ≡ record { after = before; left = left; decided = decided; end = ends.Spent }
unfolding steps_within
steps_within-none most setting number before left decided is = ap (λ fuel. steps_within fuel setting number before left decided) is
