-- Each step that a turn takes costs at least 1, so a turn takes no more of them than are left.
use Rattle.std.proofs.Common.{◌≡◌, ℕ, zero, suc, ◌+◌, ◌-◌, ◌<◌, ◌≤◌, ltb, List, ◌++◌, Option, Some, None, refl, arith}
use Rattle.std.proofs.lemmas.Bool.{ltb-false}
use Rattle.ir_types.specs.declared.instruction.Site.{Site}
use Rattle.run_types.specs.declared.run.TurnEnd.TheVariants as ends
use Rattle.machine_model.specs.Effect.{Effect, Footprint}
use Rattle.machine_model.specs.Effect.Effect.{Done, Pauses, Exits, Traps, Blocks, NoRow}
use Rattle.machine_model.specs.Setting.{Setting}
use Rattle.machine_model.specs.Step.{Step, next_step}
use Rattle.machine_model.specs.Step.Step.{Waits, Does, Starts, Lacks}
use Rattle.machine_model.specs.Turn.{Turned, Move, afforded, charged, continued, cost_of_effect, led_by, paid, steps_within, stopped}
use Rattle.machine_model.specs.Turn.Move.{Leads, Stops}
use Rattle.machine_model.proofs.Cases.{by_test}

-- where a move leads on, fewer steps are left
abbrev pub Pays : {S : Type 0} → ℕ → Move S → Type 0
Pays left (Leads after rest decided) = rest < left
Pays left (Stops turned) = turned.left ≤ left

-- a step is cut, or what is left is enough for what it costs
pub each-afforded : {S : Type 0} (P : Move S → Type 0) (before : S) (left : ℕ) (decided : List ℕ) (go : ℕ → Move S)
    (cost : Option ℕ) → P (stopped before left decided ends.Spent) →
    ((price : ℕ) → cost ≡ Some price → price ≤ left → P (go (left - price))) → P (afforded before left decided go cost)
each-afforded P before left decided go None cut pays = cut
each-afforded P before left decided go (Some price) cut pays =
    by_test P (ltb left price) _ _ (λ h. cut) (λ h. pays price refl (ltb-false left price h))

-- so it is with an effect, which costs at least 1
pub each-charged : {S : Type 0} (P : Move S → Type 0) (before : S) (left : ℕ) (decided : List ℕ) (site : Site)
    (effect : Effect S) → P (stopped before left decided ends.Spent) →
    ((price : ℕ) → cost_of_effect effect ≡ Some price → 1 ≤ price → price ≤ left →
    P (led_by before (left - price) decided site effect)) →
    P (charged before left decided site effect)
unfolding charged
each-charged {S} P before left decided site effect cut pays =
    each-afforded P before left decided (λ rest. led_by before rest decided site effect) (cost_of_effect effect) cut
    (λ price is room. pays price is (some effect price is) room)
  where
    some : (effect : Effect S) (price : ℕ) → cost_of_effect effect ≡ Some price → 1 ≤ price
    some (Done more after) price is = let one : more + 1 ≡ price = cc in omega arith
    some (Pauses more after) price is = let one : more + 1 ≡ price = cc in omega arith
    some (Exits more status after) price is = let one : more + 1 ≡ price = cc in omega arith
    some (Traps trap) price is = let one : 1 ≡ price = cc in omega arith
    some Blocks price is = absurd (let h : ⊥ = cc in h)
    some NoRow price is = absurd (let h : ⊥ = cc in h)

led-pays : {S : Type 0} (before : S) (left rest : ℕ) (decided : List ℕ) (site : Site) (effect : Effect S) →
    rest < left → Pays left (led_by before rest decided site effect)
led-pays before left rest decided site (Done more after) less = less
led-pays before left rest decided site (Pauses more after) less = omega arith
led-pays before left rest decided site (Exits more status after) less = omega arith
led-pays before left rest decided site (Traps trap) less = omega arith
led-pays before left rest decided site Blocks less = omega arith
led-pays before left rest decided site NoRow less = omega arith

pub paid-pays : {S : Type 0} (before : S) (left : ℕ) (decided : List ℕ) (step : Step S) →
    Pays left (paid before left decided step)
unfolding paid
paid-pays before left decided (Waits after addresses) = omega arith
paid-pays before left decided (Does numbers site effect) =
    each-charged (Pays left) before left (decided ++ numbers) site effect (omega arith)
    (λ price is some room. led-pays before left (left - price) (decided ++ numbers) site effect (omega arith))
paid-pays before left decided Starts =
    each-afforded (Pays left) before left decided (λ rest. Leads before rest decided) (Some 1) (omega arith)
    (λ price is room. let one : 1 ≡ price = cc in omega arith)
paid-pays before left decided Lacks = omega arith

-- what two ways of going on agree on, a move that pays agrees on
pub continued-agrees : {S : Type 0} (go other : S → ℕ → List ℕ → Turned S) (left : ℕ) (move : Move S) → Pays left move →
    ((after : S) (rest : ℕ) (decided : List ℕ) → rest < left → go after rest decided ≡ other after rest decided) →
    continued go move ≡ continued other move
continued-agrees go other left (Leads after rest decided) pays agree = agree after rest decided pays
continued-agrees go other left (Stops turned) pays agree = refl

-- any two bounds above what is left agree
pub steps_within-agrees : (setting : Setting) (number : ℕ) (one two : ℕ) (footprint : Footprint) (left : ℕ) (decided : List ℕ) →
    left < one → left < two → steps_within one setting number footprint left decided ≡ steps_within two setting number footprint left decided
unfolding steps_within
steps_within-agrees setting number zero two footprint left decided h k = absurd (omega arith)
steps_within-agrees setting number (suc one) zero footprint left decided h k = absurd (omega arith)
steps_within-agrees setting number (suc one) (suc two) footprint left decided h k =
    continued-agrees (steps_within one setting number) (steps_within two setting number) left
    (paid footprint left decided (next_step setting number footprint))
    (paid-pays footprint left decided (next_step setting number footprint))
    (λ after rest more less. steps_within-agrees setting number one two after rest more (omega arith) (omega arith))
