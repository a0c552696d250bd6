-- When two choosers are one: as the repeat test says.
use Rattle.std.proofs.Common.{◌≡◌, ap, Option, Some, None, refl, ℕ}
use Rattle.std.specs.Bool.{Decides}
use Rattle.std.specs.Cmp.{booleans_Decides}
use Rattle.std.proofs.lemmas.Bool.Decides.{Decides-and, Decides-eqb, Decides-like}
use Rattle.machine_model.specs.contracts.mode.ModePartialEq.TheImpl as mode
use Rattle.machine_model.specs.declared.mode.Mode.{Mode}
use Rattle.machine_model.specs.declared.mode.Mode.TheVariants.{Before, Hold, After}
use Rattle.machine_model.specs.Repeat.{same_last, same_policy}
use Rattle.machine_laws.specs.RepeatLaws.{SamePolicyIsEqual}
use Rattle.machine_laws.proofs.StateEquality.{always, apart}

mode_decides : (x y : Mode) → Decides ((mode.ghosts).eq x y) (x ≡ y)
mode_decides Before Before = always refl
mode_decides Before (Hold other) = apart (λ e. cc)
mode_decides Before (After other others) = apart (λ e. cc)
mode_decides (Hold thread) Before = apart (λ e. cc)
mode_decides (Hold thread) (Hold other) = Decides-like _ (ap Hold) (λ e. cc) (Decides-eqb thread other)
mode_decides (Hold thread) (After other others) = apart (λ e. cc)
mode_decides (After thread chosen) Before = apart (λ e. cc)
mode_decides (After thread chosen) (Hold other) = apart (λ e. cc)
mode_decides (After thread chosen) (After other others) =
    Decides-like _ (λ p i. After (p.0 i) (p.1 i)) (λ e. (cc, cc))
    (Decides-and _ _ (Decides-eqb thread other) (booleans_Decides chosen others))

last_decides : (x y : Option ℕ) → Decides (same_last x y) (x ≡ y)
last_decides None None = always refl
last_decides None (Some y) = apart (λ e. cc)
last_decides (Some x) None = apart (λ e. cc)
last_decides (Some x) (Some y) = Decides-like _ (ap Some) (λ e. cc) (Decides-eqb x y)

pub policy_decides : SamePolicyIsEqual
unfolding same_policy
policy_decides x y =
    Decides-like _ (λ p i. record { mode = p.0.0 i; follow = record { position = p.0.1 i; last = p.1 i } })
    (λ e. ((ap (λ z. z.mode) e, ap (λ z. z.follow.position) e), ap (λ z. z.follow.last) e))
    (Decides-and _ _
    (Decides-and _ _ (mode_decides x.mode y.mode) (Decides-eqb x.follow.position y.follow.position))
    (last_decides x.follow.last y.follow.last))
