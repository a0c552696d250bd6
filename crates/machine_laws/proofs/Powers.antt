-- The greatest power of two within a number.
use Rattle.std.proofs.Common.{◌≡◌, ℕ, zero, suc, ◌-◌, ◌*◌, ◌^◌, ◌<◌, ◌≤◌, leb, refl, subst, arith}
use Rattle.std.proofs.lemmas.Bool.{leb-false, leb-true}
use Rattle.machine_model.specs.Repeat.{power_within}
use Rattle.machine_laws.specs.RepeatLaws.{EarlierTurnIsPower}
use Rattle.machine_model.proofs.Cases.{by_test}

-- a power of two that is within a number, and twice it is not
record IsPowerWithin (number power : ℕ) : Type 0 where
  exponent : ℕ
  is : power ≡ 2 ^ exponent
  within : power ≤ number
  greatest : number < 2 * power

power_within-is : (n : ℕ) → IsPowerWithin (suc n) (power_within (suc n))
unfolding power_within
power_within-is zero = record { exponent = 0; is = refl; within = omega arith; greatest = omega arith }
power_within-is (suc n) =
    let before = power_within-is n in
    let power = power_within (suc n) in
    by_test (IsPowerWithin (suc (suc n))) (leb (2 * power) (suc (suc n))) _ _
    (λ h. let reached : 2 * power ≤ suc (suc n) = leb-true (2 * power) (suc (suc n)) h in
    record {
      exponent = suc before.exponent;
      is = omega (arith, before.is, before.greatest, reached);
      within = omega arith;
      greatest = omega arith;
    })
    (λ h. let beyond : suc (suc n) < 2 * power = leb-false (2 * power) (suc (suc n)) h in
    record {
      exponent = before.exponent;
      is = before.is;
      within = omega (arith, before.within);
      greatest = beyond;
    })

-- what the law says, of the turn after a number
abbrev IsEarlier : ℕ → ℕ → Type 0
IsEarlier turn earlier = ((exponent : ℕ) × (earlier ≡ 2 ^ exponent)) × (earlier < turn) × (turn ≤ 2 * earlier)

earlier-is_power : (n : ℕ) → IsEarlier (suc (suc n)) (power_within (suc n))
earlier-is_power n =
    let is = power_within-is n in
    ((is.exponent, is.is), omega (arith, is.within), omega (arith, is.greatest))

pub earlier_turn-is_power : EarlierTurnIsPower
earlier_turn-is_power zero more = absurd (omega arith)
earlier_turn-is_power (suc zero) more = absurd (omega arith)
earlier_turn-is_power (suc (suc n)) more =
    let before : suc n ≡ suc (suc n) - 1 = omega arith in
    subst (λ number. IsEarlier (suc (suc n)) (power_within number)) before (earlier-is_power n)
