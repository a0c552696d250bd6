-- A machine of threads is a system as the laws want it.
use Rattle.std.proofs.Common.{ℕ, ◌+◌, length, refl, arith}
use Rattle.std.specs.List.{range_with_len}
use Rattle.std.specs.List.Sorted.{IsStrictlyIncreasing}
use Rattle.std.proofs.lemmas.List.FromFn.{get_or-range_with_len, length-range_with_len}
use Rattle.std.proofs.lemmas.List.Kept.{IsStrictlyIncreasing-filter}
use Rattle.machine_model.specs.declared.state.State.{State}
use Rattle.machine_model.specs.Enabled.{enabled, is_enabled}
use Rattle.machine_model.specs.Setting.{Setting}
use Rattle.machine_model.specs.System.{machine_of}
use Rattle.machine_model.specs.SystemLaws.{IsSystem}
use Rattle.machine_model.proofs.Accounts.{turn-balances}
use Rattle.machine_laws.proofs.Larger.{turn-lasts}
use Rattle.machine_laws.proofs.Released.{machine-keeps}

range-rises : (start count : ℕ) → IsStrictlyIncreasing (range_with_len start count)
range-rises start count place within =
    let long = length-range_with_len start count in
    omega (
      arith,
      get_or-range_with_len start count place 0 (omega arith),
      get_or-range_with_len start count (place + 1) 0 (omega arith),
    )

enabled-rises : (setting : Setting) (state : State) → IsStrictlyIncreasing (enabled setting.code state)
unfolding enabled
enabled-rises setting state =
    let count = length state.threads in
    IsStrictlyIncreasing-filter (is_enabled setting.code state) (range_with_len 0 count) (range-rises 0 count)

pub machine-is_system : (setting : Setting) → IsSystem (machine_of setting)
machine-is_system setting = record {
  silent = refl;
  rises = enabled-rises setting;
  costs = λ state thread left.
      let balances = turn-balances setting state thread left in record { grows = balances.grows; pays = balances.pays };
  lasts = turn-lasts setting;
  keeps = machine-keeps setting;
}
