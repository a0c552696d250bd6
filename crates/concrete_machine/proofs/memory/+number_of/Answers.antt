use Rattle.std.proofs.Common.{◌≤◌, ◌<◌, ◌-◌, ◌^◌, ℕ, List, length, take, drop, arith, length-drop}
use Rattle.std.proofs.Math.Nat.{pow-le-pow_right}
use Rattle.std.proofs.lemmas.List.{length-take}
use Rattle.concrete_machine.proofs.memory.+number_of.Goals as goal

-- at most seven bytes follow the first of at most eight
few-follow : (bytes : List ℕ) → length bytes ≤ 8 → length (take (length bytes - 1) (drop 1 bytes)) ≤ 7
few-follow bytes few = omega (arith, length-take (length bytes - 1) (drop 1 bytes), length-drop 1 bytes)

-- and they spell a number of seven bytes
below : (bytes : List ℕ) (number : ℕ) → length bytes ≤ 7 → number < 256 ^ length bytes → number < 256 ^ 7
below bytes number few less =
    let more = pow-le-pow_right {n = 256} (omega arith) {i = length bytes} {j = 7} few in omega arith

pub overflow_mul-result : goal.overflow_mul-result
overflow_mul-result t c =
    let less = below _ _ (few-follow c.args.bytes.now c.requires) c.number_of.ensures.bound in omega arith

pub overflow_add-result : goal.overflow_add-result
overflow_add-result t c =
    let less = below _ _ (few-follow c.args.bytes.now c.requires) c.number_of.ensures.bound in
    omega (arith, c.from.ensures, c.type_inv.bytes 0)
