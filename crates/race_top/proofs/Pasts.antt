-- What the repeat test compares with, from turn to turn.
use Rattle.std.proofs.Common.{◌≡◌, ℕ, zero, suc, ◌+◌, ◌-◌, ◌*◌, ◌<◌, ◌≤◌, true, false, nat_lt, leb, List, [], ◌∷◌, ◌++◌, length, Some, refl, sym, ap, ◌∙◌, add-one, arith, length-append}
use Rattle.std.specs.Prelude.{slice_get}
use Rattle.std.proofs.lemmas.Bool.{le-leb, lt-leb, lt-ltb}
use Rattle.machine_model.specs.declared.state.State.{State}
use Rattle.machine_model.specs.Repeat.{Snapshot, power_within, repeats, same_snapshot}
use Rattle.machine_model.specs.System.{System}
use Rattle.race_top.specs.declared.order_enforcer.past.Past.{Past}
use Rattle.race_top.specs.Past.{Recalls, kept_snapshot}

slice_get-last : (snapshots : List (Snapshot State)) (now : Snapshot State) →
    slice_get (snapshots ++ now ∷ []) (length snapshots) ≡ Some now
slice_get-last [] now = refl
slice_get-last (first ∷ rest) now = slice_get-last rest now

slice_get-front : (snapshots later : List (Snapshot State)) (at : ℕ) (kept : Snapshot State) →
    slice_get snapshots at ≡ Some kept → slice_get (snapshots ++ later) at ≡ Some kept
slice_get-front [] later at kept is = absurd (cc)
slice_get-front (first ∷ rest) later zero kept is = is
slice_get-front (first ∷ rest) later (suc at) kept is = slice_get-front rest later at kept is

-- nothing but the start
pub recalls-start : (start : Snapshot State) (past : Past) → past.turns ≡ 0 → past.earlier ≡ 0 →
    Recalls (start ∷ []) past
unfolding power_within
recalls-start start past turns earlier = record {
  turns = omega arith;
  earlier = rw (turns, earlier) refl;
  kept = λ some. absurd (omega (arith, some));
}

power_within-reached : (turns next : ℕ) → next ≡ turns + 1 → 2 * power_within turns ≤ next → power_within next ≡ next
unfolding power_within
power_within-reached turns next counted reached =
    let test : leb (2 * power_within turns) (suc turns) ≡ true = le-leb _ _ (omega arith) in
    rw (counted, add-one, test) refl

power_within-passed : (turns next : ℕ) → next ≡ turns + 1 → next < 2 * power_within turns →
    power_within next ≡ power_within turns
unfolding power_within
power_within-passed turns next counted beyond =
    let test : leb (2 * power_within turns) (suc turns) ≡ false = lt-leb _ _ (omega arith) in
    rw (counted, add-one, test) refl

power_within-some : (turns : ℕ) → 0 < power_within turns → 0 < turns
unfolding power_within
power_within-some zero some = absurd (omega arith)
power_within-some (suc turns) some = omega arith

-- a turn that is a power of two is kept
pub recalls-kept : (snapshots : List (Snapshot State)) (now : Snapshot State) (before after : Past) →
    Recalls snapshots before →
    after.turns ≡ before.turns + 1 → 2 * before.earlier ≤ after.turns → after.earlier ≡ after.turns →
    kept_snapshot after ≡ now → Recalls (snapshots ++ now ∷ []) after
recalls-kept snapshots now before after recalls counted reached earlier is = record {
  turns = omega (arith, length-append snapshots (now ∷ []), recalls.turns);
  earlier = earlier ∙ sym (power_within-reached before.turns after.turns counted (rw recalls.earlier at reached));
  kept = λ some.
      let here : after.earlier ≡ length snapshots = omega (arith, recalls.turns) in
      rw (here, is) (slice_get-last snapshots now);
}

-- another turn is not
pub recalls-passed : (snapshots : List (Snapshot State)) (now : Snapshot State) (before after : Past) →
    Recalls snapshots before →
    after.turns ≡ before.turns + 1 → after.turns < 2 * before.earlier → after.earlier ≡ before.earlier →
    kept_snapshot after ≡ kept_snapshot before → Recalls (snapshots ++ now ∷ []) after
recalls-passed snapshots now before after recalls counted beyond earlier is = record {
  turns = omega (arith, length-append snapshots (now ∷ []), recalls.turns);
  earlier = earlier ∙ recalls.earlier
      ∙ sym (power_within-passed before.turns after.turns counted (rw recalls.earlier at beyond));
  kept = λ some.
      let began : 0 < before.turns = power_within-some before.turns (omega (arith, recalls.earlier)) in
      rw (earlier, is)
      (slice_get-front snapshots (now ∷ []) before.earlier (kept_snapshot before) (recalls.kept began));
}

-- after the first turn nothing is compared
pub repeats-none : (system : System State) (snapshots : List (Snapshot State)) (past : Past)
    (now : Snapshot State) → Recalls snapshots past →
    past.turns ≡ 0 → repeats system snapshots now ≡ false
unfolding repeats
repeats-none system snapshots past now recalls none =
    let one : length snapshots ≡ 1 = omega (arith, recalls.turns) in rw one refl

-- after another turn it is what is kept
pub repeats-kept : (system : System State) (snapshots : List (Snapshot State)) (past : Past)
    (now : Snapshot State) → Recalls snapshots past →
    0 < past.turns → repeats system snapshots now ≡ same_snapshot system (kept_snapshot past) now
unfolding repeats
repeats-kept system snapshots past now recalls some =
    let more : nat_lt 1 (length snapshots) ≡ true = lt-ltb _ _ (omega (arith, recalls.turns)) in
    let before : length snapshots - 1 ≡ past.turns = omega (arith, recalls.turns) in
    let earlier : power_within (length snapshots - 1) ≡ past.earlier = ap power_within before ∙ sym recalls.earlier in
    rw (more, earlier, recalls.kept some) refl
