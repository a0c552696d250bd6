use Rattle.std.proofs.Common.{◌≡◌, length, true, arith}
use Rattle.std.proofs.lemmas.Bool.Decides.{nat_tests}
use Rattle.machine_model.specs.Primary.{setting_of}
use Rattle.machine_model.specs.Reach.{primary_moments}
use Rattle.race_top.specs.CheckRace.{RaceOf, is_range}
use Rattle.race_top.proofs.trace_replay.check.check_pair.Goals as goal

pub returns-in-Some : goal.returns-in-Some
unfolding RaceOf
returns-in-Some c =
    let code = c.args.code.now in
    let case = c.args.case.now in
    let told = c.race_of.ensures (setting_of code case case.input) (primary_moments code case case.input)
    (rw c.in-Some.is at c.in_ok-pair.ensures) in
    let within : is_range c.args.first c.args.second (length case.turns) ≡ true = grind (arith, nat_tests) in
    rw within told
