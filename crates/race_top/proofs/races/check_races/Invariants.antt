use Rattle.std.proofs.Common.{◌≡◌, ◌+◌, ◌++◌, All, Ok, drop, true}
use Rattle.machine_model.specs.Reach.{Reaches}
use Rattle.rc_base.specs.Failures.{◌>>=◌}
use Rattle.race_top.specs.Races.{RacesOf, races_from}
use Rattle.race_top.proofs.races.check_races.Given as goal

abbrev pub invariant-loop-index : goal.invariant-loop-index
invariant-loop-index l = record {
  rest : (races_from l.code l.case (l.index-counter + 1) (drop l.index-counter l.case.races) >>= λ more. Ok (l.races.items ++ more))
      ≡ RacesOf l.code l.case;
  reached : All (λ race. Reaches l.code l.case race l.case.input ≡ true) l.races.items;
}
