use Rattle.std.proofs.Common.{◌≡◌, ◌++◌, drop, take}
use Rattle.refutation.specs.Accepts.{all_follow}
use Rattle.refutation.specs.Log.{clauses_of}
use Rattle.refutation.specs.Marks.{zeros}
use Rattle.refutation.proofs.checker.all_follow.Given as goal

abbrev pub invariant-loop-at : goal.invariant-loop-at
invariant-loop-at l = record {
  value : all_follow l.vars (l.clauses ++ take l.at (clauses_of l.log)) (drop l.at l.log)
      ≡ all_follow l.vars l.clauses l.log;
  clear : l.marks ≡ zeros l.vars;
}
