use Rattle.std.proofs.Common.{◌≡◌, ◌++◌, drop}
use Rattle.race_top.specs.AnalyserPool.{reports_of}
use Rattle.race_top.proofs.analyser_pool.analyse.Given as goal

abbrev pub invariant-loop-race : goal.invariant-loop-race
invariant-loop-race l =
    l.reports.items ++ reports_of l.code l.case (drop l.race-index l.races) ≡ reports_of l.code l.case l.races
