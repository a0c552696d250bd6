use Rattle.race_top.proofs.RaceReached.{recorded-run-reaches, threads-differ}
use Rattle.race_top.proofs.trace_replay.laws.recorded_run_reaches.Goals as goal

pub returns : goal.returns
returns c = record { reaches = recorded-run-reaches; threads = threads-differ }
