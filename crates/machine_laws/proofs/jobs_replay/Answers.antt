use Rattle.machine_laws.proofs.JobReplays.{alternate-replays, primary_job-replays}
use Rattle.machine_laws.proofs.jobs_replay.Goals as goal

pub returns : goal.returns
returns c = record { primary = primary_job-replays; alternate = alternate-replays }
