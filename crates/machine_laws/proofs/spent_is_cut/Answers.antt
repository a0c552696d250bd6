use Rattle.machine_laws.proofs.SpentRuns.{spent_job-is_cut, spent_run-is_cut, steps-have_costs}
use Rattle.machine_laws.proofs.spent_is_cut.Goals as goal

pub returns : goal.returns
returns c = record { steps = steps-have_costs; run = spent_run-is_cut; job = spent_job-is_cut }
