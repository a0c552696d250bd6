use Rattle.race_top.proofs.JobResults.{jobs-asked}
use Rattle.race_top.proofs.analyser_pool.laws.jobs_give_results.Goals as goal

pub returns : goal.returns
returns c = jobs-asked
