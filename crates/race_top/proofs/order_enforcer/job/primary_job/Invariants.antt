use Rattle.race_top.proofs.order_enforcer.job.primary_job.Given as goal

abbrev pub ghosts-primary_counted : goal.ghosts-primary_counted
ghosts-primary_counted a = record { name = a.blank.name; parts = a.blank.parts }
