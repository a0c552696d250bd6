use Rattle.race_top.proofs.order_enforcer.job.alternate_job.Given as goal

abbrev pub ghosts-alternate_counted : goal.ghosts-alternate_counted
ghosts-alternate_counted a = record { name = a.blank.name; parts = a.blank.parts }
