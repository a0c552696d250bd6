use Rattle.race_top.proofs.trace_replay.check.check_pair.Given as goal

abbrev pub ghosts-see_pair : goal.ghosts-see_pair
ghosts-see_pair a = record { name = a.blank.name; parts = a.blank.parts }
