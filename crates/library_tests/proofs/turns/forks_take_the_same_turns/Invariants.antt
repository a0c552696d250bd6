use Rattle.library_tests.proofs.turns.forks_take_the_same_turns.Given as goal

abbrev pub ghosts-turn_forks : goal.ghosts-turn_forks
ghosts-turn_forks a b = record { name = b.blank.name; parts = b.blank.parts }
