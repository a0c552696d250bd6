use Rattle.library_tests.proofs.turns.turns_are_taken.Given as goal

abbrev pub ghosts-take_turns : goal.ghosts-take_turns
ghosts-take_turns a b = record { name = b.blank.name; parts = b.blank.parts }
