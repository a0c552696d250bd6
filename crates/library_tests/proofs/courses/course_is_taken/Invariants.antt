use Rattle.library_tests.proofs.courses.course_is_taken.Given as goal

abbrev pub ghosts-take_course : goal.ghosts-take_course
ghosts-take_course a b = record { name = b.blank.name; parts = b.blank.parts }
