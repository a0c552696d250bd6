use Rattle.library_tests.proofs.courses.take_course.Goals as goal

pub advance-requires : goal.advance-requires
advance-requires g c = c.in_ok-next.ensures.of c.in_ok-case.case c.loop-thread.invariant
