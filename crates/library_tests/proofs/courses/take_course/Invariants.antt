use Rattle.concrete_machine.specs.Course.{IsOf}
use Rattle.library_tests.proofs.courses.take_course.Given as goal

-- the course is of the module and the case
abbrev pub invariant-loop-thread : goal.invariant-loop-thread
invariant-loop-thread g l = IsOf l.code l.case l.course
