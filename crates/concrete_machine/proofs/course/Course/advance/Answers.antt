use Rattle.concrete_machine.proofs.course.Course.advance.Goals as goal

pub take-requires-clause-of : goal.take-requires-clause-of
take-requires-clause-of g c = c.in_ok-thread.ensures.of c.args.case.now c.requires
