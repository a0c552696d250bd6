use Rattle.ir_read.proofs.Faults.{error_is_first, first_is_one, first_is_refused, lexemes_are_text}
use Rattle.ir_read.proofs.laws.error_is_of_first_fault.Goals as goal

pub returns-clause-first : goal.returns-clause-first
returns-clause-first c = error_is_first

pub returns-clause-refused : goal.returns-clause-refused
returns-clause-refused c = first_is_refused

pub returns-clause-one : goal.returns-clause-one
returns-clause-one c = first_is_one

pub returns-clause-text : goal.returns-clause-text
returns-clause-text c = lexemes_are_text
