use Rattle.module_fault.proofs.Faults.{alone, first, none}
use Rattle.module_fault.proofs.laws.first_is_answered.Goals as goal

pub returns-clause-first : goal.returns-clause-first
returns-clause-first c = first

pub returns-clause-none : goal.returns-clause-none
returns-clause-none c = none

pub returns-clause-alone : goal.returns-clause-alone
returns-clause-alone c = alone
