use Rattle.ir_read.proofs.TypeRows.{aggregates, parameters, results, types, values}
use Rattle.ir_read.proofs.type_laws.types_are_spelled.Goals as goal

pub returns-clause-memory : goal.returns-clause-memory
returns-clause-memory c = types

pub returns-clause-aggregate : goal.returns-clause-aggregate
returns-clause-aggregate c = aggregates

pub returns-clause-register : goal.returns-clause-register
returns-clause-register c = values

pub returns-clause-parameter : goal.returns-clause-parameter
returns-clause-parameter c = parameters

pub returns-clause-result : goal.returns-clause-result
returns-clause-result c = results
