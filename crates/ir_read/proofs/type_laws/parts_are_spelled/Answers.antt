use Rattle.ir_read.proofs.Types.{element_spelled, fields_spelled, form_shown, name_shown, packed_spelled}
use Rattle.ir_read.proofs.type_laws.parts_are_spelled.Goals as goal

pub returns-clause-form : goal.returns-clause-form
returns-clause-form c = form_shown

pub returns-clause-name : goal.returns-clause-name
returns-clause-name c = name_shown

pub returns-clause-element : goal.returns-clause-element
returns-clause-element c = element_spelled

pub returns-clause-fields : goal.returns-clause-fields
returns-clause-fields c = fields_spelled

pub returns-clause-packed : goal.returns-clause-packed
returns-clause-packed c = packed_spelled
