use Rattle.std.proofs.Common.{ap, ◌∙◌}
use Rattle.ir_items.specs.Item.{value_of}
use Rattle.ir_read.specs.Name.{name_of}
use Rattle.module_fault.specs.Cause.{lesser}
use Rattle.struct_table.specs.Faults as spec
use Rattle.struct_table.specs.StructTable.{number_of, unknown_in}
use Rattle.struct_table.proofs.faults.struct_cause.Goals as goal

pub returns : goal.returns
returns c =
    let table = c.args.table.now in
    let name_is = c.name.ensures ∙ ap (λ node. name_of node.terminal node.text) c.name-name.ensures in
    let number_is = c.number-number.ensures ∙ ap (number_of table) name_is in
    c.lesser.ensures
    ∙ (ap (λ unknown. lesser unknown c.circle_cause.result) (c.unknown_in-unknown.ensures ∙ ap (unknown_in table) c.value.ensures)
    ∙ ap (lesser (unknown_in table (value_of c.args.item.now))) (c.circle_cause.ensures ∙ ap (spec.circle_cause c.args.circle) number_is))
