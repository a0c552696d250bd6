use Rattle.std.proofs.Common.{◌∙◌, ap, bytes_eq, position, sym}
use Rattle.ir_names.proofs.Tables.{named_at}
use Rattle.ir_names.proofs.name_table.NameTable.has_at.Goals as goal

pub returns-in-Some : goal.returns-in-Some
returns-in-Some c = λ same.
    let name = c.args.name.now in
    let found = rw c.deref.ensures.value at c.in-Some.ensures.lookup in
    named_at c.self.inside.names.items name c.args.number _ c.self.invariant.1 found.0 found.1 (sym c.eq.ensures ∙ same)
    ∙ ap (position (bytes_eq name)) c.self.view_is
