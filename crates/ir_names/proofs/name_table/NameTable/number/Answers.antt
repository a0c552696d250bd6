use Rattle.std.proofs.Common.{sym}
use Rattle.ir_names.proofs.Tables.{named_some, place_named}
use Rattle.ir_names.proofs.name_table.NameTable.number.Goals as goal

pub returns-in-Some-clause-named : goal.returns-in-Some-clause-named
returns-in-Some-clause-named c =
    place_named c.args.self.now c.args.name.now c.in-Some.place (sym (c.has_at.ensures c.if-has_at.true))

pub returns-in_default-clause-named : goal.returns-in_default-clause-named
returns-in_default-clause-named c = named_some c.args.self.now c.args.name.now c.search.result c.search.ensures
