use Rattle.std.proofs.Common.{◌∙◌, Some, ap, bytes_eq, sym}
use Rattle.std.proofs.lemmas.Map.Text.{btree_map_updates_str}
use Rattle.std.specs.Map.{update}
use Rattle.ir_names.specs.NameTable.{number_of}
use Rattle.ir_names.proofs.Tables.{given_once, given_twice}
use Rattle.ir_names.proofs.name_table.number_or_give.Goals as goal

pub returns-in_default-clause-ok : goal.returns-in_default-clause-ok
returns-in_default-clause-ok c = λ other.
    btree_map_updates_str c.args.name.now c.args.numbers.now c.insert.new.self (Some c.args.number) c.in_ok-first.ensures.updates other
    ∙ given_once (number_of c.args.numbers.now) c.args.name.now other c.args.number (sym c.in_default.is ∙ c.in_ok-first.ensures.old)

pub returns-clause-ok : goal.returns-clause-ok
returns-clause-ok c = λ other.
    btree_map_updates_str c.args.name.now c.insert.new.self c.insert-2.new.self (Some c.in-Some.first) c.in_ok-insert.ensures.updates other
    ∙ ap (λ before. update bytes_eq (λ (name : _). before) c.args.name.now (Some c.in-Some.first) other)
    (btree_map_updates_str c.args.name.now c.args.numbers.now c.insert.new.self (Some c.args.number) c.in_ok-first.ensures.updates other)
    ∙ given_twice (number_of c.args.numbers.now) c.args.name.now other c.args.number c.in-Some.first (sym c.in-Some.is ∙ c.in_ok-first.ensures.old)
