use Rattle.std.proofs.Common.{arith, length, ◌≡◌, ◌∙◌, [], ◌∷◌, ◌++◌, ap, sym, unwrap_or, map}
use Rattle.ir_names.specs.NameTable.{given}
use Rattle.ir_names.proofs.Tables.{given_again, new_given, new_once, new_places}
use Rattle.ir_names.proofs.name_table.NameTable.give.Goals as goal

pub returns-then-first-number-clause-ok : goal.returns-then-first-number-clause-ok
returns-then-first-number-clause-ok c =
    let names = map (λ name. name.now) c.self.inside.names.items in
    let name = c.args.name.now in
    ap (map (λ name. name.now)) c.in_ok-reserve.ensures.items
    ∙ sym (given_again names name c.in_ok-first.first c.len-number.result (c.in_ok-first.ensures.value ∙ ap (λ found. unwrap_or found c.len-number.result) (c.self.invariant.0 name)) c.if-first-number.true)
    ∙ ap (λ names. given names name) c.self.view_is

pub invariant_of-self-2 : goal.invariant_of-self-2
invariant_of-self-2 c =
    let number : c.len-number.result ≡ length c.self.inside.names.items = omega arith in
    let items : c.push.new.self.items ≡ c.self.inside.names.items ++ c.args.name ∷ [] = c.in_ok-push.ensures.items ∙ ap (λ xs. xs ++ c.args.name ∷ []) c.in_ok-reserve.ensures.items in (
      new_places c.self.inside.numbers c.number_or_give.new.numbers c.self.inside.names.items c.push.new.self.items c.args.name c.in_ok-first.first c.len-number.result
          c.self.invariant.0 c.in_ok-first.ensures.ok c.in_ok-first.ensures.value c.if-first-number.false number items,
      new_once c.self.inside.numbers c.number_or_give.new.numbers c.self.inside.names.items c.push.new.self.items c.args.name c.in_ok-first.first c.len-number.result
          c.self.invariant.0 c.in_ok-first.ensures.ok c.in_ok-first.ensures.value c.if-first-number.false number items c.self.invariant.1,
    )

pub returns-clause-ok : goal.returns-clause-ok
returns-clause-ok c =
    let number : c.len-number.result ≡ length c.self.inside.names.items = omega arith in
    let items : c.push.new.self.items ≡ c.self.inside.names.items ++ c.args.name ∷ [] = c.in_ok-push.ensures.items ∙ ap (λ xs. xs ++ c.args.name ∷ []) c.in_ok-reserve.ensures.items in
    new_given c.self.inside.numbers c.number_or_give.new.numbers c.self.inside.names.items c.push.new.self.items c.args.name c.in_ok-first.first c.len-number.result
    c.self.invariant.0 c.in_ok-first.ensures.ok c.in_ok-first.ensures.value c.if-first-number.false number items
    ∙ ap (λ names. given names c.args.name.now) c.self.view_is
