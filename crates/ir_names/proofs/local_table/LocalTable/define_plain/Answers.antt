use Rattle.std.proofs.Common.{arith, length, ◌≡◌, ◌∙◌, [], ◌∷◌, ◌++◌, ap, subst, unwrap_or, refl}
use Rattle.ir_names.specs.LocalTable.{defined, given}
use Rattle.ir_names.specs.NameTable.{GivesNumber, number_of}
use Rattle.ir_names.specs.declared.local_name.LocalName.TheVariants.{Plain}
use Rattle.ir_names.proofs.LocalTables as locals
use Rattle.ir_names.proofs.local_table.LocalTable.define_plain.Goals as goal

pub returns-then-first-place-clause-given : goal.returns-then-first-place-clause-given
returns-then-first-place-clause-given c =
    let s = c.self.inside in
    let again = locals.plain_again s.names.items s.plain s.rising s.places.items s.below s.count c.self.invariant c.args.name c.in_ok-first.first c.len-place.result (c.in_ok-first.ensures.value ∙ ap (λ name. unwrap_or (number_of s.plain name) c.len-place.result) c.text.ensures) c.if-first-place.true in
    locals.duplicate_given s.names.items (Plain c.args.name) again ∙ ap (λ names. given names (Plain c.args.name)) c.self.view_is

pub returns-then-first-place-clause-ok : goal.returns-then-first-place-clause-ok
returns-then-first-place-clause-ok c =
    let s = c.self.inside in
    let again = locals.plain_again s.names.items s.plain s.rising s.places.items s.below s.count c.self.invariant c.args.name c.in_ok-first.first c.len-place.result (c.in_ok-first.ensures.value ∙ ap (λ name. unwrap_or (number_of s.plain name) c.len-place.result) c.text.ensures) c.if-first-place.true in
    c.in_ok-reserve.ensures.items ∙ locals.duplicate_defined s.names.items (Plain c.args.name) again ∙ ap (λ names. defined names (Plain c.args.name)) c.self.view_is

pub invariant_of-self-2 : goal.invariant_of-self-2
invariant_of-self-2 c =
    let s = c.self.inside in
    let whole : c.len-place.result ≡ length s.names.items = omega arith in
    let gives = subst (λ name. GivesNumber s.plain c.number_or_give.new.numbers name c.len-place.result) c.text.ensures c.in_ok-first.ensures.ok in
    let items : c.push.new.self.items ≡ s.names.items ++ Plain c.args.name ∷ [] = c.in_ok-push.ensures.items ∙ ap (λ names. names ++ Plain c.args.name ∷ []) c.in_ok-reserve.ensures.items in
    rw items (locals.plain_places s.names.items s.plain s.rising s.places.items s.below s.count c.self.invariant c.args.name c.in_ok-first.first c.len-place.result (c.in_ok-first.ensures.value ∙ ap (λ name. unwrap_or (number_of s.plain name) c.len-place.result) c.text.ensures) c.if-first-place.false whole c.number_or_give.new.numbers gives)

pub returns-clause-given : goal.returns-clause-given
returns-clause-given c =
    let s = c.self.inside in
    let whole : c.len-place.result ≡ length s.names.items = omega arith in
    let lacks = locals.plain_new s.names.items s.plain s.rising s.places.items s.below s.count c.self.invariant c.args.name c.in_ok-first.first c.len-place.result (c.in_ok-first.ensures.value ∙ ap (λ name. unwrap_or (number_of s.plain name) c.len-place.result) c.text.ensures) c.if-first-place.false whole in
    locals.fresh_given s.names.items (Plain c.args.name) lacks refl ∙ ap (λ names. given names (Plain c.args.name)) c.self.view_is

pub returns-clause-ok : goal.returns-clause-ok
returns-clause-ok c =
    let s = c.self.inside in
    let whole : c.len-place.result ≡ length s.names.items = omega arith in
    let lacks = locals.plain_new s.names.items s.plain s.rising s.places.items s.below s.count c.self.invariant c.args.name c.in_ok-first.first c.len-place.result (c.in_ok-first.ensures.value ∙ ap (λ name. unwrap_or (number_of s.plain name) c.len-place.result) c.text.ensures) c.if-first-place.false whole in
    let items : c.push.new.self.items ≡ s.names.items ++ Plain c.args.name ∷ [] = c.in_ok-push.ensures.items ∙ ap (λ names. names ++ Plain c.args.name ∷ []) c.in_ok-reserve.ensures.items in
    items ∙ locals.new_defined s.names.items (Plain c.args.name) lacks ∙ ap (λ names. defined names (Plain c.args.name)) c.self.view_is
