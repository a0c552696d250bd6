use Rattle.std.proofs.Common.{arith, length, ◌≡◌, ◌∙◌, [], ◌∷◌, ◌++◌, ap, subst, sym, ◌<◌, is_some}
use Rattle.std.proofs.lemmas.Bool.{lt-ltb}
use Rattle.ir_names.specs.LocalTable.{count_of, defined, given}
use Rattle.ir_names.specs.declared.local_name.LocalName.TheVariants.{Number}
use Rattle.ir_names.proofs.LocalTables as locals
use Rattle.ir_names.proofs.Tables.{some_or_none}
use Rattle.ir_names.proofs.local_table.LocalTable.define_below.Goals as goal

pub returns-then-is_some-clause-given : goal.returns-then-is_some-clause-given
returns-then-is_some-clause-given c =
    let s = c.self.inside in
    let there = locals.rising_has s.names.items s.plain s.rising s.places.items s.below s.count c.self.invariant c.args.number (ap is_some (sym c.place.ensures) ∙ sym c.is_some.ensures ∙ c.if-is_some.true) in
    locals.duplicate_given s.names.items (Number c.args.number) there ∙ ap (λ names. given names (Number c.args.number)) c.self.view_is

pub returns-then-is_some-clause-ok : goal.returns-then-is_some-clause-ok
returns-then-is_some-clause-ok c =
    let s = c.self.inside in
    let there = locals.rising_has s.names.items s.plain s.rising s.places.items s.below s.count c.self.invariant c.args.number (ap is_some (sym c.place.ensures) ∙ sym c.is_some.ensures ∙ c.if-is_some.true) in
    sym c.self.view_is ∙ locals.duplicate_defined s.names.items (Number c.args.number) there ∙ ap (λ names. defined names (Number c.args.number)) c.self.view_is

pub returns-then-first-place-clause-given : goal.returns-then-first-place-clause-given
returns-then-first-place-clause-given c =
    let s = c.self.inside in
    let none = some_or_none _ (ap is_some (sym c.place.ensures) ∙ sym c.is_some.ensures ∙ c.if-is_some.false) in
    let again = locals.below_again s.names.items s.plain s.rising s.places.items s.below s.count c.self.invariant c.args.number c.in_ok-first.first c.len-place.result none c.in_ok-first.ensures.value c.if-first-place.true in
    locals.duplicate_given s.names.items (Number c.args.number) again ∙ ap (λ names. given names (Number c.args.number)) c.self.view_is

pub returns-then-first-place-clause-ok : goal.returns-then-first-place-clause-ok
returns-then-first-place-clause-ok c =
    let s = c.self.inside in
    let none = some_or_none _ (ap is_some (sym c.place.ensures) ∙ sym c.is_some.ensures ∙ c.if-is_some.false) in
    let again = locals.below_again s.names.items s.plain s.rising s.places.items s.below s.count c.self.invariant c.args.number c.in_ok-first.first c.len-place.result none c.in_ok-first.ensures.value c.if-first-place.true in
    c.in_ok-reserve.ensures.items ∙ locals.duplicate_defined s.names.items (Number c.args.number) again ∙ ap (λ names. defined names (Number c.args.number)) c.self.view_is

pub invariant_of-self-2 : goal.invariant_of-self-2
invariant_of-self-2 c =
    let s = c.self.inside in
    let whole : c.len-place.result ≡ length s.names.items = omega arith in
    let none = some_or_none _ (ap is_some (sym c.place.ensures) ∙ sym c.is_some.ensures ∙ c.if-is_some.false) in
    let under = subst (λ names. c.args.number < count_of names) (sym c.self.view_is) c.requires in
    let items : c.push.new.self.items ≡ s.names.items ++ Number c.args.number ∷ [] = c.in_ok-push.ensures.items ∙ ap (λ names. names ++ Number c.args.number ∷ []) c.in_ok-reserve.ensures.items in
    rw items (locals.below_places s.names.items s.plain s.rising s.places.items s.below s.count c.self.invariant c.args.number c.in_ok-first.first c.len-place.result none c.in_ok-first.ensures.value c.if-first-place.false whole under c.place_or_give.new.places c.in_ok-first.ensures.ok)

pub returns-clause-given : goal.returns-clause-given
returns-clause-given c =
    let s = c.self.inside in
    let whole : c.len-place.result ≡ length s.names.items = omega arith in
    let none = some_or_none _ (ap is_some (sym c.place.ensures) ∙ sym c.is_some.ensures ∙ c.if-is_some.false) in
    let lacks = locals.below_new s.names.items s.plain s.rising s.places.items s.below s.count c.self.invariant c.args.number c.in_ok-first.first c.len-place.result none c.in_ok-first.ensures.value c.if-first-place.false whole in
    let under = subst (λ names. c.args.number < count_of names) (sym c.self.view_is) c.requires in
    locals.below_given s.names.items (Number c.args.number) lacks (lt-ltb _ _ under) ∙ ap (λ names. given names (Number c.args.number)) c.self.view_is

pub returns-clause-ok : goal.returns-clause-ok
returns-clause-ok c =
    let s = c.self.inside in
    let whole : c.len-place.result ≡ length s.names.items = omega arith in
    let none = some_or_none _ (ap is_some (sym c.place.ensures) ∙ sym c.is_some.ensures ∙ c.if-is_some.false) in
    let lacks = locals.below_new s.names.items s.plain s.rising s.places.items s.below s.count c.self.invariant c.args.number c.in_ok-first.first c.len-place.result none c.in_ok-first.ensures.value c.if-first-place.false whole in
    let items : c.push.new.self.items ≡ s.names.items ++ Number c.args.number ∷ [] = c.in_ok-push.ensures.items ∙ ap (λ names. names ++ Number c.args.number ∷ []) c.in_ok-reserve.ensures.items in
    items ∙ locals.new_defined s.names.items (Number c.args.number) lacks ∙ ap (λ names. defined names (Number c.args.number)) c.self.view_is
