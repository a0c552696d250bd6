use Rattle.std.proofs.Common.{arith, length, ◌≡◌, ◌∙◌, [], ◌∷◌, ◌++◌, ap, subst, sym, ◌≤◌}
use Rattle.std.proofs.lemmas.Bool.{le-ltb}
use Rattle.ir_names.specs.LocalTable.{count_of, defined, given}
use Rattle.ir_names.specs.declared.local_name.LocalName.TheVariants.{Number}
use Rattle.ir_names.proofs.LocalTables as locals
use Rattle.ir_names.proofs.local_table.LocalTable.define_next.Goals as goal

pub push-requires : goal.push-requires
push-requires c = λ index within.
    let s = c.self.inside in
    let above = subst (λ names. count_of names ≤ c.args.number) (sym c.self.view_is) c.requires in
    rw c.again.ensures (locals.rising_under s.names.items s.plain s.rising s.places.items s.below s.count c.self.invariant c.args.number above index within)

pub invariant_of-self-2 : goal.invariant_of-self-2
invariant_of-self-2 c =
    let s = c.self.inside in
    let above = subst (λ names. count_of names ≤ c.args.number) (sym c.self.view_is) c.requires in
    let whole : c.len.result ≡ length s.names.items = omega arith in
    let items : c.push-3.new.self.items ≡ s.names.items ++ Number c.args.number ∷ [] = c.in_ok-push-3.ensures.items ∙ ap (λ names. names ++ Number c.args.number ∷ []) c.in_ok-reserve.ensures.items in
    let rising : c.push.new.self ≡ s.rising ++ c.args.number ∷ [] = c.in_ok-push.ensures.ok ∙ ap (λ number. s.rising ++ number ∷ []) c.again.ensures in
    let places : c.push-2.new.self.items ≡ s.places.items ++ c.len.result ∷ [] = c.in_ok-push-2.ensures.items ∙ ap (λ places. places ++ c.len.result ∷ []) c.in_ok-reserve-2.ensures.items in
    rw items (rw rising (rw places (rw c.in_ok-count.ensures (locals.next_places s.names.items s.plain s.rising s.places.items s.below s.count c.self.invariant c.args.number above c.len.result whole))))

pub returns-clause-given : goal.returns-clause-given
returns-clause-given c =
    let s = c.self.inside in
    let above = subst (λ names. count_of names ≤ c.args.number) (sym c.self.view_is) c.requires in
    locals.fresh_given s.names.items (Number c.args.number) (locals.next_new s.names.items s.plain s.rising s.places.items s.below s.count c.self.invariant c.args.number above) (le-ltb _ _ above) ∙ ap (λ names. given names (Number c.args.number)) c.self.view_is

pub returns-clause-ok : goal.returns-clause-ok
returns-clause-ok c =
    let s = c.self.inside in
    let above = subst (λ names. count_of names ≤ c.args.number) (sym c.self.view_is) c.requires in
    let items : c.push-3.new.self.items ≡ s.names.items ++ Number c.args.number ∷ [] = c.in_ok-push-3.ensures.items ∙ ap (λ names. names ++ Number c.args.number ∷ []) c.in_ok-reserve.ensures.items in
    items ∙ locals.new_defined s.names.items (Number c.args.number) (locals.next_new s.names.items s.plain s.rising s.places.items s.below s.count c.self.invariant c.args.number above) ∙ ap (λ names. defined names (Number c.args.number)) c.self.view_is
