use Rattle.std.proofs.Common.{◌≡◌, ◌∙◌, ap, sym, position, nat_eq}
use Rattle.ir_names.proofs.RisingNumbers.{found_at}
use Rattle.ir_names.proofs.rising.Rising.has_at.Goals as goal

pub returns-in-Some : goal.returns-in-Some
returns-in-Some c = λ same.
    let number = c.args.number.now in
    let items : c.deref.result.now ≡ c.self.inside.numbers.items = c.deref.ensures.value in
    let found = rw items at c.in-Some.ensures.lookup in
    ap (position (nat_eq number)) (sym c.self.view_is)
    ∙ found_at c.self.inside.numbers.items number c.args.place c.in-Some.other.now c.self.invariant found.0 found.1 (sym c.eq.ensures ∙ same)
