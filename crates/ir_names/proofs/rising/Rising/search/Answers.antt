use Rattle.std.proofs.Common.{◌∙◌, ap, nat_eq, position, subst, ℕ, List}
use Rattle.std.specs.List.Sorted.{IsBinarySearchResult}
use Rattle.std.specs.Ordering.{nat_cmp}
use Rattle.ir_names.proofs.RisingNumbers.{searched_place}
use Rattle.ir_names.proofs.rising.Rising.search.Goals as goal

pub returns : goal.returns
returns c =
    let number = c.args.number.now in
    let among = subst (λ (numbers : List ℕ). IsBinarySearchResult (λ other. nat_cmp other number) numbers c.binary_search.result) c.deref.ensures.value c.binary_search.ensures.position in
    c.ok.ensures.value ∙ searched_place c.self.inside.numbers.items number c.binary_search.result c.self.invariant among ∙ ap (position (nat_eq number)) c.self.view_is
