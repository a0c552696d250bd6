use Rattle.std.proofs.Common.{◌∙◌, ap, length, nat_eq}
use Rattle.std.proofs.lemmas.Cmp.{nat_cmp_total}
use Rattle.std.proofs.lemmas.Map.Views.{btree_set_len-from_list}
use Rattle.refutation.specs.Literal.{variables}
use Rattle.proof_text.proofs.Distinct.{same_count}
use Rattle.proof_text.proofs.line.are_distinct.Goals as goal

pub returns : goal.returns
returns c =
    ap (λ n. nat_eq n (length c.args.clause.now))
    (c.len.ensures.len ∙ btree_set_len-from_list nat_cmp_total (variables c.args.clause.now) c.in_ok-set.set c.in_ok-set.ensures
    ∙ same_count (variables c.args.clause.now))
