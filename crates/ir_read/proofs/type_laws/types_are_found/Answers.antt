use Rattle.std.proofs.Common.{◌≡◌, [], ◌++◌, ap, ◌∙◌, sym, subst, append-nil}
use Rattle.std.proofs.lemmas.List.{take_at}
use Rattle.std.proofs.Math.Seq.{drop-append_seam}
use Rattle.std.specs.Prelude.{drop}
use Rattle.ir_read.specs.Shape.{first_of, shapes_of}
use Rattle.ir_read.proofs.Types.{all_found, ended, found, joined_nothing, same_spelled}
use Rattle.ir_read.proofs.type_laws.types_are_found.Goals as goal

pub returns-clause-shape : goal.returns-clause-shape
returns-clause-shape c = λ shape front rest spells. ap (λ all. first_of all.here) (found shape front rest spells)

pub returns-clause-fields : goal.returns-clause-fields
returns-clause-fields c = λ fields nodes are.
    subst (λ all. shapes_of all ≡ fields) (append-nil nodes) (ap (λ all. all.here) (all_found fields nodes [] are) ∙ joined_nothing fields)

pub returns-clause-front : goal.returns-clause-front
returns-clause-front c = λ shape front rest spells. take_at front rest _ (sym (ended shape front rest spells))

pub returns-clause-rest : goal.returns-clause-rest
returns-clause-rest c = λ shape front rest spells.
    ap (λ count. drop count (front ++ rest)) (ended shape front rest spells) ∙ drop-append_seam front rest

pub returns-clause-one : goal.returns-clause-one
returns-clause-one c = λ shape other nodes spells spells_other.
    sym (ap (λ all. first_of all.here) (found shape nodes [] spells)) ∙ ap (λ all. first_of all.here) (found other nodes [] spells_other)

pub returns-clause-same : goal.returns-clause-same
returns-clause-same c = λ nodes others same. ap (λ all. first_of all.here) (same_spelled nodes others same)
