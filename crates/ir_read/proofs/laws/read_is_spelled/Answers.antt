use Rattle.std.proofs.Common.{List, [], ◌∷◌, subst}
use Rattle.ir_read.specs.declared.grammar.Rule.TheVariants as r
use Rattle.ir_read.specs.declared.skip.Mode.TheVariants as m
use Rattle.ir_read.specs.Laws.{Reads}
use Rattle.ir_read.specs.Node.{Told}
use Rattle.ir_read.specs.Read.{beginning}
use Rattle.ir_read.proofs.Accepted.{complete, sound}
use Rattle.ir_read.proofs.Outcomes.{read_again, read_ok}
use Rattle.ir_read.proofs.laws.read_is_spelled.Goals as goal

pub returns-clause-read : goal.returns-clause-read
returns-clause-read c = λ tokens nodes is.
    let read = read_ok tokens beginning nodes is in
    let bare = sound tokens m.Free (r.Items ∷ []) read.rest read.run in
    subst (λ (all : List Told). Reads tokens all) read.nodes_are
    record { bare = bare.bare; skipped = bare.skipped; parsed = bare.parsed }

pub returns-clause-spelled : goal.returns-clause-spelled
returns-clause-spelled c = λ tokens nodes reads.
    read_again tokens beginning nodes (complete m.Free tokens reads.bare (r.Items ∷ []) nodes reads.skipped reads.parsed)
