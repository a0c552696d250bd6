use Rattle.std.proofs.Common.{rules, ◌≡◌, ℕ, true, List, [], ◌∷◌, Ok, refl, ◌∙◌, sym}
use Rattle.ir_types.specs.declared.«module».Module.{Module}
use Rattle.case_text.specs.declared.progress.Progress.{Progress}
use Rattle.case_text.specs.Laws.{IsWithinBounds}
use Rattle.case_text.specs.Progress.{is_ended, start}
use Rattle.case_text.specs.Read.{case_of, lines_from}
use Rattle.text_lines.specs.Part.{parts_of}
use Rattle.case_text.proofs.Accepted.{accepted}
use Rattle.case_text.proofs.read.read_case.Goals as goal

whole : (code : Module) (text : List ℕ) (first here : Progress) (number : ℕ) (all parts rest : List (List ℕ)) (last : List ℕ) →
    first ≡ start → all ≡ parts_of 10 text → lines_from code here number parts ≡ lines_from code first 1 all →
    parts ≡ last ∷ rest → rest ≡ [] → is_ended here last ≡ true → IsWithinBounds here.case
unfolding case_of lines_from
whole code text first here number all parts rest last begins texts same parts_are none ended =
    let is : lines_from code here number parts ≡ case_of code text = rw (texts, begins) at same in
    let ok : lines_from code here number parts ≡ Ok here.case = rw (parts_are, none, ended) refl in
    (accepted code text here.case (sym is ∙ ok)).1.bounds

bounds : (c : goal.Then-is_ended) → IsWithinBounds c.lines.progress.case
bounds c = whole c.args.code.now c.args.text.now _ c.lines.progress c.lines.number _ c.lines.lines c.next.new.self c.in-Some.line.now
    c.start-progress.ensures c.new-lines.ensures c.lines.invariant c.in-Some.ensures (c.is_empty.ensures.0 (search (rules, c.if-is_empty.true))) (sym c.if-is_ended.ensures)

pub returns-then-is_ended-clause-listed : goal.returns-then-is_ended-clause-listed
returns-then-is_ended-clause-listed c = (bounds c).room.turns

pub returns-then-is_ended-clause-steps : goal.returns-then-is_ended-clause-steps
returns-then-is_ended-clause-steps c = (bounds c).steps.1

pub returns-then-is_ended-clause-races : goal.returns-then-is_ended-clause-races
returns-then-is_ended-clause-races c = (bounds c).room.races
