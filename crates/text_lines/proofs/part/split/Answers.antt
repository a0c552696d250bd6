use Rattle.std.proofs.Common.{◌+◌, ◌∷◌, take, ap, ◌∙◌, sym}
use Rattle.std.proofs.lemmas.List.{take_rest}
use Rattle.text_lines.specs.Part.{parts_of}
use Rattle.text_lines.proofs.FirstPart.{first_part, parts_at}
use Rattle.text_lines.proofs.part.split.Goals as goal

pub returns-in-Some : goal.returns-in-Some
returns-in-Some c =
    let place = c.in-Some.place in
    let text = c.args.text.now in
    first_part c.args.byte text
    ∙ ap (parts_at c.args.byte text) (sym c.place_of.ensures.value ∙ c.in-Some.is)
    ∙ ap (λ rest. take place text ∷ parts_of c.args.byte rest) (sym (take_rest text (place + 1)))
