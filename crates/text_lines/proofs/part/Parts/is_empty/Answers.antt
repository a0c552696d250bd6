use Rattle.std.proofs.Common.{◌≡◌, ℕ, Bool, true, false, not, List, [], Option, Some, None, Bor, sym, ◌∙◌, rules}
use Rattle.std.specs.Bool.{IsTrue}
use Rattle.std.specs.Option.{is_some, option_map}
use Rattle.text_lines.specs.Part.{parts_left}
use Rattle.text_lines.proofs.FirstPart.{nothing_left}
use Rattle.text_lines.proofs.part.Parts.is_empty.Goals as goal

by_rest : (byte : ℕ) (rest : Option (Bor (List ℕ))) (none : Bool) (parts : List (List ℕ)) → is_some rest ≡ not none →
    parts_left byte (option_map (λ text. text.now) rest) ≡ parts → (IsTrue none → parts ≡ []) × (parts ≡ [] → IsTrue none)
by_rest byte None true parts is left = (λ _. sym left, λ _. search rules)
by_rest byte None false parts is left = cc
by_rest byte (Some text) true parts is left = cc
by_rest byte (Some text) false parts is left =
    (λ none. absurd (search rules), λ none. absurd (nothing_left byte text.now (left ∙ none)))

pub returns : goal.returns
returns c = by_rest c.self.inside.byte c.self.inside.rest c.is_none.result c.args.self.now c.is_none.ensures c.self.view_is
