-- The text of some lines and others is the text of the former, and then that of the others.
use Rattle.std.proofs.Common.{◌≡◌, ℕ, List, [], ◌∷◌, ◌++◌, codes, refl, sym, ap, ◌∙◌, append_assoc}
use Rattle.text_lines.specs.Part.{lines_text}

pub lines_text_append : (front back : List (List ℕ)) → lines_text (front ++ back) ≡ lines_text front ++ lines_text back
lines_text_append [] back = refl
lines_text_append (line ∷ lines) back =
    ap (λ rest. line ++ codes "\n" ++ rest) (lines_text_append lines back)
    ∙ sym (append_assoc (line ++ codes "\n") (lines_text lines) (lines_text back))
