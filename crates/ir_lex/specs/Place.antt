-- What is left at a place of the text.
use Rattle.std.specs.Prelude.{◌≡◌, ℕ, Bool, List, [], ◌∷◌, None}
use Rattle.ir_lex.specs.declared.place.Place.{Place}
use Rattle.ir_lex.specs.Lexer.{Lexed, ended, failed, gap_of, tokens_after}

abbrev pub lexed_from : Place → Lexed
lexed_from place = tokens_after place.rest.now 0 (record { start = place.start; line = place.line; fresh = place.fresh })

-- nothing that lies between tokens begins here
abbrev pub BeginsNoGap : Bool → List ℕ → Type 0
BeginsNoGap fresh [] = Unit {0}
BeginsNoGap fresh (first ∷ rest) = gap_of fresh first rest ≡ None

abbrev pub IsAtToken : Place → Type 0
IsAtToken place = BeginsNoGap place.fresh place.rest.now

-- what is left where no token begins: nothing at the end, and else the place itself
abbrev pub ending_of : Place → Lexed
ending_of place = by place.rest.now where
  by : List ℕ → Lexed
  by [] = ended
  by (first ∷ rest) = failed (record { line = place.line; at = place.start })
