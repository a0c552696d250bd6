-- A reading, token by token.
use Rattle.std.proofs.Common.{◌≡◌, ℕ, List, [], ◌∷◌, Result, Ok, Err, refl, sym, ◌∙◌}
use Rattle.std.specs.Result.{IsErr, IsErrAnd}
use Rattle.rc_base.specs.Failures.{Gives}
use Rattle.rc_base.specs.declared.failures.Failure.{Failure}
use Rattle.rc_base.specs.declared.failures.Failure.TheVariants.{Refused, NoMemory}
use Rattle.ir_lex.specs.Lexer.{Lexed, ahead}
use Rattle.ir_lex.specs.Token.{Lexeme as Token}
use Rattle.ir_read.specs.declared.error.ModuleError.{ModuleError}
use Rattle.ir_read.specs.Node.{Lexeme, Told}
use Rattle.ir_read.specs.Read.{Progress, finished, lexeme_of, put, read_from}
use Rattle.ir_read.specs.Text.{lexemes_left}

pub read_more : (progress next : Progress) (token : Lexeme) (tokens : List Lexeme) → put progress token ≡ Ok next →
    read_from progress (token ∷ tokens) ≡ read_from next tokens
unfolding read_from
read_more progress next token tokens is = rw is refl

pub read_ends : (progress next : Progress) (token : Lexeme) → put progress token ≡ Ok next →
    read_from progress (token ∷ []) ≡ finished next
unfolding read_from
read_ends progress next token is = rw is refl

pub read_fails : (progress : Progress) (token : Lexeme) (tokens : List Lexeme) (error : ModuleError) → put progress token ≡ Err error →
    read_from progress (token ∷ tokens) ≡ Err error
unfolding read_from
read_fails progress token tokens error is = rw is refl

-- a text goes on with its next token
pub text_goes_on : (last : ℕ) (progress next : Progress) (token : Token) (left after : Lexed) →
    left ≡ ahead token after → put progress (lexeme_of token) ≡ Ok next →
    read_from progress (lexemes_left last left) ≡ read_from next (lexemes_left last after)
text_goes_on last progress next token left after is goes = rw is (read_more progress next _ _ goes)

-- and ends with its next token's failure, where that is answered
pub text_fails : {X Y : Type 0} (view : X → Progress) (show : Y → List Told) (last : ℕ) (progress : Progress) (token : Token)
    (left after : Lexed) (failure : Failure ModuleError) (answer : Result Y (Failure ModuleError))
    (whole : Result (List Told) ModuleError) →
    left ≡ ahead token after → Gives view (Err failure) (put progress (lexeme_of token)) →
    read_from progress (lexemes_left last left) ≡ whole → IsErr answer → IsErrAnd answer (λ given. given ≡ failure) →
    Gives show answer whole
text_fails view show last progress token left after (Refused error) (Err given) whole is fails from err given_is =
    rw given_is (sym from ∙ rw is (read_fails progress _ _ error fails))
text_fails view show last progress token left after NoMemory (Err given) whole is fails from err given_is = rw given_is tt
text_fails view show last progress token left after failure (Ok found) whole is fails from err given_is =
    absurd (let h : ⊥ = cc in h)
