-- How many nodes a text has, and so that a machine can run its module.
use Rattle.std.proofs.Common.{◌≡◌, ℕ, ◌+◌, ◌<◌, ◌≤◌, ◌^◌, Bool, true, false, List, [], ◌∷◌, length, length-append, IfOk, Result, Ok, Err, if◌then◌else◌, refl, arith}
use Rattle.ir_lex.specs.declared.token.Token.{Token}
use Rattle.ir_lex.specs.Lexer.{tokens_of}
use Rattle.ir_read.specs.declared.error.ModuleError.{ModuleError}
use Rattle.ir_read.specs.declared.grammar.Rule.{Rule}
use Rattle.ir_read.specs.declared.read.Ending.{Ending}
use Rattle.ir_read.specs.declared.skip.Mode.{Mode}
use Rattle.ir_read.specs.Laws.{Bare, Drops_comma, Ends, Keeps, Keeps_comma, Nothing, Parses, Passes, Reads, Skips, Stands, Takes}
use Rattle.ir_read.specs.Node.{Lexeme, Told, is_kept, node, told}
use Rattle.ir_read.specs.Read.{lexemes_of, raw_module_of}
use Rattle.ir_read.specs.Text.{ending_of, last_line, lexemes_left, raw_module_in}
use Rattle.rc_base.specs.Failures.{◌>>=◌}
use Rattle.ir_types.specs.declared.«module».Module.{Module}
use Rattle.module_build.specs.Checked.{checked_module, module_in}

-- ---- a token gives a node at most

one_if : (kept : Bool) (one : Told) → length (if kept then one ∷ [] else []) ≤ 1
one_if true one = omega arith
one_if false one = omega arith

told_one : (rule : Rule) (token : Lexeme) → length (told rule token) ≤ 1
unfolding told
told_one rule token = one_if (is_kept token.terminal) (node rule token)

few_parsed : {wants : List Rule} {tokens : List Lexeme} {nodes : List Told} → Parses wants tokens nodes → length nodes ≤ length tokens
few_parsed Nothing = omega arith
few_parsed (Takes {rule} {wants} {more} {token} {tokens} {nodes} is parsed) =
    omega (arith, told_one rule token, few_parsed parsed, length-append (told rule token) nodes)
few_parsed (Stands none is parsed) = few_parsed parsed

few_bare : {mode : Mode} {tokens bare : List Lexeme} → Bare mode tokens bare → length bare ≤ length tokens
few_bare Ends = omega arith
few_bare (Keeps comma skip rest) = omega (arith, few_bare rest)
few_bare (Skips skip rest) = omega (arith, few_bare rest)
few_bare (Passes skip rest) = omega (arith, few_bare rest)
few_bare (Keeps_comma comma drops rest) = omega (arith, few_bare rest)
few_bare (Drops_comma comma drops rest) = omega (arith, few_bare rest)

one_more : (tokens : List Token) (ending : Ending) → length (lexemes_of tokens ending) ≡ length tokens + 1
one_more [] ending = refl
one_more (token ∷ tokens) ending = omega (arith, one_more tokens ending)

-- ---- the module of a text

abbrev AreRead : Type 0
AreRead = (tokens : List Lexeme) (nodes : List Told) → raw_module_of tokens ≡ Ok nodes → Reads tokens nodes

abbrev AreFew : Type 0
AreFew = (text : List ℕ) → length (tokens_of text).tokens ≤ length text

few_nodes : (read : AreRead) (few : AreFew) (text : List ℕ) (nodes : List Told) → raw_module_in text ≡ Ok nodes →
    length nodes ≤ length text + 1
few_nodes read few text nodes is =
    let left = lexemes_left (last_line text) (tokens_of text) in
    let reads = read left nodes is in
    omega (arith, few text, one_more (tokens_of text).tokens (ending_of (last_line text) (tokens_of text).fault), few_bare reads.skipped, few_parsed reads.parsed)

behind : (P : Module → Type 0) (holds : (nodes : List Told) → length nodes < 2 ^ 32 → IfOk (checked_module nodes) P)
    (raw : Result (List Told) ModuleError) → ((nodes : List Told) → raw ≡ Ok nodes → length nodes < 2 ^ 32) →
    IfOk (raw >>= checked_module) P
behind P holds (Ok nodes) short = holds nodes (short nodes refl)
behind P holds (Err error) short = tt

-- what holds of the module of few nodes holds of that of a text
pub texts_hold : (P : Module → Type 0) → ((nodes : List Told) → length nodes < 2 ^ 32 → IfOk (checked_module nodes) P) →
    AreRead → AreFew → (text : List ℕ) → length text ≤ 2 ^ 22 → IfOk (module_in text) P
texts_hold P holds read few text short =
    behind P holds (raw_module_in text) (λ nodes is. omega (arith, short, few_nodes read few text nodes is))
