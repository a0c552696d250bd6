use Rattle.std.proofs.Common.{◌≡◌, All, length}
use Rattle.ir_lex.specs.Laws.{IsTokenOf, line_at}
use Rattle.ir_read.specs.Read as spec
use Rattle.ir_read.specs.Text.{last_line, lexemes_left, raw_module_in}
use Rattle.ir_read.proofs.text.read_module.Given as goal

abbrev pub invariant-loop-token : goal.invariant-loop-token
invariant-loop-token l =
    (spec.read_from l.reader (lexemes_left (last_line l.text) l.lexer) ≡ raw_module_in l.text)
    × All (IsTokenOf l.text) l.lexer.tokens
    × (l.line ≡ line_at l.text l.start)

abbrev pub decreases-loop-token : goal.decreases-loop-token
decreases-loop-token l = length l.lexer.tokens
