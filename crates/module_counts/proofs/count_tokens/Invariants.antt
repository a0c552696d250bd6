use Rattle.std.proofs.Common.{◌≡◌, ◌+◌, length}
use Rattle.ir_lex.specs.Lexer.{tokens_of}
use Rattle.module_counts.proofs.count_tokens.Given as goal

abbrev pub invariant-loop-count : goal.invariant-loop-count
invariant-loop-count l = l.count + length l.lexer.tokens ≡ length (tokens_of l.text).tokens

abbrev pub decreases-loop-count : goal.decreases-loop-count
decreases-loop-count l = length l.lexer.tokens
