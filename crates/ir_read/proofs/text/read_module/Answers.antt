use Rattle.std.proofs.Common.{rules, ◌∙◌, sym}
use Rattle.ir_read.specs.Text.{last_line}
use Rattle.ir_read.proofs.Lexed.{next_token}
use Rattle.ir_read.proofs.Reading.{text_fails, text_goes_on}
use Rattle.ir_read.proofs.text.read_module.Goals as goal

pub take_lexed-requires : goal.take_lexed-requires
take_lexed-requires c =
    let ahead = rw (c.in-Ok-Some.is, c.in-Ok-Some.field-0-is) at c.next.ensures.given in
    (next_token _ _ _ _ ahead c.loop-token.invariant.1).0.shape

pub loop-token-preserved : goal.loop-token-preserved
loop-token-preserved c =
    let ahead = rw (c.in-Ok-Some.is, c.in-Ok-Some.field-0-is) at c.next.ensures.given in
    let all = next_token _ _ _ _ ahead c.loop-token.invariant.1 in
    let goes = text_goes_on (last_line c.args.text.now) c.loop-token.reader c.take_lexed.new.self c.in-Ok-Some.token _ _ ahead (search rules) in
    (sym goes ∙ c.loop-token.invariant.0, all.1, search (rules, all.0.line, c.token.view_is))

pub returns-in_err-take_lexed-in-Ok-Some : goal.returns-in_err-take_lexed-in-Ok-Some
returns-in_err-take_lexed-in-Ok-Some c =
    let ahead = rw (c.in-Ok-Some.is, c.in-Ok-Some.field-0-is) at c.next.ensures.given in
    let residual = c.from_residual-in_err-take_lexed-in-Ok-Some.ensures in
    text_fails {X = Unit {0}} (λ _. c.take_lexed.new.self) (λ found. found.nodes.items) (last_line c.args.text.now) c.loop-token.reader c.in-Ok-Some.token _ _
    c.in_err-take_lexed-in-Ok-Some.field-0.0 _ _ ahead c.in_err-take_lexed-in-Ok-Some.ensures c.loop-token.invariant.0 residual.0 residual.1
