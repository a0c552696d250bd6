use Rattle.std.proofs.Common.{◌≡◌, ◌-◌, length, take, drop, arith}
use Rattle.std.proofs.lemmas.List.{length-drop, take_all}
use Rattle.ir_read.proofs.Lexed.{line_behind}
use Rattle.ir_read.proofs.text.last_line.Goals as goal

pub returns-in-Some : goal.returns-in-Some
returns-in-Some c =
    let front = c.in-Some.front.now in
    let behind = drop c.args.start front in
    let whole : take (length front - c.args.start) behind ≡ behind =
    take_all (length front - c.args.start) behind (omega (arith, length-drop c.args.start front)) in
    line_behind c.args.text.now front c.in-Some.field-0-0.now c.args.start c.args.line c.count_feeds.result c.in-Some.ensures.cases.0
    (omega (arith, c.if-start-front.true)) c.requires.known (rw whole at c.count_feeds.ensures.count)
