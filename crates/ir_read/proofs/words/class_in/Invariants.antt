use Rattle.std.proofs.Common.{◌≡◌, drop, map}
use Rattle.ir_read.specs.declared.terminal.Terminal.TheVariants as t
use Rattle.ir_read.specs.Words.{class_in}
use Rattle.ir_read.proofs.words.class_in.Given as goal

abbrev pub invariant-loop-name : goal.invariant-loop-name
invariant-loop-name l =
    class_in t.OtherWord (map (λ row. (row.0.now, row.1)) (drop l.name-index l.rows)) l.word
    ≡ class_in t.OtherWord (map (λ row. (row.0.now, row.1)) l.rows) l.word
