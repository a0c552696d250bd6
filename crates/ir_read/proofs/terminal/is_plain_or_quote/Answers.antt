use Rattle.std.proofs.Common.{not, nat_eq, get_or, refl, arith}
use Rattle.std.proofs.lemmas.Bool.{agree_below_at}
use Rattle.ir_read.specs.declared.terminal.TheConstants.{NAME_BYTES}
use Rattle.ir_read.specs.Terminal.{is_plain_or_quote}
use Rattle.ir_read.proofs.terminal.is_plain_or_quote.Goals as goal

pub returns : goal.returns
returns c = agree_below_at (λ byte. not (nat_eq (get_or NAME_BYTES byte 0) 48)) is_plain_or_quote 256 c.args.byte refl (omega arith)
