use Rattle.std.proofs.Common.{nat_eq, get_or, refl, arith}
use Rattle.std.proofs.lemmas.Bool.{agree_below_at}
use Rattle.ir_read.specs.declared.terminal.TheConstants.{NAME_BYTES}
use Rattle.ir_read.specs.Terminal.{is_name_byte}
use Rattle.ir_read.proofs.terminal.is_name_byte.Goals as goal

pub returns : goal.returns
returns c = agree_below_at (λ byte. nat_eq (get_or NAME_BYTES byte 0) 49) is_name_byte 256 c.args.byte refl (omega arith)
