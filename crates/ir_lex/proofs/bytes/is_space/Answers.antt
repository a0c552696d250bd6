use Rattle.std.proofs.Common.{refl, arith}
use Rattle.ir_lex.specs.declared.bytes.TheConstants.{CLASSES}
use Rattle.ir_lex.specs.Bytes.{is_space}
use Rattle.ir_lex.proofs.Classes.{from_table}
use Rattle.ir_lex.proofs.bytes.is_space.Goals as goal

pub returns : goal.returns
returns c = from_table CLASSES 8 is_space c.args.byte (omega arith) refl
