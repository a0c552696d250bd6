use Rattle.std.proofs.Common.{refl, arith, not}
use Rattle.std.specs.Prelude.{◌==◌, ◌&&◌}
use Rattle.ir_lex.specs.declared.bytes.TheConstants.{CLASSES}
use Rattle.ir_lex.specs.Bytes.{is_mark}
use Rattle.ir_lex.proofs.Classes.{from_table}
use Rattle.ir_lex.proofs.bytes.is_lone_mark.Goals as goal

pub returns : goal.returns
returns c = from_table CLASSES 4 (λ byte. is_mark byte && not (byte == 33)) c.args.byte (omega arith) refl
