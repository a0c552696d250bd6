use Rattle.std.proofs.Common.{refl, arith}
use Rattle.ir_lex.specs.declared.bytes.TheConstants.{CLASSES}
use Rattle.ir_lex.specs.Bytes.{is_word_byte}
use Rattle.ir_lex.proofs.Classes.{from_table}
use Rattle.ir_lex.proofs.bytes.is_word_byte.Goals as goal

pub returns : goal.returns
returns c = from_table CLASSES 1 is_word_byte c.args.byte (omega arith) refl
