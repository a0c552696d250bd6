-- A word is told by its width and its bits.
use Rattle.std.proofs.Common.{◌≡◌}
use Rattle.std.proofs.Props.{props}
use mathlib.Core.HLevel.{is_prop→PathP}
use Rattle.ir_types.specs.declared.word.Word.{Word, in_range-type}

pub same_word : (x y : Word) → x.width ≡ y.width → x.bits ≡ y.bits → x ≡ y
same_word x y width bits = λ i. record {
  width = width i;
  bits = bits i;
  in_range = is_prop→PathP {0} (λ j. in_range-type (width j) (bits j)) (λ j. hlevel props) x.in_range y.in_range i;
}
