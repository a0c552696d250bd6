-- An instruction decides no more numbers than it is allowed.
use Rattle.std.proofs.Common.{◌≡◌, ℕ, zero, suc, ◌≤◌, Bool, true, false, cond, List, [], ◌∷◌, Option, None, refl, sym, ◌∙◌, arith}
use Rattle.ir_types.specs.declared.instruction.Inst.TheVariants.{Binary}
use Rattle.machine_model.specs.Decision.{is_tested, next_number, numbers_within, once, test_of, value_of_binary}
use Rattle.machine_laws.specs.Laws.{NumbersNeedNoMore}

decides-none : (most : ℕ) (next : List ℕ → Option ℕ) → next [] ≡ None → numbers_within most next [] ≡ []
unfolding numbers_within
decides-none zero next none = refl
decides-none (suc most) next none = rw none refl

decides-once : (most number : ℕ) → 1 ≤ most → numbers_within most (once number) [] ≡ number ∷ []
unfolding numbers_within
decides-once zero number some = absurd (omega arith)
decides-once (suc zero) number some = refl
decides-once (suc (suc most)) number some = refl

pub numbers-need_no_more : NumbersNeedNoMore
unfolding next_number
numbers-need_no_more code objects frame addresses (Binary to op a b) most enough = of_op (is_tested op)
  where
    number : ℕ
    number = test_of (value_of_binary code frame op a b)

    of_op : (tested : Bool) →
        numbers_within most (λ decided. cond tested (once number decided) None) []
        ≡ numbers_within 1 (λ decided. cond tested (once number decided) None) []
    of_op true = decides-once most number enough ∙ sym (decides-once 1 number (omega arith))
    of_op false = decides-none most (λ decided. None) refl ∙ sym (decides-none 1 (λ decided. None) refl)
numbers-need_no_more code objects frame addresses inst most enough =
    decides-none most (next_number code objects frame addresses inst) refl
    ∙ sym (decides-none 1 (next_number code objects frame addresses inst) refl)
