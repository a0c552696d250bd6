-- The errors of refused tokens, by their classes.
use Rattle.std.proofs.Common.{◌≡◌, ℕ, Bool, true, false, refl, inl, inr, ◌⊎◌}
use Rattle.ir_read.specs.declared.error.ModuleError.TheVariants as errors
use Rattle.ir_read.specs.declared.machine.Refusal.{Refusal}
use Rattle.ir_read.specs.declared.terminal.Terminal.{Terminal}
use Rattle.ir_read.specs.declared.terminal.Terminal.TheVariants as t
use Rattle.ir_read.specs.Cause.{error_of, is_other_token, is_word, unsupported_if}
use Rattle.ir_read.specs.Laws.{is_final}

pub bad_is_lexical : (behind_type : Bool) (refusal : Refusal) (line : ℕ) → error_of behind_type refusal t.Bad line ≡ errors.Lexical line
unfolding error_of
bad_is_lexical behind_type refusal line = refl

pub end_is_syntax : (behind_type : Bool) (refusal : Refusal) (line : ℕ) → error_of behind_type refusal t.End line ≡ errors.Syntax line
unfolding error_of
end_is_syntax behind_type refusal line = refl

pub word_is_unsupported : (behind_type : Bool) (refusal : Refusal) (terminal : Terminal) (line : ℕ) → is_word terminal ≡ true →
    error_of behind_type refusal terminal line ≡ errors.Unsupported line
unfolding error_of is_word is_other_token
word_is_unsupported behind_type refusal t.Bad line word = cc
word_is_unsupported behind_type refusal t.End line word = cc
word_is_unsupported behind_type refusal _ line word = cc

either : (unsupported : Bool) (line : ℕ) → (unsupported_if unsupported line ≡ errors.Syntax line) ⊎ (unsupported_if unsupported line ≡ errors.Unsupported line)
either true line = inr refl
either false line = inl refl

pub other_is_one_of_two : (behind_type : Bool) (refusal : Refusal) (terminal : Terminal) (line : ℕ) → is_final terminal ≡ false →
    (error_of behind_type refusal terminal line ≡ errors.Syntax line) ⊎ (error_of behind_type refusal terminal line ≡ errors.Unsupported line)
unfolding error_of
other_is_one_of_two behind_type refusal t.Bad line final = cc
other_is_one_of_two behind_type refusal t.End line final = cc
other_is_one_of_two behind_type refusal _ line final = either _ line
