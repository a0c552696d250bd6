-- The function `main`.
use Rattle.std.specs.Prelude.{ℕ, Bool, true, false, not, ◌&&◌, ◌||◌, List, [], ◌∷◌, bytes_eq, codes, position, slice_get, Option, Some, None, option_and_then}
use Rattle.ir_types.specs.declared.word.Kind.{Kind}
use Rattle.ir_types.specs.declared.word.Kind.TheVariants.{Int, Ptr}
use Rattle.ir_types.specs.declared.word.Width.TheVariants.{W32}
use Rattle.external_calls.specs.declared.prototype.Parameter.{Parameter}
use Rattle.external_calls.specs.declared.prototype.Parameter.TheVariants.{Value}
use Rattle.module_fault.specs.declared.cause.Cause.{Cause}
use Rattle.module_fault.specs.declared.cause.Cause.TheVariants.{BadShape}
use Rattle.instruction_check.specs.declared.roles.GlobalRole.{GlobalRole}
use Rattle.instruction_check.specs.declared.roles.GlobalRole.TheVariants as globals
use Rattle.instruction_check.specs.declared.scope.ModuleNames.{ModuleNames}
use Rattle.instruction_check.specs.declared.scope.Signature.{Signature}
use Rattle.module_fault.specs.Cause.{unless}

abbrev pub is_int : Option Kind → Bool
is_int (Some (Int W32)) = true
is_int _ = false

abbrev pub are_words : Parameter → Parameter → Bool
are_words (Value (Int W32)) (Value Ptr) = true
are_words _ _ = false

-- none, or the number of words and where they stand
abbrev pub has_main_parameters : List Parameter → Bool
has_main_parameters [] = true
has_main_parameters (count ∷ words ∷ []) = are_words count words
has_main_parameters _ = false

-- `i32 ()` or `i32 (i32, ptr)`
abbrev pub is_main : Signature → Bool
is_main signature = is_int signature.result && has_main_parameters signature.parameters

-- what is wrong with a defined function of the name
abbrev pub main_cause : List ℕ → Signature → Option Cause
main_cause name signature = unless (not (bytes_eq name (codes "main")) || is_main signature) BadShape

abbrev pub function_in : Option GlobalRole → Option ℕ
function_in (Some (globals.Function number)) = Some number
function_in _ = None

-- the number of the function `main`, where the name stands for a defined one
abbrev pub main_of : ModuleNames → Option ℕ
main_of names = function_in (option_and_then (slice_get names.roles) (position (bytes_eq (codes "main")) names.table))
