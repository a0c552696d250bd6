-- What a call calls, and what stands before its arguments: `TYPE @name`, or `TYPE (TYPE, ..) @name`.
use Rattle.std.specs.Prelude.{Bool, true, false, not, ◌&&◌, ◌||◌, List, [], ◌∷◌, Option, Some, None, if◌then◌else◌}
use Rattle.external_calls.specs.declared.prototype.Parameter.{Parameter}
use Rattle.external_calls.specs.Prototype as calls
use Rattle.ir_types.specs.declared.word.Kind.{Kind}
use Rattle.ir_read.specs.declared.terminal.Terminal.{Terminal}
use Rattle.ir_read.specs.declared.terminal.Terminal.TheVariants as t
use Rattle.ir_read.specs.Node.{Told}
use Rattle.call_check.specs.declared.callee.Callee.{Callee}
use Rattle.call_check.specs.declared.callee.Callee.TheVariants as callees
use Rattle.module_fault.specs.declared.cause.Cause.TheVariants.{UnknownName, Unsupported}
use Rattle.instruction_check.specs.declared.roles.GlobalRole.{GlobalRole}
use Rattle.instruction_check.specs.declared.roles.GlobalRole.TheVariants as globals
use Rattle.instruction_check.specs.declared.scope.ModuleNames.{ModuleNames}
use Rattle.instruction_check.specs.Literals.{kind_of}
use Rattle.instruction_check.specs.Phrases.{first, second, third, behind, behind_two}
use Rattle.instruction_check.specs.Results.{call_result}
use Rattle.instruction_check.specs.Roles.{same_kind}
use Rattle.instruction_check.specs.Scope.{global_role}

-- a global is no function
abbrev pub callee_of : Option GlobalRole → Callee
callee_of (Some (globals.Function number)) = callees.Function number
callee_of (Some (globals.Declared (Some call))) = callees.External call
callee_of (Some (globals.Declared None)) = callees.Refused Unsupported
callee_of (Some (globals.Global number)) = callees.Refused UnknownName
callee_of None = callees.Refused UnknownName

abbrev pub callee_in : ModuleNames → List Told → Callee
callee_in names [] = callee_of None
callee_in names (node ∷ rest) = callee_of (global_role names node)

-- ---- the head

pub record Head : Type 0 where
  pub result : Option Kind
  pub written : Option (List Told)
  pub callee : Callee

abbrev pub opens : Terminal → Bool
opens t.LeftParen = true
opens _ = false

abbrev pub is_written : List Told → Bool
is_written [] = false
is_written (node ∷ rest) = opens node.terminal

abbrev pub head_of : ModuleNames → List (List Told) → Head
head_of names phrases =
    if is_written (second phrases)
    then record {
      result = call_result (first phrases);
      written = Some (second phrases);
      callee = callee_in names (third phrases);
    }
    else record {
      result = call_result (first phrases);
      written = None;
      callee = callee_in names (second phrases);
    }

-- the phrases behind the callee
abbrev pub arguments_in : List (List Told) → List (List Told)
arguments_in phrases = if is_written (second phrases) then behind (behind_two phrases) else behind_two phrases

-- ---- written types

abbrev pub is_ellipsis : Terminal → Bool
is_ellipsis t.Ellipsis = true
is_ellipsis _ = false

-- those of the parameters, and `...` behind them for a variadic function
abbrev pub may_write : Bool → List Told → List Parameter → Bool
may_write is_variadic [] [] = not is_variadic
may_write is_variadic [] (parameter ∷ parameters) = false
may_write is_variadic (node ∷ nodes) [] = is_variadic && is_ellipsis node.terminal
may_write is_variadic (node ∷ nodes) (parameter ∷ parameters) =
    if is_ellipsis node.terminal || not (same_kind (kind_of node) (calls.kind_of parameter)) then false
    else may_write is_variadic nodes parameters
