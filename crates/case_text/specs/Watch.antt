-- `watch FUNCTION INST`: a load or store of the module that is visible.
use Rattle.std.specs.Prelude.{ℕ, ◌^◌, Bool, ◌&&◌, false, true, nat_lt, List, [], ◌∷◌, ◌++◌, length, position, slice_get, Option, Some, None, Result, Ok, Err, if◌then◌else◌, option_and_then}
use Rattle.std.specs.List.{flat_map, list_any}
use Rattle.std.specs.Str.{bytes_eq}
use Rattle.ir_types.specs.declared.instruction.Inst.{Inst}
use Rattle.ir_types.specs.declared.instruction.Inst.TheVariants.{Binary, Compare, Convert, Same, Select, Phi, Alloca, Load, Store, Address, Branch, BranchIf, Switch, Ret, Unreachable, Call, External}
use Rattle.ir_types.specs.declared.instruction.Site.{Site}
use Rattle.ir_types.specs.declared.«module».Function.{Function}
use Rattle.ir_types.specs.declared.«module».Module.{Module}
use Rattle.run_types.specs.Site.{is_site}
use Rattle.rc_base.specs.Failures.{◌>>=◌, or_error}
use Rattle.case_text.specs.declared.error.CaseError.{CaseError}
use Rattle.case_text.specs.declared.error.CaseError.TheVariants as errors
use Rattle.case_text.specs.Words.{Watched}

abbrev pub is_access : Inst → Bool
is_access (Load to kind at) = true
is_access (Store kind value at) = true
is_access (Binary to op a b) = false
is_access (Compare to op a b) = false
is_access (Convert to op a width) = false
is_access (Same to a) = false
is_access (Select to c a b) = false
is_access (Phi to edges) = false
is_access (Alloca to unit count) = false
is_access (Address to base fixed scaled) = false
is_access (Branch block) = false
is_access (BranchIf c one other) = false
is_access (Switch value default cases) = false
is_access (Ret value) = false
is_access Unreachable = false
is_access (Call to function arguments) = false
is_access (External to which arguments) = false

-- the instruction of this number in the function, counted from 0 through all its blocks
abbrev pub inst_of : Function → ℕ → Option Inst
inst_of function number = slice_get (flat_map (λ block. block.insts) function.blocks) number

abbrev pub site_where : ℕ → ℕ → Inst → Option Site
site_where function number inst =
    if is_access inst then Some (record { function = function; inst = number }) else None

abbrev pub site_in : Module → ℕ → ℕ → Option Site
site_in code number function =
    option_and_then (site_where function number)
    (option_and_then (λ found. inst_of found number) (slice_get code.functions function))

-- the number of the first function of this name
abbrev pub function_named : Module → List ℕ → Option ℕ
function_named code name = position (λ function. bytes_eq function.name name) code.functions

-- the load or store of this number in the function of this name
unfoldable pub site_of : Module → Watched → Option Site
site_of code words = option_and_then (site_in code words.inst) (function_named code words.name)

abbrev pub is_watch : List Site → Watched → Bool
is_watch sites words = nat_lt words.inst (2 ^ 32) && nat_lt (length sites) 256

-- the sites, with one that is not among them
abbrev pub with_site : ℕ → List Site → Site → Result (List Site) CaseError
with_site number sites site =
    if list_any (is_site site) sites then Err (errors.Site number) else Ok (sites ++ site ∷ [])

-- the sites, with that of a line with this number
unfoldable pub with_watch : Module → ℕ → Watched → List Site → Result (List Site) CaseError
with_watch code number words sites =
    if is_watch sites words then (or_error (errors.Site number) (site_of code words)) >>= with_site number sites
    else Err (errors.Range number)
