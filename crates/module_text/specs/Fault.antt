-- What a fault of a module is called, and at which line it is.
use Rattle.std.specs.Prelude.{ℕ, List, codes}
use Rattle.ir_read.specs.declared.error.ModuleError.{ModuleError}
use Rattle.ir_read.specs.declared.error.ModuleError.TheVariants as errors

abbrev pub name_of : ModuleError → List ℕ
name_of (errors.Lexical line) = codes "Lexical"
name_of (errors.Syntax line) = codes "Syntax"
name_of (errors.Unsupported line) = codes "Unsupported"
name_of (errors.UnknownName line) = codes "UnknownName"
name_of (errors.Duplicate line) = codes "Duplicate"
name_of (errors.TypeMismatch line) = codes "TypeMismatch"
name_of (errors.BadShape line) = codes "BadShape"

abbrev pub line_of : ModuleError → ℕ
line_of (errors.Lexical line) = line
line_of (errors.Syntax line) = line
line_of (errors.Unsupported line) = line
line_of (errors.UnknownName line) = line
line_of (errors.Duplicate line) = line
line_of (errors.TypeMismatch line) = line
line_of (errors.BadShape line) = line
