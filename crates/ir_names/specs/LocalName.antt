-- The names of a body's arguments, blocks and registers.
use Rattle.std.specs.Prelude.{ℕ, Bool, false, List, nat_eq, bytes_eq, if◌then◌else◌}
use Rattle.ir_read.specs.declared.terminal.Terminal.{Terminal}
use Rattle.ir_read.specs.Name.{is_numbered, name_of}
use Rattle.ir_names.specs.declared.local_name.LocalName.{LocalName}
use Rattle.ir_names.specs.declared.local_name.LocalName.TheVariants.{Number, Plain}
use Rattle.ir_names.specs.Number.{value_of}

-- digits without quotes are a number, and any other name is itself
abbrev pub local_of : Terminal → List ℕ → LocalName
local_of terminal text = if is_numbered terminal text then Number (value_of (name_of terminal text)) else Plain (name_of terminal text)

-- a number is the same number alone, and never a plain name
abbrev pub local_eq : LocalName → LocalName → Bool
local_eq (Number a) (Number b) = nat_eq a b
local_eq (Number a) (Plain b) = false
local_eq (Plain a) (Number b) = false
local_eq (Plain a) (Plain b) = bytes_eq a b
