-- Where the names of an instruction lead.
use Rattle.std.specs.Prelude.{ℕ, List, [], ◌∷◌, bytes_eq, position, slice_get, Option, Some, None, option_and_then, unwrap_or}
use Rattle.ir_names.specs.LocalName.{local_eq, local_of}
use Rattle.ir_read.specs.Node.{Told}
use Rattle.ir_read.specs.Name.{name_of}
use Rattle.module_fault.specs.declared.cause.Cause.TheVariants.{UnknownName}
use Rattle.module_fault.specs.declared.cause.Found.{Found}
use Rattle.instruction_check.specs.declared.roles.GlobalRole.{GlobalRole}
use Rattle.instruction_check.specs.declared.roles.LocalRole.{LocalRole}
use Rattle.instruction_check.specs.declared.scope.BodyNames.{BodyNames}
use Rattle.instruction_check.specs.declared.scope.ModuleNames.{ModuleNames}
use Rattle.instruction_check.specs.Roles.{block, global}
use Rattle.struct_table.specs.StructTable.{Structs}

pub record Scope : Type 0 where
  pub names : ModuleNames
  pub body : BodyNames
  pub structs : Structs

-- what the `@` name of a node stands for
abbrev pub global_role : ModuleNames → Told → Option GlobalRole
global_role names node =
    option_and_then (slice_get names.roles) (position (bytes_eq (name_of node.terminal node.text)) names.table)

abbrev pub address_of : ModuleNames → ℕ → ℕ
address_of names number = unwrap_or (slice_get names.addresses number) 0

-- the address of the global that a node names
abbrev pub address : ModuleNames → Told → Found ℕ
address names node =
    let found = global (global_role names node) in
    record { value = address_of names found.value; cause = found.cause }

abbrev pub no_address : Found ℕ
no_address = record { value = 0; cause = Some UnknownName }

-- the address of the global that a phrase names
abbrev pub address_in : ModuleNames → List Told → Found ℕ
address_in names [] = no_address
address_in names (node ∷ rest) = address names node

-- what the `%` name of a node stands for
abbrev pub local_role : BodyNames → Told → Option LocalRole
local_role body node =
    option_and_then (slice_get body.roles) (position (local_eq (local_of node.terminal node.text)) body.table)

-- the number of the block that a phrase names
abbrev pub block_in : BodyNames → List Told → Found ℕ
block_in body [] = block None
block_in body (node ∷ rest) = block (local_role body node)
