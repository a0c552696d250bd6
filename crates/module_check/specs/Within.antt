-- What names stand for, and whether it is there.
use Rattle.std.specs.Prelude.{◌≡◌, ℕ, ◌<◌, length}
use Rattle.std.specs.List.{AllByRecursion}
use Rattle.instruction_check.specs.declared.roles.GlobalRole.{GlobalRole}
use Rattle.instruction_check.specs.declared.roles.GlobalRole.TheVariants as globals
use Rattle.instruction_check.specs.declared.roles.LocalRole.{LocalRole}
use Rattle.instruction_check.specs.declared.roles.LocalRole.TheVariants as locals
use Rattle.module_check.specs.declared.body_names.NamedBody.{NamedBody}
use Rattle.module_check.specs.declared.item_names.NamedItems.{NamedItems}

-- of so many globals and functions
abbrev pub IsItem : ℕ → ℕ → GlobalRole → Type 0
IsItem all functions (globals.Global number) = number < all
IsItem all functions (globals.Function number) = number < functions
IsItem all functions (globals.Declared call) = Unit {0}

-- each name of a module stands for something, and that is there
pub record StandForItems (named : NamedItems) : Type 0 where
  pub each : length named.names.roles ≡ length named.names.table
  pub there : AllByRecursion (IsItem named.globals (length named.names.signatures)) named.names.roles

-- of so many registers and blocks
abbrev pub IsLocal : ℕ → ℕ → LocalRole → Type 0
IsLocal registers blocks (locals.Register number kind is_output) = number < registers
IsLocal registers blocks (locals.Block number) = number < blocks
IsLocal registers blocks locals.Void = Unit {0}

-- each name of a body stands for something, and that is there
pub record StandForLocals (named : NamedBody) : Type 0 where
  pub each : length named.names.roles ≡ length named.names.table
  pub there : AllByRecursion (IsLocal (length named.registers) named.blocks) named.names.roles
