-- The state from which a run begins.
use Rattle.std.specs.Prelude.{true, if◌then◌else◌, [], ◌∷◌, map}
use Rattle.ir_types.specs.declared.«module».Module.{Module}
use Rattle.ir_types.specs.declared.«module».GlobalVar.{GlobalVar}
use Rattle.machine_model.specs.declared.state.Object.{Object}
use Rattle.machine_model.specs.declared.state.ObjectKind.{ObjectKind}
use Rattle.machine_model.specs.declared.state.ObjectKind.TheVariants.{Global, Constant}
use Rattle.machine_model.specs.declared.state.State.{State}
use Rattle.machine_model.specs.Thread.{made}

abbrev pub kind_of : GlobalVar → ObjectKind
kind_of global = if global.constant then Constant else Global

-- a global lies at its address and holds its initialiser
abbrev pub object_of_global : GlobalVar → Object
object_of_global global = record {
  base = global.base;
  size = global.size;
  maker = 0;
  kind = kind_of global;
  live = true;
  bytes = global.image;
}

-- the globals in text order, and main, whose start is pending
abbrev pub started : Module → State
started code = record {
  threads = made code code.main [] ∷ [];
  objects = map object_of_global code.globals;
  locks = [];
  conditions = [];
  output = [];
}
