-- What a machine asks of a module.
use Rattle.std.specs.Prelude.{◌+◌, ◌<◌, ◌^◌, length, All}
use Rattle.ir_types.specs.declared.«module».Module.{Module}
use Rattle.ir_types.specs.declared.«module».Block.{Block}

-- the numbers of a block's instructions are below 2 ^ 32
abbrev pub HasSmallNumbers : Block → Type 0
HasSmallNumbers block = block.first + length block.insts < 2 ^ 32

-- the module can be run
abbrev pub IsRunnable : Module → Type 0
IsRunnable code = All (λ function. All HasSmallNumbers function.blocks) code.functions
