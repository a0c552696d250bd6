-- A worked example: main makes a thread, joins it, and prints the global to which that thread added 1.
--
--   @g = global i32 64
--   @t = global i64 0
--   define ptr @a(ptr %q) {
--     %l = load i32, ptr @g
--     %m = add i32 %l, 1
--     store i32 %m, ptr @g
--     ret ptr null
--   }
--   define i32 @main() {
--     %c = call i32 @pthread_create(ptr @t, ptr null, ptr @a, ptr null)
--     %s = load i64, ptr @t
--     %j = call i32 @pthread_join(i64 %s, ptr null)
--     %v = load i32, ptr @g
--     %p = call i32 @putchar(i32 %v)
--     ret i32 0
--   }
use Rattle.std.specs.Prelude.{ℕ, List, [], ◌∷◌, Some, false}
use Rattle.std.proofs.Common.{lit<}
use Rattle.ir_types.specs.declared.external.Extern.TheVariants.{Create, Join, Putchar}
use Rattle.ir_types.specs.declared.external.ItemKind.TheVariants.{Byte, Status}
use Rattle.ir_types.specs.declared.input.Input.{Input}
use Rattle.ir_types.specs.declared.instruction.Inst.TheVariants.{Binary, Load, Store, Ret, External}
use Rattle.ir_types.specs.declared.instruction.Operand.TheVariants.{Register, Constant}
use Rattle.ir_types.specs.declared.operation.BinOp.TheVariants.{Add}
use Rattle.ir_types.specs.declared.word.Kind.TheVariants.{Int, Ptr}
use Rattle.ir_types.specs.declared.word.Width.TheVariants.{W32, W64}
use Rattle.ir_types.specs.declared.word.Word.{Word}
use Rattle.ir_types.specs.declared.«module».Module.{Module}
use Rattle.ir_types.specs.declared.«module».Function.{Function}
use Rattle.ir_types.specs.declared.«module».GlobalVar.{GlobalVar}
use Rattle.run_types.specs.declared.run.Run.{Run}
use Rattle.run_types.specs.declared.run.Outcome.TheVariants.{Exit, Spent}
use Rattle.machine_model.specs.Run.{run_of}
use Rattle.machine_model.specs.System.{machine_of}

abbrev pub one : Word
one = record { width = W32; bits = 1; in_range = lit< tt }

abbrev pub zero : Word
zero = record { width = W32; bits = 0; in_range = lit< tt }

abbrev pub null : Word
null = record { width = W64; bits = 0; in_range = lit< tt }

abbrev pub at_g : Word
at_g = record { width = W64; bits = 4294967296; in_range = lit< tt }

abbrev pub at_t : Word
at_t = record { width = W64; bits = 4294967328; in_range = lit< tt }

abbrev pub g : GlobalVar
g = record { name = 103 ∷ []; size = 4; constant = false; base = 4294967296; image = 64 ∷ 0 ∷ 0 ∷ 0 ∷ [] }

abbrev pub t : GlobalVar
t = record {
  name = 116 ∷ [];
  size = 8;
  constant = false;
  base = 4294967328;
  image = 0 ∷ 0 ∷ 0 ∷ 0 ∷ 0 ∷ 0 ∷ 0 ∷ 0 ∷ [];
}

abbrev pub a : Function
a = record {
  name = 97 ∷ [];
  params = Ptr ∷ [];
  result = Some Ptr;
  blocks = record {
    first = 0;
    insts = Load 1 (Int W32) (Constant at_g)
        ∷ Binary 2 Add (Register 1) (Constant one)
        ∷ Store (Int W32) (Register 2) (Constant at_g)
        ∷ Ret (Some (Constant null))
        ∷ [];
  } ∷ [];
  registers = Ptr ∷ Int W32 ∷ Int W32 ∷ [];
}

abbrev pub main : Function
main = record {
  name = 109 ∷ 97 ∷ 105 ∷ 110 ∷ [];
  params = [];
  result = Some (Int W32);
  blocks = record {
    first = 0;
    insts = External (Some 0) (Create 0) (Constant at_t ∷ Constant null ∷ Constant null ∷ [])
        ∷ Load 1 (Int W64) (Constant at_t)
        ∷ External (Some 2) Join (Register 1 ∷ Constant null ∷ [])
        ∷ Load 3 (Int W32) (Constant at_g)
        ∷ External (Some 4) Putchar (Register 3 ∷ [])
        ∷ Ret (Some (Constant zero))
        ∷ [];
  } ∷ [];
  registers = Int W32 ∷ Int W64 ∷ Int W32 ∷ Int W32 ∷ Int W32 ∷ [];
}

abbrev pub example : Module
example = record { globals = g ∷ t ∷ []; functions = a ∷ main ∷ []; main = 1 }

-- the run that begins with two turns of main, within a budget of steps; it reads no input
abbrev pub run_within : Input → ℕ → Run
run_within input steps =
    run_of (machine_of (record { code = example; input = input; watch = [] })) (0 ∷ 0 ∷ []) steps

abbrev pub whole : Run
whole = record {
  turns = 0 ∷ 0 ∷ 1 ∷ 1 ∷ 0 ∷ 0 ∷ 0 ∷ [];
  decisions = 4294967328 ∷ 4294967328 ∷ 1 ∷ 0 ∷ 4294967296 ∷ 4294967296 ∷ 4294967296 ∷ [];
  output = record { kind = Byte; bits = 65 } ∷ record { kind = Status; bits = 0 } ∷ [];
  outcome = Exit 0;
}

-- with 5 steps the thread's addition is cut
abbrev pub cut_in_thread : Run
cut_in_thread = record {
  turns = 0 ∷ 0 ∷ 1 ∷ [];
  decisions = 4294967328 ∷ 4294967328 ∷ 1 ∷ 0 ∷ 4294967296 ∷ [];
  output = [];
  outcome = Spent;
}

-- with 12 steps main's return is cut
abbrev pub cut_at_end : Run
cut_at_end = record {
  turns = 0 ∷ 0 ∷ 1 ∷ 1 ∷ 0 ∷ 0 ∷ 0 ∷ [];
  decisions = 4294967328 ∷ 4294967328 ∷ 1 ∷ 0 ∷ 4294967296 ∷ 4294967296 ∷ 4294967296 ∷ [];
  output = record { kind = Byte; bits = 65 } ∷ [];
  outcome = Spent;
}

-- how many turns the run has within each budget from 0 to 13: its turns cost 1, 2, 4, 1, 2, 2 and 1
abbrev pub turn_counts : List ℕ
turn_counts = 1 ∷ 2 ∷ 2 ∷ 3 ∷ 3 ∷ 3 ∷ 3 ∷ 4 ∷ 5 ∷ 5 ∷ 6 ∷ 6 ∷ 7 ∷ 7 ∷ []
