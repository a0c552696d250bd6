-- Worked races. Each module has the globals
--
--   @g = global i32 0
--   @t = global i64 0
--   @u = global i64 0
--
-- and two threads, 1 and 2, which main makes in this order. Thread 1 stores 65 to @g in its second turn, and thread
-- 2 stores 66 to it:
--
--   differing   main joins both and prints @g; the last store decides
--   ordered     thread 2 joins thread 1 before its store
--   leaving     the same, and main returns without joining
use Rattle.std.specs.Prelude.{ℕ, List, [], ◌∷◌, ◌++◌, Option, Some, None, false}
use Rattle.std.proofs.Common.{lit<}
use Rattle.ir_types.specs.declared.external.Extern.TheVariants.{Create, Join, Putchar}
use Rattle.ir_types.specs.declared.external.ItemKind.TheVariants.{Byte, Status}
use Rattle.ir_types.specs.declared.input.Input.{Input}
use Rattle.ir_types.specs.declared.instruction.Inst.{Inst}
use Rattle.ir_types.specs.declared.instruction.Inst.TheVariants.{Load, Store, Ret, External}
use Rattle.ir_types.specs.declared.instruction.Operand.TheVariants.{Register, Constant}
use Rattle.ir_types.specs.declared.instruction.Site.{Site}
use Rattle.ir_types.specs.declared.word.Kind.TheVariants.{Int, Ptr}
use Rattle.ir_types.specs.declared.word.Width.TheVariants.{W32, W64}
use Rattle.ir_types.specs.declared.word.Word.{Word}
use Rattle.ir_types.specs.declared.«module».Module.{Module}
use Rattle.ir_types.specs.declared.«module».Function.{Function}
use Rattle.ir_types.specs.declared.«module».GlobalVar.{GlobalVar}
use Rattle.run_types.specs.declared.case.Case.{Case}
use Rattle.run_types.specs.declared.race.Race.{Race}
use Rattle.run_types.specs.declared.run.Outcome.{Outcome}
use Rattle.run_types.specs.declared.run.Run.{Run}
use Rattle.run_types.specs.declared.out_item.OutItem.{OutItem}
use Rattle.machine_laws.specs.Example.{at_g, at_t, null, t, zero}
use Rattle.machine_model.specs.Job.{Alternate, AlternateJob, PrimaryJob}
use Rattle.machine_model.specs.Job.Alternate.{Ran, Not, Absent}

abbrev pub byte_65 : Word
byte_65 = record { width = W32; bits = 65; in_range = lit< tt }

abbrev pub byte_66 : Word
byte_66 = record { width = W32; bits = 66; in_range = lit< tt }

abbrev pub number_1 : Word
number_1 = record { width = W64; bits = 1; in_range = lit< tt }

abbrev pub at_u : Word
at_u = record { width = W64; bits = 4294967360; in_range = lit< tt }

abbrev pub g : GlobalVar
g = record { name = 103 ∷ []; size = 4; constant = false; base = 4294967296; image = 0 ∷ 0 ∷ 0 ∷ 0 ∷ [] }

abbrev pub u : GlobalVar
u = record t { name = 117 ∷ []; base = 4294967360 }

abbrev pub thread_function : List Inst → Function
thread_function insts = record {
  name = 97 ∷ [];
  params = Ptr ∷ [];
  result = Some Ptr;
  blocks = record { first = 0; insts = insts ++ Ret (Some (Constant null)) ∷ [] } ∷ [];
  registers = Ptr ∷ Int W32 ∷ [];
}

abbrev pub main_function : List Inst → Function
main_function insts = record {
  name = 109 ∷ 97 ∷ 105 ∷ 110 ∷ [];
  params = [];
  result = Some (Int W32);
  blocks = record { first = 0; insts = insts ++ Ret (Some (Constant zero)) ∷ [] } ∷ [];
  registers = Int W32 ∷ Int W32 ∷ Int W64 ∷ Int W32 ∷ Int W64 ∷ Int W32 ∷ Int W32 ∷ Int W32 ∷ [];
}

abbrev pub threads_made : List Inst
threads_made =
    External (Some 0) (Create 0) (Constant at_t ∷ Constant null ∷ Constant null ∷ [])
    ∷ External (Some 1) (Create 1) (Constant at_u ∷ Constant null ∷ Constant null ∷ []) ∷ []

abbrev pub threads_joined : List Inst
threads_joined =
    Load 2 (Int W64) (Constant at_t) ∷ External (Some 3) Join (Register 2 ∷ Constant null ∷ [])
    ∷ Load 4 (Int W64) (Constant at_u) ∷ External (Some 5) Join (Register 4 ∷ Constant null ∷ []) ∷ []

abbrev pub printed : List Inst
printed = Load 6 (Int W32) (Constant at_g) ∷ External (Some 7) Putchar (Register 6 ∷ []) ∷ []

abbrev pub stores : Word → Inst
stores word = Store (Int W32) (Constant word) (Constant at_g)

abbrev pub joins_first : Inst
joins_first = External (Some 1) Join (Constant number_1 ∷ Constant null ∷ [])

abbrev pub example : List Inst → List Inst → Module
example second main = record {
  globals = g ∷ t ∷ u ∷ [];
  functions = thread_function (stores byte_65 ∷ []) ∷ thread_function second ∷ main_function (threads_made ++ main) ∷ [];
  main = 2;
}

abbrev pub differing : Module
differing = example (stores byte_66 ∷ []) (threads_joined ++ printed)

abbrev pub ordered : Module
ordered = example (joins_first ∷ stores byte_66 ∷ []) (threads_joined ++ printed)

abbrev pub leaving : Module
leaving = example (joins_first ∷ stores byte_66 ∷ []) []

abbrev pub site_of : ℕ → ℕ → Site
site_of function inst = record { function = function; inst = inst }

-- the stores are watched, that of thread 2 with this number; a budget of steps; the recorded turns
abbrev pub case_of : Input → ℕ → ℕ → List ℕ → Case
case_of input second steps turns = record {
  seed = 7;
  steps = steps;
  visits = 1;
  paths = 1;
  schedules = 1;
  input = input;
  watch = site_of 0 0 ∷ site_of 1 second ∷ [];
  turns = turns;
  races = [];
}

-- the race of thread 1's second turn, and the store of thread 2
abbrev pub race_of : ℕ → ℕ → ℕ → Race
race_of first second inst =
    record { first = first; second = second; t1 = 1; v1 = 2; s1 = site_of 0 0; t2 = 2; s2 = site_of 1 inst }

-- what a report tells of a run
pub record Shown : Type 0 where
  pub turns : List ℕ
  pub output : List OutItem
  pub outcome : Outcome

abbrev pub shown_run : Run → Shown
shown_run run = record { turns = run.turns; output = run.output; outcome = run.outcome }

abbrev pub shown : Alternate → Option Shown
shown (Ran run) = Some (shown_run run)
shown (Not reason turns) = None
shown Absent = None

abbrev pub printed_byte : ℕ → List OutItem
printed_byte byte = record { kind = Byte; bits = byte } ∷ []

abbrev pub whole_output : ℕ → List OutItem
whole_output byte = record { kind = Byte; bits = byte } ∷ record { kind = Status; bits = 0 } ∷ []

abbrev pub both_turns : List ℕ
both_turns = 0 ∷ 0 ∷ 0 ∷ 1 ∷ 2 ∷ 1 ∷ 2 ∷ 1 ∷ 2 ∷ 0 ∷ 0 ∷ 0 ∷ 0 ∷ []

abbrev pub ordered_turns : List ℕ
ordered_turns = 0 ∷ 0 ∷ 0 ∷ 1 ∷ 2 ∷ 1 ∷ 1 ∷ 2 ∷ 2 ∷ 2 ∷ 0 ∷ 0 ∷ 0 ∷ 0 ∷ []

abbrev pub leaving_turns : List ℕ
leaving_turns = 0 ∷ 0 ∷ 0 ∷ 1 ∷ 1 ∷ 1 ∷ 2 ∷ 2 ∷ 2 ∷ 0 ∷ []

-- the first two stores, after which threads take turns by their numbers
abbrev pub first_turns : List ℕ
first_turns = 0 ∷ 0 ∷ 0 ∷ 1 ∷ 2 ∷ 1 ∷ 2 ∷ []

-- the two orders of the example `differing`, within a budget of steps
abbrev pub recorded_order : Input → List ℕ → ℕ → Shown
recorded_order input turns steps = shown_run (PrimaryJob differing (case_of input 0 steps turns) input)

abbrev pub other_order : Input → List ℕ → ℕ → Option Shown
other_order input turns steps =
    shown (AlternateJob differing (case_of input 0 steps turns) (race_of 6 7 0) input 1)

-- thread 2's store comes first and then thread 1's; the rest as recorded
abbrev pub turned_round : List ℕ
turned_round = 0 ∷ 0 ∷ 0 ∷ 1 ∷ 2 ∷ 2 ∷ 1 ∷ 1 ∷ 2 ∷ 0 ∷ 0 ∷ 0 ∷ 0 ∷ []

-- or by the threads' numbers
abbrev pub turned_by_numbers : List ℕ
turned_by_numbers = 0 ∷ 0 ∷ 0 ∷ 1 ∷ 2 ∷ 2 ∷ 1 ∷ 2 ∷ 1 ∷ 0 ∷ 0 ∷ 0 ∷ 0 ∷ []

abbrev pub up_to_join : List ℕ
up_to_join = 0 ∷ 0 ∷ 0 ∷ 1 ∷ 2 ∷ 1 ∷ 2 ∷ 1 ∷ 2 ∷ 0 ∷ 0 ∷ []

abbrev pub ordered_alternate : Input → Alternate
ordered_alternate input = AlternateJob ordered (case_of input 1 1000 ordered_turns) (race_of 6 9 1) input 1

abbrev pub leaving_alternate : Input → Alternate
leaving_alternate input = AlternateJob leaving (case_of input 1 1000 leaving_turns) (race_of 5 9 1) input 1
