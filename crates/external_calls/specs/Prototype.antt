-- The functions outside of the module that a module may call, each with its prototype, as in a declaration of the LLVM
-- Language Reference: those of POSIX.1's threads, of the C standard's library, of LLVM's intrinsics, and inputs. An `int`
-- is an i32, a `size_t` and a `pthread_t` are i64.
use Rattle.std.specs.Prelude.{ℕ, Bool, true, false, List, [], ◌∷◌, Option, Some, None, codes, bytes_eq, if◌then◌else◌}
use Rattle.ir_types.specs.declared.external.Extern.{Extern}
use Rattle.ir_types.specs.declared.external.Extern.TheVariants as e
use Rattle.ir_types.specs.declared.word.Kind.{Kind}
use Rattle.ir_types.specs.declared.word.Kind.TheVariants.{Int, Ptr}
use Rattle.ir_types.specs.declared.word.Width.{Width}
use Rattle.ir_types.specs.declared.word.Width.TheVariants.{W1, W8, W16, W32, W64}
use Rattle.external_calls.specs.declared.call.ExternalCall.{ExternalCall}
use Rattle.external_calls.specs.declared.call.ExternalCall.TheVariants as c
use Rattle.external_calls.specs.declared.prototype.Parameter.{Parameter}
use Rattle.external_calls.specs.declared.prototype.Parameter.TheVariants as p

-- ---- the table

pub record Prototype : Type 0 where
  pub result : Option Kind
  pub name : List ℕ
  pub parameters : List Parameter
  pub more : Bool

abbrev pub row : Option Kind → List ℕ → List Parameter → Prototype
row result name parameters = record { result = result; name = name; parameters = parameters; more = false }

-- further arguments may follow
abbrev pub row_and_more : Option Kind → List ℕ → List Parameter → Prototype
row_and_more result name parameters = record { result = result; name = name; parameters = parameters; more = true }

abbrev pub void : Option Kind
void = None

abbrev pub an : Kind → Option Kind
an kind = Some kind

abbrev pub i1 : Parameter
i1 = p.Value (Int W1)

abbrev pub i8 : Parameter
i8 = p.Value (Int W8)

abbrev pub i32 : Parameter
i32 = p.Value (Int W32)

abbrev pub i64 : Parameter
i64 = p.Value (Int W64)

abbrev pub ptr : Parameter
ptr = p.Value Ptr

abbrev pub prototype : ExternalCall → Prototype
prototype c.Create = row (an (Int W32)) (codes "pthread_create") (ptr ∷ ptr ∷ p.StartRoutine ∷ ptr ∷ [])
prototype c.Join = row (an (Int W32)) (codes "pthread_join") (i64 ∷ ptr ∷ [])
prototype c.ThreadExit = row void (codes "pthread_exit") (ptr ∷ [])
prototype c.SelfNumber = row (an (Int W64)) (codes "pthread_self") []
prototype c.MutexInit = row (an (Int W32)) (codes "pthread_mutex_init") (ptr ∷ ptr ∷ [])
prototype c.MutexDestroy = row (an (Int W32)) (codes "pthread_mutex_destroy") (ptr ∷ [])
prototype c.Lock = row (an (Int W32)) (codes "pthread_mutex_lock") (ptr ∷ [])
prototype c.TryLock = row (an (Int W32)) (codes "pthread_mutex_trylock") (ptr ∷ [])
prototype c.Unlock = row (an (Int W32)) (codes "pthread_mutex_unlock") (ptr ∷ [])
prototype c.CondInit = row (an (Int W32)) (codes "pthread_cond_init") (ptr ∷ ptr ∷ [])
prototype c.CondDestroy = row (an (Int W32)) (codes "pthread_cond_destroy") (ptr ∷ [])
prototype c.CondWait = row (an (Int W32)) (codes "pthread_cond_wait") (ptr ∷ ptr ∷ [])
prototype c.Signal = row (an (Int W32)) (codes "pthread_cond_signal") (ptr ∷ [])
prototype c.Broadcast = row (an (Int W32)) (codes "pthread_cond_broadcast") (ptr ∷ [])
prototype c.Yield = row (an (Int W32)) (codes "sched_yield") []
prototype c.Usleep = row (an (Int W32)) (codes "usleep") (i32 ∷ [])
prototype c.Sleep = row (an (Int W32)) (codes "sleep") (i32 ∷ [])
prototype c.Malloc = row (an Ptr) (codes "malloc") (i64 ∷ [])
prototype c.Calloc = row (an Ptr) (codes "calloc") (i64 ∷ i64 ∷ [])
prototype c.Free = row void (codes "free") (ptr ∷ [])
prototype c.Memcpy = row (an Ptr) (codes "memcpy") (ptr ∷ ptr ∷ i64 ∷ [])
prototype c.Memmove = row (an Ptr) (codes "memmove") (ptr ∷ ptr ∷ i64 ∷ [])
prototype c.Memset = row (an Ptr) (codes "memset") (ptr ∷ i32 ∷ i64 ∷ [])
prototype c.Strlen = row (an (Int W64)) (codes "strlen") (ptr ∷ [])
prototype c.LlvmMemcpy = row void (codes "llvm.memcpy.p0.p0.i64") (ptr ∷ ptr ∷ i64 ∷ i1 ∷ [])
prototype c.LlvmMemmove = row void (codes "llvm.memmove.p0.p0.i64") (ptr ∷ ptr ∷ i64 ∷ i1 ∷ [])
prototype c.LlvmMemset = row void (codes "llvm.memset.p0.i64") (ptr ∷ i8 ∷ i64 ∷ i1 ∷ [])
prototype c.Putchar = row (an (Int W32)) (codes "putchar") (i32 ∷ [])
prototype c.Puts = row (an (Int W32)) (codes "puts") (ptr ∷ [])
prototype c.Printf = row_and_more (an (Int W32)) (codes "printf") (p.Format ∷ [])
prototype c.Exit = row void (codes "exit") (i32 ∷ [])
prototype c.Abort = row void (codes "abort") []
prototype c.AssertFail = row void (codes "__assert_fail") (ptr ∷ ptr ∷ i32 ∷ ptr ∷ [])
prototype c.Input8 = row (an (Int W8)) (codes "rc_input_i8") (p.Slot ∷ [])
prototype c.Input16 = row (an (Int W16)) (codes "rc_input_i16") (p.Slot ∷ [])
prototype c.Input32 = row (an (Int W32)) (codes "rc_input_i32") (p.Slot ∷ [])
prototype c.Input64 = row (an (Int W64)) (codes "rc_input_i64") (p.Slot ∷ [])

unfoldable pub name_of : ExternalCall → List ℕ
name_of call = (prototype call).name

unfoldable pub result_of : ExternalCall → Option Kind
result_of call = (prototype call).result

unfoldable pub parameters_of : ExternalCall → List Parameter
parameters_of call = (prototype call).parameters

unfoldable pub is_variadic : ExternalCall → Bool
is_variadic call = (prototype call).more

-- the kind that is written before an argument: names are pointers, and a slot's number is an i32
abbrev pub kind_of : Parameter → Kind
kind_of (p.Value kind) = kind
kind_of p.StartRoutine = Ptr
kind_of p.Format = Ptr
kind_of p.Slot = Int W32

-- ---- by name

abbrev pub all : List ExternalCall
all =
    c.Create ∷ c.Join ∷ c.ThreadExit ∷ c.SelfNumber
    ∷ c.MutexInit ∷ c.MutexDestroy ∷ c.Lock ∷ c.TryLock ∷ c.Unlock
    ∷ c.CondInit ∷ c.CondDestroy ∷ c.CondWait ∷ c.Signal ∷ c.Broadcast
    ∷ c.Yield ∷ c.Usleep ∷ c.Sleep
    ∷ c.Malloc ∷ c.Calloc ∷ c.Free ∷ c.Memcpy ∷ c.Memmove ∷ c.Memset ∷ c.Strlen
    ∷ c.LlvmMemcpy ∷ c.LlvmMemmove ∷ c.LlvmMemset
    ∷ c.Putchar ∷ c.Puts ∷ c.Printf ∷ c.Exit ∷ c.Abort ∷ c.AssertFail
    ∷ c.Input8 ∷ c.Input16 ∷ c.Input32 ∷ c.Input64 ∷ []

abbrev pub find : List ExternalCall → List ℕ → Option ExternalCall
find [] name = None
find (call ∷ calls) name = if bytes_eq name (name_of call) then Some call else find calls name

unfoldable pub by_name : List ℕ → Option ExternalCall
by_name name = find all name

-- ---- what a call is for

-- it writes to standard output
unfoldable pub is_output : ExternalCall → Bool
is_output c.Putchar = true
is_output c.Puts = true
is_output c.Printf = true
is_output _ = false

-- the width of the input that it gives
unfoldable pub input_width : ExternalCall → Option Width
input_width c.Input8 = Some W8
input_width c.Input16 = Some W16
input_width c.Input32 = Some W32
input_width c.Input64 = Some W64
input_width _ = None

-- the call as an instruction has it, where that has no function, format or slot besides
unfoldable pub extern_of : ExternalCall → Option Extern
extern_of c.Join = Some e.Join
extern_of c.ThreadExit = Some e.ThreadExit
extern_of c.SelfNumber = Some e.SelfNumber
extern_of c.MutexInit = Some e.MutexInit
extern_of c.MutexDestroy = Some e.MutexDestroy
extern_of c.Lock = Some e.Lock
extern_of c.TryLock = Some e.TryLock
extern_of c.Unlock = Some e.Unlock
extern_of c.CondInit = Some e.CondInit
extern_of c.CondDestroy = Some e.CondDestroy
extern_of c.CondWait = Some e.CondWait
extern_of c.Signal = Some e.Signal
extern_of c.Broadcast = Some e.Broadcast
extern_of c.Yield = Some e.Yield
extern_of c.Usleep = Some e.Usleep
extern_of c.Sleep = Some e.Sleep
extern_of c.Malloc = Some e.Malloc
extern_of c.Calloc = Some e.Calloc
extern_of c.Free = Some e.Free
extern_of c.Memcpy = Some e.Memcpy
extern_of c.Memmove = Some e.Memmove
extern_of c.Memset = Some e.Memset
extern_of c.Strlen = Some e.Strlen
extern_of c.LlvmMemcpy = Some e.LlvmMemcpy
extern_of c.LlvmMemmove = Some e.LlvmMemmove
extern_of c.LlvmMemset = Some e.LlvmMemset
extern_of c.Putchar = Some e.Putchar
extern_of c.Puts = Some e.Puts
extern_of c.Exit = Some e.Exit
extern_of c.Abort = Some e.Abort
extern_of c.AssertFail = Some e.AssertFail
extern_of _ = None
