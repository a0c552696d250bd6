-- When two states are one, and their threads, objects, locks and conditions: as `==` says.
use Rattle.std.proofs.Common.{◌≡◌, ap, Bool, eqb, false, List, Option, Some, None, refl, rules, true, ℕ}
use Rattle.std.specs.Bool.{Decides}
use Rattle.std.specs.Prelude.{◌&&◌}
use Rattle.std.specs.Cmp.{booleans_Decides}
use Rattle.std.specs.Cmp.Lexicographic.{pointwise}
use Rattle.std.specs.Option.{option_eq}
use Rattle.std.proofs.lemmas.Bool.{false≢true}
use Rattle.std.proofs.lemmas.Bool.Decides.{Decides-and, Decides-eqb, Decides-like}
use Rattle.std.proofs.lemmas.Slice.Eq.{slice_eq-Decides}
use denote.Enum.Bare.{same_true, sameb, true_same}
use Rattle.ir_types.specs.contracts.external.ItemKind as item_kind
use Rattle.ir_types.specs.contracts.instruction.SitePartialEq.TheImpl as site
use Rattle.ir_types.specs.declared.external.ItemKind.{ItemKind}
use Rattle.ir_types.specs.declared.instruction.Site.{Site}
use Rattle.machine_model.specs.contracts.state.ConditionPartialEq.TheImpl as condition
use Rattle.machine_model.specs.contracts.state.FramePartialEq.TheImpl as frame
use Rattle.machine_model.specs.contracts.state.LockPartialEq.TheImpl as lock
use Rattle.machine_model.specs.contracts.state.ObjectKind as object_kind
use Rattle.machine_model.specs.contracts.state.ObjectPartialEq.TheImpl as object
use Rattle.machine_model.specs.contracts.state.OperationPartialEq.TheImpl as operation
use Rattle.run_types.specs.contracts.out_item.OutItemPartialEq.TheImpl as item
use Rattle.machine_model.specs.contracts.state.StatePartialEq.TheImpl as state
use Rattle.machine_model.specs.contracts.state.ThreadPartialEq.TheImpl as thread
use Rattle.machine_model.specs.declared.state.Condition.{Condition}
use Rattle.machine_model.specs.declared.state.Frame.{Frame}
use Rattle.machine_model.specs.declared.state.Lock.{Lock}
use Rattle.machine_model.specs.declared.state.Object.{Object}
use Rattle.machine_model.specs.declared.state.ObjectKind.{ObjectKind}
use Rattle.machine_model.specs.declared.state.Operation.{Operation}
use Rattle.machine_model.specs.declared.state.Operation.TheVariants.{Start, At, CondReturn, Nothing}
use Rattle.run_types.specs.declared.out_item.OutItem.{OutItem}
use Rattle.machine_model.specs.declared.state.State.{State}
use Rattle.machine_model.specs.declared.state.Thread.{Thread}

-- what is never equal is told apart
pub apart : {P : Type 0} → ¬ P → Decides false P
apart never = (λ e. absurd (false≢true e), λ e. absurd (never e))

pub always : {P : Type 0} → P → Decides true P
always p = (λ _. p, λ _. refl)

option_decides : {A : Type 0} {E : A → A → Bool} → ((x y : A) → Decides (E x y) (x ≡ y)) → (x y : Option A) →
    Decides (option_eq E x y) (x ≡ y)
option_decides decides None None = always refl
option_decides decides None (Some y) = apart (λ e. cc)
option_decides decides (Some x) None = apart (λ e. cc)
option_decides decides (Some x) (Some y) = Decides-like _ (ap Some) (λ e. cc) (decides x y)

list_decides : {A : Type 0} {E : A → A → Bool} → ((x y : A) → Decides (E x y) (x ≡ y)) → (x y : List A) →
    Decides (pointwise E x y) (x ≡ y)
list_decides decides x y = slice_eq-Decides decides x y _ refl

site_decides : (x y : Site) → Decides ((site.ghosts).eq x y) (x ≡ y)
site_decides x y =
    Decides-like _ (λ p i. record { function = p.0 i; inst = p.1 i })
    (λ e. (ap (λ z. z.function) e, ap (λ z. z.inst) e))
    (Decides-and _ _ (Decides-eqb x.function y.function)
    (Decides-eqb x.inst y.inst))

frame_decides : (x y : Frame) → Decides ((frame.ghosts).eq x y) (x ≡ y)
frame_decides x y =
    Decides-like _ (λ p i. record {
      function = p.0 i;
      block = p.1.0 i;
      place = p.1.1.0 i;
      registers = p.1.1.1.0 i;
      stack = p.1.1.1.1 i;
    })
    (λ e. (ap (λ z. z.function) e, (ap (λ z. z.block) e, (ap (λ z. z.place) e, (ap (λ z. z.registers) e, ap (λ z. z.stack) e)))))
    (Decides-and _ _ (Decides-eqb x.function y.function)
    (Decides-and _ _ (Decides-eqb x.block y.block)
    (Decides-and _ _ (Decides-eqb x.place y.place)
    (Decides-and _ _ (list_decides Decides-eqb x.registers y.registers)
    (list_decides Decides-eqb x.stack y.stack)))))

-- the parts of an operation, where both are of one kind
parts_decide : (make : Site → List ℕ → Operation) →
    ((one other : Site) (decided others : List ℕ) → make one decided ≡ make other others →
    (one ≡ other) × (decided ≡ others)) →
    (one other : Site) (decided others : List ℕ) →
    Decides ((site.ghosts).eq one other && pointwise eqb decided others) (make one decided ≡ make other others)
parts_decide make parts one other decided others =
    Decides-like _ (λ p i. make (p.0 i) (p.1 i)) (parts one other decided others)
    (Decides-and _ _ (site_decides one other) (list_decides Decides-eqb decided others))

operation_decides : (x y : Operation) → Decides ((operation.ghosts).eq x y) (x ≡ y)
operation_decides Start Start = always refl
operation_decides Start (At other others) = apart (λ e. cc)
operation_decides Start (CondReturn other others) = apart (λ e. cc)
operation_decides Start Nothing = apart (λ e. cc)
operation_decides (At site decided) Start = apart (λ e. cc)
operation_decides (At site decided) (At other others) =
    parts_decide At (λ one two three four e. (cc, cc)) site other decided others
operation_decides (At site decided) (CondReturn other others) = apart (λ e. cc)
operation_decides (At site decided) Nothing = apart (λ e. cc)
operation_decides (CondReturn site decided) Start = apart (λ e. cc)
operation_decides (CondReturn site decided) (At other others) = apart (λ e. cc)
operation_decides (CondReturn site decided) (CondReturn other others) =
    parts_decide CondReturn (λ one two three four e. (cc, cc)) site other decided others
operation_decides (CondReturn site decided) Nothing = apart (λ e. cc)
operation_decides Nothing Start = apart (λ e. cc)
operation_decides Nothing (At other others) = apart (λ e. cc)
operation_decides Nothing (CondReturn other others) = apart (λ e. cc)
operation_decides Nothing Nothing = always refl

thread_decides : (x y : Thread) → Decides ((thread.ghosts).eq x y) (x ≡ y)
thread_decides x y =
    Decides-like _ (λ p i. record {
      frames = p.0 i;
      pending = p.1.0 i;
      ended = p.1.1.0 i;
      joined = p.1.1.1 i;
    })
    (λ e. (ap (λ z. z.frames) e, (ap (λ z. z.pending) e, (ap (λ z. z.ended) e, ap (λ z. z.joined) e))))
    (Decides-and _ _ (list_decides frame_decides x.frames y.frames)
    (Decides-and _ _ (operation_decides x.pending y.pending)
    (Decides-and _ _ (option_decides Decides-eqb x.ended y.ended)
    (booleans_Decides x.joined y.joined))))

object_kind_decides : (x y : ObjectKind) → Decides (sameb object_kind.the_type x y) (x ≡ y)
object_kind_decides x y = (same_true object_kind.the_type (search rules) x y, true_same object_kind.the_type x y)

object_decides : (x y : Object) → Decides ((object.ghosts).eq x y) (x ≡ y)
object_decides x y =
    Decides-like _ (λ p i. record {
      base = p.0 i;
      size = p.1.0 i;
      maker = p.1.1.0 i;
      kind = p.1.1.1.0 i;
      live = p.1.1.1.1.0 i;
      bytes = p.1.1.1.1.1 i;
    })
    (λ e. (ap (λ z. z.base) e, (ap (λ z. z.size) e, (ap (λ z. z.maker) e, (ap (λ z. z.kind) e, (ap (λ z. z.live) e, ap (λ z. z.bytes) e))))))
    (Decides-and _ _ (Decides-eqb x.base y.base)
    (Decides-and _ _ (Decides-eqb x.size y.size)
    (Decides-and _ _ (Decides-eqb x.maker y.maker)
    (Decides-and _ _ (object_kind_decides x.kind y.kind)
    (Decides-and _ _ (booleans_Decides x.live y.live)
    (list_decides Decides-eqb x.bytes y.bytes))))))

lock_decides : (x y : Lock) → Decides ((lock.ghosts).eq x y) (x ≡ y)
lock_decides x y =
    Decides-like _ (λ p i. record { at = p.0 i; owner = p.1 i })
    (λ e. (ap (λ z. z.at) e, ap (λ z. z.owner) e))
    (Decides-and _ _ (Decides-eqb x.at y.at)
    (Decides-eqb x.owner y.owner))

condition_decides : (x y : Condition) → Decides ((condition.ghosts).eq x y) (x ≡ y)
condition_decides x y =
    Decides-like _ (λ p i. record { at = p.0 i; waiters = p.1 i })
    (λ e. (ap (λ z. z.at) e, ap (λ z. z.waiters) e))
    (Decides-and _ _ (Decides-eqb x.at y.at)
    (list_decides Decides-eqb x.waiters y.waiters))

item_kind_decides : (x y : ItemKind) → Decides (sameb item_kind.the_type x y) (x ≡ y)
item_kind_decides x y = (same_true item_kind.the_type (search rules) x y, true_same item_kind.the_type x y)

item_decides : (x y : OutItem) → Decides ((item.ghosts).eq x y) (x ≡ y)
item_decides x y =
    Decides-like _ (λ p i. record { kind = p.0 i; bits = p.1 i })
    (λ e. (ap (λ z. z.kind) e, ap (λ z. z.bits) e))
    (Decides-and _ _ (item_kind_decides x.kind y.kind)
    (Decides-eqb x.bits y.bits))

pub state_decides : (x y : State) → Decides ((state.ghosts).eq x y) (x ≡ y)
state_decides x y =
    Decides-like _ (λ p i. record {
      threads = p.0 i;
      objects = p.1.0 i;
      locks = p.1.1.0 i;
      conditions = p.1.1.1.0 i;
      output = p.1.1.1.1 i;
    })
    (λ e. (ap (λ z. z.threads) e, (ap (λ z. z.objects) e, (ap (λ z. z.locks) e, (ap (λ z. z.conditions) e, ap (λ z. z.output) e)))))
    (Decides-and _ _ (list_decides thread_decides x.threads y.threads)
    (Decides-and _ _ (list_decides object_decides x.objects y.objects)
    (Decides-and _ _ (list_decides lock_decides x.locks y.locks)
    (Decides-and _ _ (list_decides condition_decides x.conditions y.conditions)
    (list_decides item_decides x.output y.output)))))
