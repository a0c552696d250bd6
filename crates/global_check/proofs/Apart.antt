-- Globals whose sizes pass nothing lie apart.
use Rattle.std.proofs.Common.{◌≡◌, ℕ, ◌+◌, ◌*◌, ◌%◌, ◌^◌, ◌<◌, ◌≤◌, List, [], ◌∷◌, ◌++◌, length, length-append, sum, None, refl, ◌∙◌, subst, arith, leb-true}
use Rattle.std.proofs.lemmas.List.Sums.{sum_by-append}
use Rattle.ir_items.specs.declared.item.ItemForm.{ItemForm}
use Rattle.ir_items.specs.declared.item.ItemForm.TheVariants as forms
use Rattle.ir_items.specs.Item.{form_of}
use Rattle.ir_items.specs.Segment.{Segment}
use Rattle.module_fault.specs.declared.cause.Cause.TheVariants.{BadShape}
use Rattle.struct_table.specs.StructTable.{Structs}
use Rattle.global_check.specs.declared.placed.PlacedGlobals.{PlacedGlobals}
use Rattle.global_check.specs.Laws.{AreApart, BeginsFirst, LieApart}
use Rattle.global_check.specs.Placed.{behind, capped, first_address, most_bytes, none_placed, placed, placed_from, size_of, with_form, with_size}
use Rattle.global_check.proofs.Faults.{note_none, unless_none}

-- ---- no fault in the end, and so none before

fits : (done : PlacedGlobals) (line size : ℕ) → (with_size done line size).first ≡ None →
    (done.first ≡ None) × (capped (done.total + size) ≤ most_bytes)
fits done line size none =
    let are = note_none done.first line _ none in
    (are.0, leb-true (capped (done.total + size)) most_bytes (unless_none _ BadShape are.1))

none_before_form : (form : ItemForm) (structs : Structs) (done : PlacedGlobals) (item : Segment) →
    (with_form form structs done item).first ≡ None → done.first ≡ None
none_before_form forms.Global structs done item none = (fits done item.first.line (size_of structs item) none).0
none_before_form _ structs done item none = none

none_before : (structs : Structs) (done : PlacedGlobals) (items : List Segment) → (placed_from structs done items).first ≡ None →
    done.first ≡ None
none_before structs done [] none = none
none_before structs done (item ∷ items) none =
    none_before_form (form_of item) structs done item (none_before structs (with_form (form_of item) structs done item) items none)

total_with : (form : ItemForm) (structs : Structs) (done : PlacedGlobals) (item : Segment) → done.total ≤ most_bytes →
    (with_form form structs done item).first ≡ None → (with_form form structs done item).total ≤ most_bytes
total_with forms.Global structs done item small none = (fits done item.first.line (size_of structs item) none).1
total_with _ structs done item small none = small

pub total_small : (structs : Structs) (done : PlacedGlobals) (items : List Segment) → done.total ≤ most_bytes →
    (placed_from structs done items).first ≡ None → (placed_from structs done items).total ≤ most_bytes
total_small structs done [] small none = small
total_small structs done (item ∷ items) small none =
    let more = with_form (form_of item) structs done item in
    total_small structs more items (total_with (form_of item) structs done item small (none_before structs more items none)) none

-- ---- one more

sum_more : (sizes : List ℕ) (size : ℕ) → sum (sizes ++ size ∷ []) ≡ sum sizes + size
sum_more sizes size = sum_by-append (λ number. number) sizes (size ∷ []) ∙ omega arith

begin_more : (addresses : List ℕ) (next further : ℕ) → BeginsFirst addresses next → BeginsFirst (addresses ++ next ∷ []) further
begin_more [] next further is = is
begin_more (address ∷ addresses) next further is = is

apart_more : (least : ℕ) (addresses sizes : List ℕ) (next size end : ℕ) → LieApart least addresses sizes next → next % 16 ≡ 0 →
    next + size + 16 ≤ end → LieApart least (addresses ++ next ∷ []) (sizes ++ size ∷ []) end
apart_more least [] [] next size end are multiple within = (are, multiple, within)
apart_more least (address ∷ addresses) (size ∷ sizes) next more end are multiple within =
    (are.0, are.1, apart_more (address + size + 16) addresses sizes next more end are.2 multiple within)
apart_more least [] (size ∷ sizes) next more end are multiple within = absurd are
apart_more least (address ∷ addresses) [] next more end are multiple within = absurd are

-- where nothing is cut
record Behind (base size : ℕ) : Type 0 where
  multiple : behind base size % 16 ≡ 0
  least : base + size + 16 ≤ behind base size
  most : behind base size ≤ base + size + 31

lies_behind : (base size : ℕ) → base + size < 2 ^ 63 → Behind base size
lies_behind base size small = record { multiple = omega (arith, small); least = omega (arith, small); most = omega (arith, small) }

-- ---- of the globals so far

record AreSoFar (number : ℕ) (done : PlacedGlobals) : Type 0 where
  begin : BeginsFirst done.addresses done.next
  apart : LieApart first_address done.addresses done.sizes done.next
  multiple : done.next % 16 ≡ 0
  near : done.next ≤ first_address + done.total + 31 * length done.addresses
  few : length done.addresses ≤ number
  all : done.total ≡ sum done.sizes
  small : done.total ≤ most_bytes

one_more : (number : ℕ) (done : PlacedGlobals) (line size : ℕ) → number < 2 ^ 32 → (with_size done line size).first ≡ None →
    AreSoFar number done → AreSoFar (number + 1) (with_size done line size)
one_more number done line size short none are =
    let within = (fits done line size none).1 in
    let whole : capped (done.total + size) ≡ done.total + size = omega (arith, within) in
    let low : done.next + size < 2 ^ 63 = omega (arith, short, within, are.near, are.few, are.small) in
    let next = lies_behind done.next size low in
    let count = length-append done.addresses (done.next ∷ []) in
    record {
      begin = begin_more done.addresses done.next (behind done.next size) are.begin;
      apart = apart_more first_address done.addresses done.sizes done.next size (behind done.next size) are.apart are.multiple next.least;
      multiple = next.multiple;
      near = let near = are.near in let most = next.most in omega (arith, near, most, whole, count);
      few = let few = are.few in omega (arith, few, count);
      all = let all = are.all in let more = sum_more done.sizes size in omega (arith, all, more, whole);
      small = within;
    }

more_items : (number : ℕ) (done : PlacedGlobals) → AreSoFar number done → AreSoFar (number + 1) done
more_items number done are = record {
  begin = are.begin;
  apart = are.apart;
  multiple = are.multiple;
  near = are.near;
  few = let few = are.few in omega (arith, few);
  all = are.all;
  small = are.small;
}

with_item : (form : ItemForm) (number : ℕ) (structs : Structs) (done : PlacedGlobals) (item : Segment) → number < 2 ^ 32 →
    (with_form form structs done item).first ≡ None → AreSoFar number done → AreSoFar (number + 1) (with_form form structs done item)
with_item forms.Global number structs done item short none are =
    one_more number done item.first.line (size_of structs item) short none are
with_item _ number structs done item short none are = more_items number done are

with_items : (number : ℕ) (structs : Structs) (done : PlacedGlobals) (items : List Segment) → number + length items < 2 ^ 32 →
    (placed_from structs done items).first ≡ None → AreSoFar number done → AreSoFar (number + length items) (placed_from structs done items)
with_items number structs done [] short none are = subst (λ n. AreSoFar n done) (omega arith) are
with_items number structs done (item ∷ items) short none are =
    let more = with_form (form_of item) structs done item in
    let here : number < 2 ^ 32 = omega (arith, short) in
    let left : number + 1 + length items < 2 ^ 32 = omega (arith, short) in
    subst (λ n. AreSoFar n (placed_from structs more items)) (omega arith)
    (with_items (number + 1) structs more items left none
    (with_item (form_of item) number structs done item here (none_before structs more items none) are))

none_yet : AreSoFar 0 none_placed
none_yet = record {
  begin = refl;
  apart = omega arith;
  multiple = refl;
  near = omega arith;
  few = omega arith;
  all = refl;
  small = omega arith;
}

pub globals_apart : (structs : Structs) (items : List Segment) → length items < 2 ^ 32 → (placed structs items).first ≡ None →
    AreApart (placed structs items)
globals_apart structs items short none =
    let are = with_items 0 structs none_placed items (omega (arith, short)) none none_yet in
    record {
      begin = are.begin;
      apart = are.apart;
      near = let near = are.near in let small = are.small in omega (arith, near, small);
      small = let all = are.all in let small = are.small in omega (arith, all, small);
    }
