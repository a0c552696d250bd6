-- The globals of a module lie where they were placed.
use Rattle.std.proofs.Common.{◌≡◌, ℕ, ◌<◌, ◌≤◌, List, [], ◌∷◌, ◌++◌, length, length-append, get_or, map, slice_get, unwrap_or, None, refl, sym, ap, ◌∙◌, subst, arith}
use Rattle.std.proofs.lemmas.List.{get_or_append_left, length-map, map-append}
use Rattle.std.proofs.lemmas.Option.{unwrap_or-slice_get}
use Rattle.std.proofs.Math.Seq.{get_or-append_seam}
use Rattle.ir_types.specs.declared.«module».GlobalVar.{GlobalVar}
use Rattle.ir_items.specs.declared.item.ItemForm.{ItemForm}
use Rattle.ir_items.specs.declared.item.ItemForm.TheVariants as forms
use Rattle.ir_items.specs.Item.{form_of}
use Rattle.ir_items.specs.Segment.{Segment}
use Rattle.instruction_check.specs.Scope.{Scope}
use Rattle.struct_table.specs.StructTable.{Structs}
use Rattle.global_check.specs.declared.globals.CheckedGlobals.{CheckedGlobals}
use Rattle.global_check.specs.declared.placed.PlacedGlobals.{PlacedGlobals}
use Rattle.global_check.specs.Globals as globals
use Rattle.global_check.specs.Laws.{AreThosePlaced}
use Rattle.global_check.specs.Placed as places
use Rattle.global_check.proofs.Faults.{note_none}

-- ---- what was placed stays

record Stay (done more : PlacedGlobals) : Type 0 where
  addresses : (number : ℕ) → number < length done.addresses → get_or more.addresses number 0 ≡ get_or done.addresses number 0
  sizes : (number : ℕ) → number < length done.sizes → get_or more.sizes number 0 ≡ get_or done.sizes number 0
  count : length done.addresses ≤ length more.addresses
  size_count : length done.sizes ≤ length more.sizes

stay : (done : PlacedGlobals) → Stay done done
stay done = record { addresses = λ number within. refl; sizes = λ number within. refl; count = omega arith; size_count = omega arith }

stay_with : (form : ItemForm) (structs : Structs) (done : PlacedGlobals) (item : Segment) → Stay done (places.with_form form structs done item)
stay_with forms.Global structs done item = record {
  addresses = λ number within. get_or_append_left done.addresses _ 0 number within;
  sizes = λ number within. get_or_append_left done.sizes _ 0 number within;
  count = let more = length-append done.addresses (done.next ∷ []) in omega (arith, more);
  size_count = let more = length-append done.sizes (places.size_of structs item ∷ []) in omega (arith, more);
}
stay_with _ structs done item = stay done

stay_from : (structs : Structs) (done : PlacedGlobals) (items : List Segment) → Stay done (places.placed_from structs done items)
stay_from structs done [] = stay done
stay_from structs done (item ∷ items) =
    let now = places.with_form (form_of item) structs done item in
    let here = stay_with (form_of item) structs done item in
    let later = stay_from structs now items in
    record {
      addresses = λ number within. later.addresses number (let more = here.count in omega (arith, within, more)) ∙ here.addresses number within;
      sizes = λ number within. later.sizes number (let more = here.size_count in omega (arith, within, more)) ∙ here.sizes number within;
      count = let one = here.count in let other = later.count in omega (arith, one, other);
      size_count = let one = here.size_count in let other = later.size_count in omega (arith, one, other);
    }

-- ---- the globals so far

abbrev base_in : GlobalVar → ℕ
base_in global = global.base

abbrev size_in : GlobalVar → ℕ
size_in global = global.size

record AreAt (done : PlacedGlobals) (found : CheckedGlobals) : Type 0 where
  bases : map base_in found.globals ≡ done.addresses
  sizes : map size_in found.globals ≡ done.sizes

-- the number behind so many, where there are as many globals
one_more : (part : GlobalVar → ℕ) (all : List GlobalVar) (numbers : List ℕ) (number : ℕ) (global : GlobalVar) (whole : List ℕ) →
    map part all ≡ numbers → part global ≡ unwrap_or (slice_get whole (length all)) 0 →
    ((at : ℕ) → at < length (numbers ++ number ∷ []) → get_or whole at 0 ≡ get_or (numbers ++ number ∷ []) at 0) →
    map part (all ++ global ∷ []) ≡ numbers ++ number ∷ []
one_more part all numbers number global whole are is stays =
    let count = sym (length-map all part) ∙ ap length are in
    let within : length all < length (numbers ++ number ∷ []) = let more = length-append numbers (number ∷ []) in omega (arith, more, count) in
    let there : part global ≡ number =
    is ∙ unwrap_or-slice_get whole (length all) 0 ∙ stays (length all) within
    ∙ ap (λ at. get_or (numbers ++ number ∷ []) at 0) count ∙ get_or-append_seam numbers number [] 0 in
    map-append part all (global ∷ []) ∙ ap (λ front. front ++ part global ∷ []) are ∙ ap (λ last. numbers ++ last ∷ []) there

form_at : (form : ItemForm) (scope : Scope) (final done : PlacedGlobals) (found : CheckedGlobals) (item : Segment) →
    Stay (places.with_form form scope.structs done item) final → AreAt done found →
    AreAt (places.with_form form scope.structs done item) (globals.with_form form scope final found item)
form_at forms.Global scope final done found item stays are =
    let number = length found.globals in
    let global = globals.global_at final number item (globals.filling_at scope final number item).image in
    record {
      bases = one_more base_in found.globals done.addresses done.next global final.addresses are.bases refl stays.addresses;
      sizes = one_more size_in found.globals done.sizes (places.size_of scope.structs item) global final.sizes are.sizes refl stays.sizes;
    }
form_at _ scope final done found item stays are = are

items_at : (scope : Scope) (final done : PlacedGlobals) (found : CheckedGlobals) (items : List Segment) →
    places.placed_from scope.structs done items ≡ final → AreAt done found → AreAt final (globals.globals_from scope final found items)
items_at scope final done found [] ends are = subst (λ placed. AreAt placed found) ends are
items_at scope final done found (item ∷ items) ends are =
    let now = places.with_form (form_of item) scope.structs done item in
    items_at scope final now (globals.with_form (form_of item) scope final found item) items ends
    (form_at (form_of item) scope final done found item (subst (λ placed. Stay now placed) ends (stay_from scope.structs now items)) are)

-- ---- faults

none_before_form : (form : ItemForm) (scope : Scope) (placed : PlacedGlobals) (found : CheckedGlobals) (item : Segment) →
    (globals.with_form form scope placed found item).first ≡ None → found.first ≡ None
none_before_form forms.Global scope placed found item none = (note_none found.first item.first.line _ none).0
none_before_form _ scope placed found item none = none

none_before : (scope : Scope) (placed : PlacedGlobals) (found : CheckedGlobals) (items : List Segment) →
    (globals.globals_from scope placed found items).first ≡ None → found.first ≡ None
none_before scope placed found [] none = none
none_before scope placed found (item ∷ items) none =
    none_before_form (form_of item) scope placed found item
    (none_before scope placed (globals.with_form (form_of item) scope placed found item) items none)

pub those_placed : (scope : Scope) (items : List Segment) →
    AreThosePlaced (places.placed scope.structs items) (globals.globals_of scope (places.placed scope.structs items) items)
those_placed scope items =
    let final = places.placed scope.structs items in
    let are = items_at scope final places.none_placed (globals.none_checked final) items refl (record { bases = refl; sizes = refl }) in
    record {
      addresses = are.bases;
      sizes = are.sizes;
      faults = none_before scope final (globals.none_checked final) items;
    }
