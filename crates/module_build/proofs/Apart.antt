-- The globals of an accepted module have no byte in common.
use Rattle.std.proofs.Common.{◌≡◌, ℕ, zero, suc, ◌+◌, ◌<◌, ◌≤◌, ◌^◌, Bool, true, false, if◌then◌else◌, List, [], ◌∷◌, length, map, All, Option, Some, None, Result, Ok, Err, IfOk, refl, ap, sym, ◌∙◌, subst, arith}
use Rattle.std.proofs.lemmas.List.Elements.{All-head, All-tail}
use Rattle.std.specs.Prelude.{slice_get}
use Rattle.global_check.specs.declared.globals.CheckedGlobals.{CheckedGlobals}
use Rattle.global_check.specs.Globals.{globals_of}
use Rattle.global_check.specs.Laws.{AreApart as AreApartPlaced, AreThosePlaced, HasItsSize, LieApart}
use Rattle.global_check.specs.Placed.{first_address, placed}
use Rattle.instruction_check.specs.Scope.{Scope}
use Rattle.ir_items.specs.declared.segment.Cut.{Cut}
use Rattle.ir_items.specs.declared.segment.Cut.TheVariants as cuts
use Rattle.ir_items.specs.Laws.{nodes_of}
use Rattle.ir_items.specs.Segment.{Segment, segments_of}
use Rattle.ir_read.specs.Node.{Told}
use Rattle.ir_types.specs.declared.«module».GlobalVar.{GlobalVar}
use Rattle.ir_types.specs.declared.«module».Module.{Module}
use Rattle.machine_model.specs.declared.state.Object.{Object}
use Rattle.machine_model.specs.MemoryLaws.{AreApart}
use Rattle.machine_model.specs.Start.{object_of_global}
use Rattle.module_fault.specs.declared.fault.Fault.{Fault}
use Rattle.module_check.specs.MainFunction.{main_of}
use Rattle.module_check.specs.Names.{or_no_main}
use Rattle.struct_table.specs.StructTable.{Structs, structs_of}
use Rattle.module_build.specs.declared.checked.Parts.{Parts}
use Rattle.module_build.specs.Checked.{checked_module, global_scope, module_by, parts_of}
use Rattle.module_build.proofs.Faults.{no_earlier, no_fault_but_main}
use Rattle.module_build.proofs.Runnable.{AreWhole, no_more}

-- ---- objects that lie one behind another

-- the first begins at the address or behind it, and each other one behind the bytes of the one before
abbrev ArePlaced : ℕ → List Object → Type 0
ArePlaced from [] = Unit {0}
ArePlaced from (object ∷ objects) = (from ≤ object.base) × ArePlaced (object.base + length object.bytes) objects

begins_behind : (objects : List Object) (from place : ℕ) (object : Object) → ArePlaced from objects →
    slice_get objects place ≡ Some object → from ≤ object.base
begins_behind [] from place object lie there = absurd (let h : ⊥ = cc in h)
begins_behind (first ∷ rest) from zero object lie there =
    let same : first ≡ object = cc in
    omega (arith, lie.0, ap (λ (o : Object). o.base) same)
begins_behind (first ∷ rest) from (suc place) object lie there =
    omega (arith, lie.0, begins_behind rest _ place object lie.1 there)

apart_from_placed : (objects : List Object) (from : ℕ) → ArePlaced from objects → AreApart objects
apart_from_placed [] from lie one two object other differ there its = absurd (let h : ⊥ = cc in h)
apart_from_placed (first ∷ rest) from lie zero zero object other differ there its = absurd (differ refl)
apart_from_placed (first ∷ rest) from lie zero (suc two) object other differ there its =
    let same : first ≡ object = cc in
    let behind = begins_behind rest _ two other lie.1 its in
    λ live its_live byte low high from to.
    omega (arith, behind, ap (λ (o : Object). o.base + length o.bytes) same)
apart_from_placed (first ∷ rest) from lie (suc one) zero object other differ there its =
    let same : first ≡ other = cc in
    let behind = begins_behind rest _ one object lie.1 there in
    λ live its_live byte low high from to.
    omega (arith, behind, ap (λ (o : Object). o.base + length o.bytes) same)
apart_from_placed (first ∷ rest) from lie (suc one) (suc two) object other differ there its =
    apart_from_placed rest _ lie.1 one two object other (λ same. differ (ap suc same)) there its

-- ---- globals

lower : (objects : List Object) (low from : ℕ) → low ≤ from → ArePlaced from objects → ArePlaced low objects
lower [] low from below lie = tt
lower (object ∷ objects) low from below lie = (omega (arith, below, lie.0), lie.1)

lie_placed : (globals : List GlobalVar) (least end : ℕ) →
    LieApart least (map (λ global. global.base) globals) (map (λ global. global.size) globals) end →
    All HasItsSize globals → ArePlaced least (map object_of_global globals)
lie_placed [] least end lie sizes = tt
lie_placed (global ∷ globals) least end lie sizes =
    let size : length global.image ≡ global.size = All-head HasItsSize global globals sizes in (
      lie.0,
      lower (map object_of_global globals) (global.base + length global.image) (global.base + global.size + 16) (omega (arith, size))
          (lie_placed globals (global.base + global.size + 16) end lie.2 (All-tail HasItsSize global globals sizes)),
    )

-- ---- the module

apart_by : (fault : Option Fault) (main : Option ℕ) (parts : Parts) →
    (fault ≡ None → AreApart (map object_of_global parts.globals.globals)) →
    IfOk (module_by fault main parts) (λ code. AreApart (map object_of_global code.globals))
apart_by (Some fault) main parts apart = tt
apart_by None main parts apart = apart refl

-- the laws of globals
pub record LawsOfGlobals : Type 0 where
  pub lie : (structs : Structs) (items : List Segment) → length items < 2 ^ 32 → (placed structs items).first ≡ None →
      AreApartPlaced (placed structs items)
  pub there : (scope : Scope) (items : List Segment) →
      AreThosePlaced (placed scope.structs items) (globals_of scope (placed scope.structs items) items)
  pub sizes : (scope : Scope) (items : List Segment) → (placed scope.structs items).first ≡ None →
      All HasItsSize (globals_of scope (placed scope.structs items) items).globals

apart_globals : (laws : LawsOfGlobals) (scope : Scope) (items : List Segment) → length items < 2 ^ 32 →
    (globals_of scope (placed scope.structs items) items).first ≡ None →
    AreApart (map object_of_global (globals_of scope (placed scope.structs items) items).globals)
apart_globals laws scope items few none =
    let places = placed scope.structs items in
    let globals = (globals_of scope places items).globals in
    let there = laws.there scope items in
    let right = there.faults none in
    let lie = laws.lie scope.structs items few right in
    apart_from_placed (map object_of_global globals) first_address
    (lie_placed globals first_address places.next
    (subst (λ (addresses : List ℕ). LieApart first_address addresses (map (λ global. global.size) globals) places.next) (sym there.addresses)
    (subst (λ (sizes : List ℕ). LieApart first_address places.addresses sizes places.next) (sym there.sizes) lie.apart))
    (laws.sizes scope items right))

pub objects_apart : LawsOfGlobals → AreWhole → (nodes : List Told) → length nodes < 2 ^ 32 →
    IfOk (checked_module nodes) (λ code. AreApart (map object_of_global code.globals))
objects_apart laws are nodes short =
    let items = segments_of cuts.Items nodes in
    let parts = parts_of items in
    let whole : length (nodes_of items) ≡ length nodes = ap length (are cuts.Items nodes) in
    let few : length items < 2 ^ 32 = omega (arith, short, no_more items, whole) in
    apart_by (or_no_main parts.first (main_of parts.names)) (main_of parts.names) parts
    (λ is. apart_globals laws (global_scope parts.names (structs_of items)) items few
    (no_earlier _ _ (no_earlier _ _ (no_fault_but_main parts.first (main_of parts.names) is)).0).1)
