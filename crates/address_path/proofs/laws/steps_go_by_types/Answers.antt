use Rattle.std.proofs.Common.{◌≡◌, ◌∙◌, ℕ, Bool, true, false, List, [], refl, ap, sym, append-nil}
use Rattle.ir_layout.specs.declared.extent.Extent.{Extent}
use Rattle.ir_layout.specs.declared.extent.Overflow.TheVariants.{Wrapping}
use Rattle.ir_layout.specs.Extent.{kept}
use Rattle.ir_read.specs.Node.{Told}
use Rattle.ir_read.specs.Shape.{Shape, Spells, Array, Named, Struct, Fields, Int, Ptr, element_of, form_of, form_of_shape, type_in}
use Rattle.ir_types.specs.declared.instruction.Operand.{Operand}
use Rattle.ir_types.specs.declared.instruction.Operand.TheVariants.{Register, Constant}
use Rattle.struct_table.specs.Members.{members_by, members_of}
use Rattle.struct_table.specs.StructTable.{Structs, extent, members_named}
use Rattle.address_path.specs.Path.{Path, at_type, chosen, counted, element, fields_by, fields_of, index_cause, into, into_by, refused, with_cause}
use Rattle.address_path.proofs.laws.steps_go_by_types.Goals as goal

-- the type is all of the nodes that spell it
whole : (c : goal.After-walk_gives_layout) (shape : Shape) (nodes : List Told) → Spells shape nodes → type_in nodes ≡ nodes
whole c shape nodes spells = ap type_in (sym (append-nil nodes)) ∙ c.types_are_found.ensures.front shape nodes [] spells

goes : (c : goal.After-walk_gives_layout) (structs : Structs) (index : Operand) (at : Path) (shape : Shape) →
    Spells shape at.place → into structs index at ≡ into_by (form_of_shape shape) structs index at
goes c structs index at shape spells =
    ap (λ nodes. into_by (form_of nodes) structs index at) (whole c shape at.place spells)
    ∙ ap (λ form. into_by form structs index at) (c.parts_are_spelled.ensures.form shape at.place spells)

fields_are : (c : goal.After-walk_gives_layout) (structs : Structs) (shape : Shape) (nodes : List Told) →
    Spells shape nodes → fields_of structs nodes ≡ fields_by (form_of_shape shape) structs nodes
fields_are c structs shape nodes spells =
    ap (λ all. fields_by (form_of all) structs all) (whole c shape nodes spells)
    ∙ ap (λ form. fields_by form structs nodes) (c.parts_are_spelled.ensures.form shape nodes spells)

members_are : (c : goal.After-walk_gives_layout) (named : List ℕ → Extent) (shape : Shape) (nodes : List Told) →
    Spells shape nodes → members_of named nodes ≡ members_by (form_of_shape shape) named nodes
members_are c named shape nodes spells =
    ap (λ all. members_by (form_of all) named all) (whole c shape nodes spells)
    ∙ ap (λ form. members_by form named nodes) (c.parts_are_spelled.ensures.form shape nodes spells)

fields_gone : (c : goal.After-walk_gives_layout) (structs : Structs) (index : Operand) (at : Path) (packed : Bool) (fields : Fields) →
    Spells (Struct packed fields) at.place → into structs index at ≡ chosen (members_of (extent structs Wrapping) at.place) index at
fields_gone c structs index at false fields spells =
    goes c structs index at (Struct false fields) spells
    ∙ ap (λ found. chosen found index at) (fields_are c structs (Struct false fields) at.place spells)
fields_gone c structs index at true fields spells =
    goes c structs index at (Struct true fields) spells
    ∙ ap (λ found. chosen found index at) (fields_are c structs (Struct true fields) at.place spells)

none_chosen : (index : Operand) (at : Path) → chosen [] index at ≡ refused at
none_chosen (Constant word) at = refl
none_chosen (Register number) at = refl

pub returns-clause-whole : goal.returns-clause-whole
returns-clause-whole c = λ structs index at shape spells.
    ap (λ found. with_cause (index_cause index) (counted found.size index.value at))
    (c.walk_gives_layout.ensures (kept Wrapping) (extent structs Wrapping) shape at.place spells)

pub returns-clause-array : goal.returns-clause-array
returns-clause-array c = λ structs index at count shape spells.
    let parts = c.parts_are_spelled.ensures.element count shape at.place spells in
    record {
      nodes = element_of at.place;
      spelled = parts;
      led =
          goes c structs index at (Array count shape) spells
          ∙ ap (λ nodes. element structs (element_of nodes) index at) (whole c (Array count shape) at.place spells)
          ∙ ap (λ found. at_type (element_of at.place) (counted found.size index at))
          (c.walk_gives_layout.ensures (kept Wrapping) (extent structs Wrapping) shape (element_of at.place) parts);
    }

pub returns-clause-named : goal.returns-clause-named
returns-clause-named c = λ structs index at name spells.
    goes c structs index at (Named name) spells
    ∙ ap (λ fields. chosen fields index at) (fields_are c structs (Named name) at.place spells)
    ∙ ap (λ text. chosen (members_named structs text) index at) (c.parts_are_spelled.ensures.name name at.place spells)

pub returns-clause-fields : goal.returns-clause-fields
returns-clause-fields c = fields_gone c

pub returns-clause-integer : goal.returns-clause-integer
returns-clause-integer c = λ structs index at bits spells.
    goes c structs index at (Int bits) spells
    ∙ ap (λ fields. chosen fields index at)
    (fields_are c structs (Int bits) at.place spells ∙ members_are c (extent structs Wrapping) (Int bits) at.place spells)
    ∙ none_chosen index at

pub returns-clause-pointer : goal.returns-clause-pointer
returns-clause-pointer c = λ structs index at spells.
    goes c structs index at Ptr spells
    ∙ ap (λ fields. chosen fields index at)
    (fields_are c structs Ptr at.place spells ∙ members_are c (extent structs Wrapping) Ptr at.place spells)
    ∙ none_chosen index at
