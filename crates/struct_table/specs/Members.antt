-- The fields of a struct: where each lies, and the nodes of its type.
use Rattle.std.specs.Prelude.{ℕ, Bool, true, false, List, [], ◌∷◌, ◌++◌}
use Rattle.ir_read.specs.declared.raw_type.TypeForm.{TypeForm}
use Rattle.ir_read.specs.declared.raw_type.TypeForm.TheVariants as forms
use Rattle.ir_read.specs.Node.{Told}
use Rattle.ir_read.specs.Shape.{fields_of, form_of, packed_fields_of, type_in}
use Rattle.ir_items.specs.Phrase.{phrases_of}
use Rattle.ir_layout.specs.declared.extent.Extent.{Extent}
use Rattle.ir_layout.specs.declared.extent.Overflow.TheVariants as o
use Rattle.ir_layout.specs.Extent.{empty, kept, place, with_field}
use Rattle.ir_layout.specs.Walk.{extent_by}

pub record Member : Type 0 where
  pub place : ℕ
  pub nodes : List Told

-- the fields so far, and what they take
pub record Laid : Type 0 where
  pub fields : Extent
  pub members : List Member

abbrev pub none_laid : Laid
none_laid = record { fields = empty; members = [] }

-- one more field, which takes so much
abbrev pub with_member : Bool → Laid → List Told → Extent → Laid
with_member packed done nodes field = record {
  fields = with_field (kept o.Wrapping) packed done.fields field;
  members = done.members ++ record { place = place (kept o.Wrapping) packed done.fields.size field.align; nodes = nodes } ∷ [];
}

-- behind the fields so far, by the nodes of each
abbrev pub laid_from : (List ℕ → Extent) → Bool → Laid → List (List Told) → Laid
laid_from named packed done [] = done
laid_from named packed done (nodes ∷ fields) =
    laid_from named packed (with_member packed done nodes (extent_by (kept o.Wrapping) named nodes)) fields

abbrev pub laid : (List ℕ → Extent) → Bool → List Told → List Member
laid named packed nodes = (laid_from named packed none_laid (phrases_of nodes)).members

abbrev pub members_by : TypeForm → (List ℕ → Extent) → List Told → List Member
members_by forms.Struct named nodes = laid named false (fields_of nodes)
members_by forms.Packed named nodes = laid named true (packed_fields_of nodes)
members_by _ named nodes = []

-- Of the type in front of the nodes, by what named structs take in addresses. What is no struct with fields has none.
abbrev pub members_of : (List ℕ → Extent) → List Told → List Member
members_of named nodes = members_by (form_of (type_in nodes)) named (type_in nodes)

-- of each type
abbrev pub members_from : (List ℕ → Extent) → List (List Member) → List (List Told) → List (List Member)
members_from named done [] = done
members_from named done (nodes ∷ types) = members_from named (done ++ members_of named nodes ∷ []) types
