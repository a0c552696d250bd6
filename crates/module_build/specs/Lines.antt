-- The lines of a module's instructions, in the order of the text.
use Rattle.std.specs.Prelude.{ℕ, List, [], ◌∷◌, ◌++◌, if◌then◌else◌}
use Rattle.ir_items.specs.declared.item.ItemForm.{ItemForm}
use Rattle.ir_items.specs.declared.item.ItemForm.TheVariants as forms
use Rattle.ir_items.specs.Item.{body_of, form_of}
use Rattle.ir_items.specs.Segment.{Segment}
use Rattle.ir_items.specs.Statement.{Statement, is_label, statements_of}

-- a label is no instruction
abbrev pub with_statement : List ℕ → Statement → List ℕ
with_statement done statement = if is_label statement then done else done ++ statement.line ∷ []

-- those so far, and those of the statements left
abbrev pub statements_from : List ℕ → List Statement → List ℕ
statements_from done [] = done
statements_from done (statement ∷ statements) = statements_from (with_statement done statement) statements

abbrev pub with_form : ItemForm → List ℕ → Segment → List ℕ
with_form forms.Define done item = statements_from done (statements_of (body_of item))
with_form forms.Struct done item = done
with_form forms.Global done item = done
with_form forms.Declare done item = done

-- those so far, and those of the items left
abbrev pub items_from : List ℕ → List Segment → List ℕ
items_from done [] = done
items_from done (item ∷ items) = items_from (with_form (form_of item) done item) items

abbrev pub lines_of : List Segment → List ℕ
lines_of items = items_from [] items
