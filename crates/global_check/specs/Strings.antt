-- The strings that the constants of a module hold.
use Rattle.std.specs.Prelude.{ℕ, List, [], ◌∷◌, ◌++◌, if◌then◌else◌}
use Rattle.ir_read.specs.declared.terminal.Terminal.{Terminal}
use Rattle.ir_read.specs.declared.terminal.Terminal.TheVariants as t
use Rattle.ir_read.specs.Node.{Told}
use Rattle.ir_items.specs.declared.item.ItemForm.{ItemForm}
use Rattle.ir_items.specs.declared.item.ItemForm.TheVariants as forms
use Rattle.ir_items.specs.Item.{form_of, is_constant}
use Rattle.ir_items.specs.Segment.{Segment}
use Rattle.global_check.specs.Placed.{initial_of}

abbrev pub text_by : Terminal → List ℕ → List ℕ
text_by t.Bytes text = text
text_by _ text = []

abbrev pub text_in : List Told → List ℕ
text_in [] = []
text_in (node ∷ nodes) = text_by node.terminal node.text

-- what a global holds that isn't a constant may change
abbrev pub string_of : Segment → List ℕ
string_of item = if is_constant item then text_in (initial_of item) else []

abbrev pub with_form : ItemForm → List (List ℕ) → Segment → List (List ℕ)
with_form forms.Global done item = done ++ string_of item ∷ []
with_form forms.Struct done item = done
with_form forms.Declare done item = done
with_form forms.Define done item = done

-- those of the items so far, and of those left
abbrev pub strings_from : List (List ℕ) → List Segment → List (List ℕ)
strings_from done [] = done
strings_from done (item ∷ items) = strings_from (with_form (form_of item) done item) items
