-- Images keep their sizes.
use Rattle.std.proofs.Common.{◌≡◌, ℕ, zero, suc, ◌+◌, ◌-◌, ◌≤◌, Bool, true, false, ◌&&◌, List, [], ◌∷◌, ◌++◌, length, length-append, take, drop, bytes_eq, codes, slice_get, unwrap_or, All, Option, Some, None, refl, ◌∙◌, arith, leb-true, leb-false}
use Rattle.std.specs.Prelude.{nat_le, if◌then◌else◌}
use Rattle.std.proofs.lemmas.List.{length-drop, length-take}
use Rattle.std.proofs.lemmas.List.Elements.{All-append, All-cons, All-nil}
use Rattle.ir_items.specs.declared.item.ItemForm.{ItemForm}
use Rattle.ir_items.specs.declared.item.ItemForm.TheVariants as forms
use Rattle.ir_items.specs.Item.{form_of}
use Rattle.ir_items.specs.Phrase.{phrases_of}
use Rattle.ir_items.specs.Segment.{Segment}
use Rattle.ir_read.specs.declared.terminal.Terminal.{Terminal}
use Rattle.ir_read.specs.declared.terminal.Terminal.TheVariants as t
use Rattle.ir_read.specs.Escapes.{bytes_of_string}
use Rattle.ir_read.specs.Node.{Told}
use Rattle.instruction_check.specs.Operand.{operand}
use Rattle.instruction_check.specs.Phrases.{kind_in}
use Rattle.instruction_check.specs.Scope.{Scope}
use Rattle.struct_table.specs.Members.{Member}
use Rattle.global_check.specs.declared.globals.CheckedGlobals.{CheckedGlobals}
use Rattle.global_check.specs.declared.placed.PlacedGlobals.{PlacedGlobals}
use Rattle.global_check.specs.Filling.{Filling, at_type, at_value, begun, by_due, closed_in, filled_from, filling_of, literal_at, typed_in, with_phrase, word_at}
use Rattle.global_check.specs.Globals.{filling_at, global_at, globals_from, globals_of, image_size, none_checked, with_form}
use Rattle.global_check.specs.Image.{bytes_of, put, zeros}
use Rattle.global_check.specs.Laws.{HasItsSize}
use Rattle.global_check.specs.Placed.{initial_of, most_bytes, none_placed, placed, type_of}
use Rattle.global_check.specs.Resolved.{is_word}
use Rattle.global_check.proofs.Apart.{total_small}

-- ---- bytes that are written

zeros_len : (size : ℕ) → length (zeros size) ≡ size
zeros_len zero = refl
zeros_len (suc size) = let rest = zeros_len size in let more = length-append (zeros size) (0 ∷ []) in omega (arith, rest, more)

overwritten : (image : List ℕ) (place : ℕ) (bytes : List ℕ) → length bytes ≤ length image → place ≤ length image - length bytes →
    length (take place image ++ bytes ++ drop (place + length bytes) image) ≡ length image
overwritten image place bytes short within =
    let front = length-take place image in
    let back = length-drop (place + length bytes) image in
    let begun = length-append (take place image) bytes in
    let whole = length-append (take place image ++ bytes) (drop (place + length bytes) image) in
    omega (arith, short, within, front, back, begun, whole)

put_by : (short within : Bool) (image : List ℕ) (place : ℕ) (bytes : List ℕ) → nat_le (length bytes) (length image) ≡ short →
    nat_le place (length image - length bytes) ≡ within →
    length (if short && within then take place image ++ bytes ++ drop (place + length bytes) image else image) ≡ length image
put_by true true image place bytes short within =
    overwritten image place bytes (leb-true (length bytes) (length image) short) (leb-true place (length image - length bytes) within)
put_by true false image place bytes short within = refl
put_by false within image place bytes short is = refl

put_len : (image : List ℕ) (place : ℕ) (bytes : List ℕ) → length (put image place bytes) ≡ length image
put_len image place bytes = put_by (nat_le (length bytes) (length image)) (nat_le place (length image - length bytes)) image place bytes refl refl

-- ---- a phrase

abbrev Keeps : Filling → Filling → Type 0
Keeps done more = length more.image ≡ length done.image

typed_keeps : (lists : List _) (done : Filling) (phrase : List Told) → Keeps done (typed_in lists done phrase)
typed_keeps [] done phrase = refl
typed_keeps (list ∷ lists) done phrase = refl

closed_keeps : (lists : List _) (done : Filling) → Keeps done (closed_in lists done)
closed_keeps [] done = refl
closed_keeps (list ∷ lists) done = refl

type_keeps : (terminal : Terminal) (done : Filling) (phrase : List Told) → Keeps done (at_type terminal done phrase)
type_keeps t.RightBracket done phrase = closed_keeps done.lists done
type_keeps t.RightBrace done phrase = closed_keeps done.lists done
type_keeps t.Greater done phrase = refl
type_keeps _ done phrase = typed_keeps done.lists done phrase

word_by : (is : Bool) (scope : Scope) (done : Filling) (due : Member) (phrase : List Told) → is_word due.nodes ≡ is →
    Keeps done (word_at scope done due phrase)
word_by true scope done due phrase is =
    let kind = kind_in due.nodes in
    rw is (put_len done.image due.place (bytes_of kind (operand scope kind phrase).value))
word_by false scope done due phrase is = rw is refl

word_keeps : (scope : Scope) (done : Filling) (due : Member) (phrase : List Told) → Keeps done (word_at scope done due phrase)
word_keeps scope done due phrase = word_by (is_word due.nodes) scope done due phrase refl

literal_by : (is : Bool) (scope : Scope) (done : Filling) (due : Member) (node : Told) (phrase : List Told) →
    bytes_eq node.text (codes "zeroinitializer") ≡ is → Keeps done (literal_at scope done due node phrase)
literal_by true scope done due node phrase is = rw is refl
literal_by false scope done due node phrase is = rw is (word_keeps scope done due phrase)

value_keeps : (terminal : Terminal) (scope : Scope) (done : Filling) (due : Member) (node : Told) (phrase : List Told) →
    Keeps done (at_value terminal scope done due node phrase)
value_keeps t.LeftBracket scope done due node phrase = refl
value_keeps t.Less scope done due node phrase = refl
value_keeps t.LeftBrace scope done due node phrase = refl
value_keeps t.Bytes scope done due node phrase = put_len done.image due.place (bytes_of_string node.text)
value_keeps t.LiteralWord scope done due node phrase =
    literal_by (bytes_eq node.text (codes "zeroinitializer")) scope done due node phrase refl
value_keeps _ scope done due node phrase = word_keeps scope done due phrase

due_keeps : (due : Option Member) (scope : Scope) (done : Filling) (node : Told) (phrase : List Told) →
    Keeps done (by_due due scope done node phrase)
due_keeps None scope done node phrase = type_keeps node.terminal done phrase
due_keeps (Some due) scope done node phrase = value_keeps node.terminal scope done due node phrase

phrase_keeps : (scope : Scope) (done : Filling) (phrase : List Told) → Keeps done (with_phrase scope done phrase)
phrase_keeps scope done [] = refl
phrase_keeps scope done (node ∷ rest) = due_keeps done.due scope done node (node ∷ rest)

phrases_keep : (scope : Scope) (done : Filling) (phrases : List (List Told)) → Keeps done (filled_from scope done phrases)
phrases_keep scope done [] = refl
phrases_keep scope done (phrase ∷ phrases) =
    phrases_keep scope (with_phrase scope done phrase) phrases ∙ phrase_keeps scope done phrase

pub image_keeps : (scope : Scope) (size : ℕ) (nodes initial : List Told) → length (filling_of scope size nodes initial).image ≡ size
image_keeps scope size nodes initial = phrases_keep scope (begun size nodes) (phrases_of initial) ∙ zeros_len size

-- ---- the globals of a module

image_size_by : (is : Bool) (total size : ℕ) → total ≤ most_bytes → nat_le total most_bytes ≡ is → image_size total size ≡ size
image_size_by true total size small is = rw is refl
image_size_by false total size small is = let above = leb-false total most_bytes is in absurd (omega (arith, small, above))

has_size : (scope : Scope) (placed : PlacedGlobals) (number : ℕ) (item : Segment) → placed.total ≤ most_bytes →
    HasItsSize (global_at placed number item (filling_at scope placed number item).image)
has_size scope placed number item small =
    let size = unwrap_or (slice_get placed.sizes number) 0 in
    image_keeps scope (image_size placed.total size) (type_of item) (initial_of item)
    ∙ image_size_by (nat_le placed.total most_bytes) placed.total size small refl

form_has : (form : ItemForm) (scope : Scope) (placed : PlacedGlobals) (done : CheckedGlobals) (item : Segment) →
    placed.total ≤ most_bytes → All HasItsSize done.globals → All HasItsSize (with_form form scope placed done item).globals
form_has forms.Global scope placed done item small have =
    let number = length done.globals in
    let global = global_at placed number item (filling_at scope placed number item).image in
    All-append HasItsSize done.globals _ have
    (All-cons HasItsSize global [] (has_size scope placed number item small) (All-nil HasItsSize))
form_has _ scope placed done item small have = have

items_have : (scope : Scope) (placed : PlacedGlobals) (done : CheckedGlobals) (items : List Segment) → placed.total ≤ most_bytes →
    All HasItsSize done.globals → All HasItsSize (globals_from scope placed done items).globals
items_have scope placed done [] small have = have
items_have scope placed done (item ∷ items) small have =
    items_have scope placed (with_form (form_of item) scope placed done item) items small
    (form_has (form_of item) scope placed done item small have)

pub images_have : (scope : Scope) (items : List Segment) → (placed scope.structs items).first ≡ None →
    All HasItsSize (globals_of scope (placed scope.structs items) items).globals
images_have scope items none =
    items_have scope (placed scope.structs items) (none_checked (placed scope.structs items)) items
    (total_small scope.structs none_placed items (omega arith) none) (All-nil HasItsSize)
