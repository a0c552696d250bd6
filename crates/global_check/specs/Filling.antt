-- The way through what a global begins with, from its first phrase to its last.
use Rattle.std.specs.Prelude.{ℕ, Bool, true, false, List, [], ◌∷◌, length, codes, bytes_eq, Option, Some, None, if◌then◌else◌}
use Rattle.ir_read.specs.declared.terminal.Terminal.{Terminal}
use Rattle.ir_read.specs.declared.terminal.Terminal.TheVariants as t
use Rattle.ir_read.specs.Escapes.{bytes_of_string}
use Rattle.ir_read.specs.Node.{Told}
use Rattle.ir_items.specs.Phrase.{phrases_of}
use Rattle.module_fault.specs.declared.cause.Cause.{Cause}
use Rattle.module_fault.specs.declared.cause.Cause.TheVariants.{TypeMismatch}
use Rattle.module_fault.specs.Cause.{lesser, unless}
use Rattle.instruction_check.specs.Operand.{operand}
use Rattle.instruction_check.specs.Phrases.{kind_in}
use Rattle.instruction_check.specs.Scope.{Scope}
use Rattle.struct_table.specs.Members.{Member}
use Rattle.global_check.specs.Image.{bytes_of, put, zeros}
use Rattle.global_check.specs.InitialList.{InitialList, array_cause, array_for, behind_part, end_cause, part_cause, part_of, place_with, struct_cause, struct_for}
use Rattle.global_check.specs.Resolved.{is_word, takes_string}

pub record Filling : Type 0 where
  -- the open lists, the one that was opened last first
  pub lists : List InitialList
  -- a `<` came, and its `{` is next
  pub is_packed : Bool
  -- where the next value lies, with its type; none where a type is next, or the end of a list
  pub due : Option Member
  pub image : List ℕ
  pub cause : Option Cause

-- ---- where a type is next, or the end of a list

abbrev pub member : ℕ → List Told → Member
member place nodes = record { place = place; nodes = nodes }

-- a value of the type is next
abbrev pub expected : List InitialList → Filling → ℕ → List Told → Option Cause → Filling
expected lists done place nodes cause = record {
  lists = lists;
  is_packed = done.is_packed;
  due = Some (member place nodes);
  image = done.image;
  cause = lesser done.cause cause;
}

abbrev pub typed_part : InitialList → List InitialList → Filling → List Told → Filling
typed_part list lists done phrase =
    expected (behind_part list ∷ lists) done (place_with list.place (part_of list)) phrase (part_cause phrase (part_of list))

abbrev pub typed_in : List InitialList → Filling → List Told → Filling
typed_in [] done phrase = expected [] done 0 phrase (Some TypeMismatch)
typed_in (list ∷ lists) done phrase = typed_part list lists done phrase

-- the type that stands before a value
abbrev pub typed : Filling → List Told → Filling
typed done phrase = typed_in done.lists done phrase

abbrev pub closed_in : List InitialList → Filling → Filling
closed_in [] done = done
closed_in (list ∷ lists) done = record {
  lists = lists;
  is_packed = done.is_packed;
  due = done.due;
  image = done.image;
  cause = lesser done.cause (end_cause list);
}

abbrev pub closed : Filling → Filling
closed done = closed_in done.lists done

abbrev pub at_type : Terminal → Filling → List Told → Filling
at_type t.RightBracket done phrase = closed done
at_type t.RightBrace done phrase = closed done
at_type t.Greater done phrase = done
at_type _ done phrase = typed done phrase

-- ---- where a value is next

abbrev pub opened : Filling → InitialList → Option Cause → Filling
opened done list cause = record {
  lists = list ∷ done.lists;
  is_packed = false;
  due = None;
  image = done.image;
  cause = lesser done.cause cause;
}

-- the brackets of a list of a packed struct's values are `<{` and `}>`
abbrev pub packed : Filling → Member → Filling
packed done due = record { lists = done.lists; is_packed = true; due = Some due; image = done.image; cause = done.cause }

-- a value that stands for all of its type
abbrev pub filled : Filling → List ℕ → Option Cause → Filling
filled done image cause = record {
  lists = done.lists;
  is_packed = done.is_packed;
  due = None;
  image = image;
  cause = lesser done.cause cause;
}

abbrev pub string_at : Filling → Member → List ℕ → Filling
string_at done due bytes =
    filled done (put done.image due.place bytes) (unless (takes_string due.nodes (length bytes)) TypeMismatch)

abbrev pub operand_at : Scope → Filling → Member → List Told → Filling
operand_at scope done due phrase =
    let kind = kind_in due.nodes in
    let found = operand scope kind phrase in
    filled done (put done.image due.place (bytes_of kind found.value)) found.cause

abbrev pub word_at : Scope → Filling → Member → List Told → Filling
word_at scope done due phrase =
    if is_word due.nodes then operand_at scope done due phrase
    else filled done done.image (Some TypeMismatch)

-- `zeroinitializer` is of every type
abbrev pub literal_at : Scope → Filling → Member → Told → List Told → Filling
literal_at scope done due node phrase =
    if bytes_eq node.text (codes "zeroinitializer") then filled done done.image None
    else word_at scope done due phrase

abbrev pub at_value : Terminal → Scope → Filling → Member → Told → List Told → Filling
at_value t.LeftBracket scope done due node phrase =
    opened done (array_for scope.structs due) (array_cause due)
at_value t.Less scope done due node phrase = packed done due
at_value t.LeftBrace scope done due node phrase =
    opened done (struct_for scope.structs done.is_packed due) (struct_cause scope.structs done.is_packed due)
at_value t.Bytes scope done due node phrase = string_at done due (bytes_of_string node.text)
at_value t.LiteralWord scope done due node phrase = literal_at scope done due node phrase
at_value _ scope done due node phrase = word_at scope done due phrase

-- ---- from phrase to phrase

abbrev pub by_due : Option Member → Scope → Filling → Told → List Told → Filling
by_due None scope done node phrase = at_type node.terminal done phrase
by_due (Some due) scope done node phrase = at_value node.terminal scope done due node phrase

abbrev pub with_phrase : Scope → Filling → List Told → Filling
with_phrase scope done [] = done
with_phrase scope done (node ∷ rest) = by_due done.due scope done node (node ∷ rest)

-- behind the phrases so far, and those left
abbrev pub filled_from : Scope → Filling → List (List Told) → Filling
filled_from scope done [] = done
filled_from scope done (phrase ∷ phrases) = filled_from scope (with_phrase scope done phrase) phrases

-- before the first phrase, for a value of the type that takes so many bytes
abbrev pub begun : ℕ → List Told → Filling
begun size nodes =
    record { lists = []; is_packed = false; due = Some (member 0 nodes); image = zeros size; cause = None }

-- what a global of the type begins with, by the nodes of it
abbrev pub filling_of : Scope → ℕ → List Told → List Told → Filling
filling_of scope size nodes initial = filled_from scope (begun size nodes) (phrases_of initial)
