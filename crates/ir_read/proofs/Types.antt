-- The type that nodes spell is the one that is found in front of them, and it ends where they do.
use Rattle.std.proofs.Common.{◌≡◌, ℕ, zero, suc, ◌+◌, ◌-◌, Bool, true, false, List, [], ◌∷◌, ◌++◌, length, take, drop, refl, ap, ◌∙◌, sym, subst, map, arith, append_assoc, length-append}
use Rattle.std.proofs.lemmas.List.{take_at}
use Rattle.std.specs.Prelude.{◌==◌}
use Rattle.ir_read.specs.declared.terminal.Terminal.{Terminal}
use Rattle.ir_read.specs.declared.terminal.Terminal.TheVariants as t
use Rattle.ir_read.specs.Node.{Told}
use Rattle.ir_read.proofs.Equations.{head_is, tail_is}
use Rattle.ir_read.specs.Shape.{Shape, Array, Named, Struct, Fields, Nothing, Field, Spells, Integer, Pointer, Nowhere, Name, Row, Plain, Packed, AreSpelled, Ends, Goes, Spelled, depth_behind, element_of, fields_of, form_of, form_of_shape, length_at, meaning, packed_fields_of, struct_name, without_last, spelled, spelled_by, with_struct, with_type}

-- ---- what is found

abbrev pub joined : Fields → Fields → Fields
joined Nothing others = others
joined (Field shape fields) others = Field shape (joined fields others)

pub joined_nothing : (fields : Fields) → joined fields Nothing ≡ fields
joined_nothing Nothing = refl
joined_nothing (Field shape fields) = ap (Field shape) (joined_nothing fields)

abbrev pub with_types : Fields → Spelled → Spelled
with_types fields behind = record { here = joined fields behind.here; around = behind.around }

-- a node of a known class
at_node : (node : Told) (terminal : Terminal) (behind : Spelled) → node.terminal ≡ terminal →
    spelled_by node.terminal node.text behind ≡ spelled_by terminal node.text behind
at_node node terminal behind is = ap (λ class. spelled_by class node.text behind) is

mutual
  pub found : (shape : Shape) (front rest : List Told) → Spells shape front → spelled (front ++ rest) ≡ with_type shape (spelled rest)
  found _ _ rest (Integer {node = node} is) = at_node node t.Int (spelled rest) is
  found _ _ rest (Pointer {node = node} is) = at_node node t.Ptr (spelled rest) is
  found _ _ rest (Nowhere {node = node} is) = at_node node t.Void (spelled rest) is
  found _ _ rest (Name {node = node} is) = at_node node t.Local (spelled rest) is
  found _ _ rest (Row {left = left} {count = count} {key = key} right {shape = shape} {nodes = nodes} left_is count_is key_is right_is inner) =
      rw (left_is, count_is, key_is, append_assoc nodes (right ∷ []) rest, found shape nodes (right ∷ rest) inner, right_is) refl
  found _ _ rest (Plain {left = left} right {fields = fields} {nodes = nodes} left_is right_is inner) =
      rw (left_is, append_assoc nodes (right ∷ []) rest, all_found fields nodes (right ∷ rest) inner, right_is, joined_nothing fields) refl
  found _ _ rest (Packed {less = less} {left = left} right greater {fields = fields} {nodes = nodes} less_is left_is right_is greater_is inner) =
      rw (less_is, left_is, append_assoc nodes (right ∷ greater ∷ []) rest, all_found fields nodes (right ∷ greater ∷ rest) inner, right_is, greater_is, joined_nothing fields) refl

  pub all_found : (fields : Fields) (front rest : List Told) → AreSpelled fields front → spelled (front ++ rest) ≡ with_types fields (spelled rest)
  all_found _ _ rest Ends = refl
  all_found _ _ rest (Goes {shape = shape} {fields = fields} {front = front} {rest = others} first more) =
      rw (append_assoc front others rest, found shape front (others ++ rest) first, all_found fields others rest more) refl

-- ---- where it ends

mutual
  pub passed : (shape : Shape) (front rest : List Told) (depth : ℕ) → Spells shape front →
      length_at (suc depth) (front ++ rest) ≡ length front + length_at (suc depth) rest
  passed _ _ rest depth (Integer is) = rw is (omega arith)
  passed _ _ rest depth (Pointer is) = rw is (omega arith)
  passed _ _ rest depth (Nowhere is) = rw is (omega arith)
  passed _ _ rest depth (Name is) = rw is (omega arith)
  passed _ _ rest depth (Row right {shape = shape} {nodes = nodes} left_is count_is key_is right_is inner) =
      rw (left_is, count_is, key_is, append_assoc nodes (right ∷ []) rest, passed shape nodes (right ∷ rest) (suc depth) inner, length-append nodes (right ∷ []), right_is) (omega arith)
  passed _ _ rest depth (Plain right {fields = fields} {nodes = nodes} left_is right_is inner) =
      rw (left_is, append_assoc nodes (right ∷ []) rest, all_passed fields nodes (right ∷ rest) (suc depth) inner, length-append nodes (right ∷ []), right_is) (omega arith)
  passed _ _ rest depth (Packed right greater {fields = fields} {nodes = nodes} less_is left_is right_is greater_is inner) =
      rw (
        less_is,
        left_is,
        append_assoc nodes (right ∷ greater ∷ []) rest,
        all_passed fields nodes (right ∷ greater ∷ rest) (suc (suc depth)) inner,
        length-append nodes (right ∷ greater ∷ []),
        right_is,
        greater_is,
      ) (omega arith)

  pub all_passed : (fields : Fields) (front rest : List Told) (depth : ℕ) → AreSpelled fields front →
      length_at (suc depth) (front ++ rest) ≡ length front + length_at (suc depth) rest
  all_passed _ _ rest depth Ends = omega arith
  all_passed _ _ rest depth (Goes {shape = shape} {fields = fields} {front = front} {rest = others} first more) =
      rw (append_assoc front others rest, passed shape front (others ++ rest) depth first, all_passed fields others rest depth more)
      (omega (arith, length-append front others))

pub ended : (shape : Shape) (front rest : List Told) → Spells shape front → length_at 0 (front ++ rest) ≡ length front
ended _ _ rest (Integer is) = rw is refl
ended _ _ rest (Pointer is) = rw is refl
ended _ _ rest (Nowhere is) = rw is refl
ended _ _ rest (Name is) = rw is refl
ended _ _ rest (Row right {shape = shape} {nodes = nodes} left_is count_is key_is right_is inner) =
    rw (left_is, count_is, key_is, append_assoc nodes (right ∷ []) rest, passed shape nodes (right ∷ rest) 0 inner, length-append nodes (right ∷ []), right_is) (omega arith)
ended _ _ rest (Plain right {fields = fields} {nodes = nodes} left_is right_is inner) =
    rw (left_is, append_assoc nodes (right ∷ []) rest, all_passed fields nodes (right ∷ rest) 0 inner, length-append nodes (right ∷ []), right_is) (omega arith)
ended _ _ rest (Packed right greater {fields = fields} {nodes = nodes} less_is left_is right_is greater_is inner) =
    rw (
      less_is,
      left_is,
      append_assoc nodes (right ∷ greater ∷ []) rest,
      all_passed fields nodes (right ∷ greater ∷ rest) 1 inner,
      length-append nodes (right ∷ greater ∷ []),
      right_is,
      greater_is,
    ) (omega arith)

-- ---- parts

pub last_left : (nodes : List Told) (last : Told) → without_last (nodes ++ last ∷ []) ≡ nodes
last_left nodes last = take_at nodes (last ∷ []) (length (nodes ++ last ∷ []) - 1) (omega (arith, length-append nodes (last ∷ [])))

pub element_spelled : (count : ℕ) (shape : Shape) (nodes : List Told) → Spells (Array count shape) nodes → Spells shape (element_of nodes)
element_spelled _ shape _ (Row right {nodes = nodes} left_is count_is key_is right_is inner) =
    subst (Spells shape) (sym (last_left nodes right)) inner

pub fields_spelled : (fields : Fields) (nodes : List Told) → Spells (Struct false fields) nodes → AreSpelled fields (fields_of nodes)
fields_spelled fields _ (Plain right {nodes = nodes} left_is right_is inner) =
    subst (AreSpelled fields) (sym (last_left nodes right)) inner

pub packed_spelled : (fields : Fields) (nodes : List Told) → Spells (Struct true fields) nodes → AreSpelled fields (packed_fields_of nodes)
packed_spelled fields _ (Packed right greater {nodes = nodes} less_is left_is right_is greater_is inner) =
    subst (λ all. AreSpelled fields (without_last (without_last all))) (append_assoc nodes (right ∷ []) (greater ∷ []))
    (subst (λ all. AreSpelled fields (without_last all)) (sym (last_left (nodes ++ right ∷ []) greater))
    (subst (AreSpelled fields) (sym (last_left nodes right)) inner))

pub form_shown : (shape : Shape) (nodes : List Told) → Spells shape nodes → form_of nodes ≡ form_of_shape shape
form_shown _ _ (Integer is) = rw is refl
form_shown _ _ (Pointer is) = rw is refl
form_shown _ _ (Nowhere is) = rw is refl
form_shown _ _ (Name is) = rw is refl
form_shown _ _ (Row right left_is count_is key_is right_is inner) = rw left_is refl
form_shown _ _ (Plain right left_is right_is inner) = rw left_is refl
form_shown _ _ (Packed right greater less_is left_is right_is greater_is inner) = rw less_is refl

pub name_shown : (name : List ℕ) (nodes : List Told) → Spells (Named name) nodes → struct_name nodes ≡ name
name_shown _ _ (Name is) = rw is refl

-- ---- equal texts

pub same_spelled : (nodes others : List Told) → map meaning nodes ≡ map meaning others → spelled nodes ≡ spelled others
same_spelled [] [] is = refl
same_spelled [] (other ∷ others) is = cc
same_spelled (node ∷ nodes) [] is = cc
same_spelled (node ∷ nodes) (other ∷ others) is =
    ap (λ (p : Terminal × List ℕ). spelled_by p.0 p.1 (spelled nodes)) (head_is is)
    ∙ ap (spelled_by other.terminal other.text) (same_spelled nodes others (tail_is is))
