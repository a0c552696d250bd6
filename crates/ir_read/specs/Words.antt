-- The words of the module language, by their lengths, with their classes.
use Rattle.std.specs.Prelude.{ℕ, List, [], ◌∷◌, ◌==◌, if◌then◌else◌, codes, bytes_eq, length}
use Rattle.ir_read.specs.declared.terminal.Terminal.{Terminal}
use Rattle.ir_read.specs.declared.terminal.Terminal.TheVariants as t

abbrev pub words_of_one : List (List ℕ × Terminal)
words_of_one =
    (codes "x", t.KeyX) ∷ []

abbrev pub words_of_two : List (List ℕ × Terminal)
words_of_two =
    (codes "i1", t.Int) ∷ (codes "i8", t.Int) ∷ (codes "to", t.KeyTo) ∷ (codes "or", t.Binary) ∷
    (codes "eq", t.Predicate) ∷ (codes "ne", t.Predicate) ∷ (codes "br", t.Br) ∷ []

abbrev pub words_of_three : List (List ℕ × Terminal)
words_of_three =
    (codes "nuw", t.Skipped) ∷ (codes "nsw", t.Skipped) ∷ (codes "i16", t.Int) ∷ (codes "i32", t.Int) ∷
    (codes "i64", t.Int) ∷ (codes "ptr", t.Ptr) ∷ (codes "add", t.Binary) ∷ (codes "sub", t.Binary) ∷
    (codes "mul", t.Binary) ∷ (codes "shl", t.Binary) ∷ (codes "and", t.Binary) ∷ (codes "xor", t.Binary) ∷
    (codes "ugt", t.Predicate) ∷ (codes "uge", t.Predicate) ∷ (codes "ult", t.Predicate) ∷
    (codes "ule", t.Predicate) ∷ (codes "sgt", t.Predicate) ∷ (codes "sge", t.Predicate) ∷
    (codes "slt", t.Predicate) ∷ (codes "sle", t.Predicate) ∷ (codes "phi", t.Phi) ∷ (codes "ret", t.Ret) ∷ []

abbrev pub words_of_four : List (List ℕ × Terminal)
words_of_four =
    (codes "tail", t.Skipped) ∷ (codes "nusw", t.Skipped) ∷ (codes "nneg", t.Skipped) ∷
    (codes "cold", t.Skipped) ∷ (codes "none", t.KeyNone) ∷ (codes "type", t.KeyType) ∷
    (codes "void", t.Void) ∷ (codes "true", t.LiteralWord) ∷ (codes "null", t.LiteralWord) ∷
    (codes "udiv", t.Binary) ∷ (codes "sdiv", t.Binary) ∷ (codes "urem", t.Binary) ∷
    (codes "srem", t.Binary) ∷ (codes "lshr", t.Binary) ∷ (codes "ashr", t.Binary) ∷
    (codes "icmp", t.Icmp) ∷ (codes "zext", t.Cast) ∷ (codes "sext", t.Cast) ∷ (codes "load", t.Load) ∷
    (codes "call", t.Call) ∷ []

abbrev pub words_of_five : List (List ℕ × Terminal)
words_of_five =
    (codes "exact", t.Skipped) ∷ (codes "align", t.Align) ∷ (codes "label", t.KeyLabel) ∷
    (codes "false", t.LiteralWord) ∷ (codes "trunc", t.Cast) ∷ (codes "store", t.Store) ∷ []

abbrev pub words_of_six : List (List ℕ × Terminal)
words_of_six =
    (codes "common", t.Skipped) ∷ (codes "notail", t.Skipped) ∷ (codes "hidden", t.Skipped) ∷
    (codes "nofree", t.Skipped) ∷ (codes "nosync", t.Skipped) ∷ (codes "immarg", t.Skipped) ∷
    (codes "global", t.KeyGlobal) ∷ (codes "define", t.KeyDefine) ∷ (codes "select", t.Select) ∷
    (codes "alloca", t.Alloca) ∷ (codes "switch", t.Switch) ∷ []

abbrev pub words_of_seven : List (List ℕ × Terminal)
words_of_seven =
    (codes "private", t.Skipped) ∷ (codes "noundef", t.Skipped) ∷ (codes "signext", t.Skipped) ∷
    (codes "zeroext", t.Skipped) ∷ (codes "noalias", t.Skipped) ∷ (codes "nonnull", t.Skipped) ∷
    (codes "optnone", t.Skipped) ∷ (codes "uwtable", t.Skipped) ∷ (codes "declare", t.KeyDeclare) ∷ []

abbrev pub words_of_eight : List (List ℕ × Terminal)
words_of_eight =
    (codes "internal", t.Skipped) ∷ (codes "volatile", t.Skipped) ∷ (codes "inbounds", t.Skipped) ∷
    (codes "disjoint", t.Skipped) ∷ (codes "samesign", t.Skipped) ∷ (codes "readonly", t.Skipped) ∷
    (codes "readnone", t.Skipped) ∷ (codes "returned", t.Skipped) ∷ (codes "nounwind", t.Skipped) ∷
    (codes "noinline", t.Skipped) ∷ (codes "noreturn", t.Skipped) ∷ (codes "captures", t.Captures) ∷
    (codes "constant", t.KeyGlobal) ∷ (codes "ptrtoint", t.Cast) ∷ (codes "inttoptr", t.IntToPtr) ∷ []

abbrev pub words_of_nine : List (List ℕ × Terminal)
words_of_nine =
    (codes "dso_local", t.Skipped) ∷ (codes "nocapture", t.Skipped) ∷ (codes "writeonly", t.Skipped) ∷ []

abbrev pub longer_words : List (List ℕ × Terminal)
longer_words =
    (codes "unnamed_addr", t.Skipped) ∷ (codes "local_unnamed_addr", t.Skipped) ∷
    (codes "mustprogress", t.Skipped) ∷ (codes "willreturn", t.Skipped) ∷
    (codes "dereferenceable", t.Dereferenceable) ∷ (codes "zeroinitializer", t.LiteralWord) ∷
    (codes "getelementptr", t.GetElementPtr) ∷ (codes "unreachable", t.Unreachable) ∷ []

-- the class of the text in these rows, or another one
abbrev pub class_in : Terminal → List (List ℕ × Terminal) → List ℕ → Terminal
class_in other [] text = other
class_in other (row ∷ rows) text = if bytes_eq text row.0 then row.1 else class_in other rows text

unfoldable pub word_class : List ℕ → Terminal
word_class word =
    let n = length word in
    if n == 1 then class_in t.OtherWord words_of_one word
    else if n == 2 then class_in t.OtherWord words_of_two word
    else if n == 3 then class_in t.OtherWord words_of_three word
    else if n == 4 then class_in t.OtherWord words_of_four word
    else if n == 5 then class_in t.OtherWord words_of_five word
    else if n == 6 then class_in t.OtherWord words_of_six word
    else if n == 7 then class_in t.OtherWord words_of_seven word
    else if n == 8 then class_in t.OtherWord words_of_eight word
    else if n == 9 then class_in t.OtherWord words_of_nine word
    else class_in t.OtherWord longer_words word
