-- Which lines may be skipped whole, by their first byte.
use Rattle.std.proofs.Common.{◌≡◌, ◌≢◌, ℕ, Bool, true, false, List, [], ◌∷◌, refl, sym, codes, length}
use Rattle.std.specs.Prelude.{◌||◌, ◌==◌}
use Rattle.std.proofs.lemmas.Bool.{ne_eqb}
use Rattle.ir_lex.specs.Gap.{begins_with, is_heading, is_debug_line, is_skipped}

-- a line that begins with another byte than a word begins with neither it nor it and a marker
no_word : (code : ℕ) (word : List ℕ) (first : ℕ) (rest : List ℕ) → (code == first) ≡ false → begins_with (first ∷ rest) (code ∷ word) ≡ false
unfolding begins_with
no_word code word first rest other = rw other refl

no_line : (code : ℕ) (words : List ℕ) (first : ℕ) (rest : List ℕ) → (code == first) ≡ false → is_debug_line (first ∷ rest) (code ∷ words) ≡ false
unfolding is_debug_line
no_line code words first rest other = rw (no_word code words first rest other) refl

-- a test, and so many tests behind it, which fail
or_seven : (test : Bool) → (test || false || false || false || false || false || false || false) ≡ test
or_seven true = refl
or_seven false = refl

or_five : (test : Bool) → (test || false || false || false || false || false) ≡ test
or_five true = refl
or_five false = refl

or_three : (test : Bool) → (test || false || false || false) ≡ test
or_three true = refl
or_three false = refl

or_two : (test : Bool) → (test || false || false) ≡ test
or_two true = refl
or_two false = refl

or_between : (test other : Bool) → (test || false || false || false || false || other || false) ≡ (test || other)
or_between true other = refl
or_between false true = refl
or_between false false = refl

metadata_first : (rest : List ℕ) → begins_with (33 ∷ rest) (codes "!") ≡ true
unfolding begins_with
metadata_first rest = refl

no_source : (first : ℕ) (rest : List ℕ) → (115 == first) ≡ false → begins_with (first ∷ rest) (codes "source_filename") ≡ false
no_source = no_word 115 (codes "ource_filename")

no_target : (first : ℕ) (rest : List ℕ) → (116 == first) ≡ false → begins_with (first ∷ rest) (codes "target") ≡ false
no_target = no_word 116 (codes "arget")

no_attributes : (first : ℕ) (rest : List ℕ) → (97 == first) ≡ false → begins_with (first ∷ rest) (codes "attributes") ≡ false
no_attributes = no_word 97 (codes "ttributes")

no_metadata : (first : ℕ) (rest : List ℕ) → (33 == first) ≡ false → begins_with (first ∷ rest) (codes "!") ≡ false
no_metadata = no_word 33 (codes "")

no_record : (first : ℕ) (rest : List ℕ) → (35 == first) ≡ false → begins_with (first ∷ rest) (codes "#dbg_") ≡ false
no_record = no_word 35 (codes "dbg_")

no_call : (first : ℕ) (rest : List ℕ) → (99 == first) ≡ false → is_debug_line (first ∷ rest) (codes "call void") ≡ false
no_call = no_line 99 (codes "all void")

no_tail : (first : ℕ) (rest : List ℕ) → (116 == first) ≡ false → is_debug_line (first ∷ rest) (codes "tail call void") ≡ false
no_tail = no_line 116 (codes "ail call void")

no_declare : (first : ℕ) (rest : List ℕ) → (100 == first) ≡ false → is_debug_line (first ∷ rest) (codes "declare void") ≡ false
no_declare = no_line 100 (codes "eclare void")

pub skipped_source : (bytes rest : List ℕ) (first : ℕ) → bytes ≡ first ∷ rest → first ≡ 115
    → is_skipped bytes ≡ begins_with bytes (codes "source_filename")
unfolding is_skipped is_heading
skipped_source bytes rest first is here =
    rw (is, here, no_target 115 rest refl, no_attributes 115 rest refl, no_metadata 115 rest refl, no_record 115 rest refl, no_call 115 rest refl, no_tail 115 rest refl, no_declare 115 rest refl)
    (or_seven (begins_with (115 ∷ rest) (codes "source_filename")))

pub skipped_target : (bytes rest : List ℕ) (first : ℕ) → bytes ≡ first ∷ rest → first ≡ 116
    → is_skipped bytes ≡ (begins_with bytes (codes "target") || is_debug_line bytes (codes "tail call void"))
unfolding is_skipped is_heading
skipped_target bytes rest first is here =
    rw (is, here, no_source 116 rest refl, no_attributes 116 rest refl, no_metadata 116 rest refl, no_record 116 rest refl, no_call 116 rest refl, no_declare 116 rest refl)
    (or_between (begins_with (116 ∷ rest) (codes "target")) (is_debug_line (116 ∷ rest) (codes "tail call void")))

pub skipped_attributes : (bytes rest : List ℕ) (first : ℕ) → bytes ≡ first ∷ rest → first ≡ 97
    → is_skipped bytes ≡ begins_with bytes (codes "attributes")
unfolding is_skipped is_heading
skipped_attributes bytes rest first is here =
    rw (is, here, no_source 97 rest refl, no_target 97 rest refl, no_metadata 97 rest refl, no_record 97 rest refl, no_call 97 rest refl, no_tail 97 rest refl, no_declare 97 rest refl)
    (or_five (begins_with (97 ∷ rest) (codes "attributes")))

pub skipped_metadata : (bytes rest : List ℕ) (first : ℕ) → bytes ≡ first ∷ rest → first ≡ 33 → is_skipped bytes ≡ true
unfolding is_skipped is_heading
skipped_metadata bytes rest first is here =
    rw (is, here, no_source 33 rest refl, no_target 33 rest refl, no_attributes 33 rest refl, metadata_first rest) refl

pub skipped_record : (bytes rest : List ℕ) (first : ℕ) → bytes ≡ first ∷ rest → first ≡ 35
    → is_skipped bytes ≡ begins_with bytes (codes "#dbg_")
unfolding is_skipped is_heading
skipped_record bytes rest first is here =
    rw (is, here, no_source 35 rest refl, no_target 35 rest refl, no_attributes 35 rest refl, no_metadata 35 rest refl, no_call 35 rest refl, no_tail 35 rest refl, no_declare 35 rest refl)
    (or_three (begins_with (35 ∷ rest) (codes "#dbg_")))

pub skipped_call : (bytes rest : List ℕ) (first : ℕ) → bytes ≡ first ∷ rest → first ≡ 99
    → is_skipped bytes ≡ is_debug_line bytes (codes "call void")
unfolding is_skipped is_heading
skipped_call bytes rest first is here =
    rw (is, here, no_source 99 rest refl, no_target 99 rest refl, no_attributes 99 rest refl, no_metadata 99 rest refl, no_record 99 rest refl, no_tail 99 rest refl, no_declare 99 rest refl)
    (or_two (is_debug_line (99 ∷ rest) (codes "call void")))

pub skipped_declare : (bytes rest : List ℕ) (first : ℕ) → bytes ≡ first ∷ rest → first ≡ 100
    → is_skipped bytes ≡ is_debug_line bytes (codes "declare void")
unfolding is_skipped is_heading
skipped_declare bytes rest first is here =
    rw (is, here, no_source 100 rest refl, no_target 100 rest refl, no_attributes 100 rest refl, no_metadata 100 rest refl, no_record 100 rest refl, no_call 100 rest refl, no_tail 100 rest refl)
    refl

pub skipped_never : (bytes rest : List ℕ) (first : ℕ) → bytes ≡ first ∷ rest
    → first ≢ 33 → first ≢ 35 → first ≢ 97 → first ≢ 99 → first ≢ 100 → first ≢ 115 → first ≢ 116
    → is_skipped bytes ≡ false
unfolding is_skipped is_heading
skipped_never bytes rest first is n33 n35 n97 n99 n100 n115 n116 =
    let no : (code : ℕ) → first ≢ code → (code == first) ≡ false = λ code other. ne_eqb code first (λ same. other (sym same)) in
    rw (
      is,
      no_source first rest (no 115 n115),
      no_target first rest (no 116 n116),
      no_attributes first rest (no 97 n97),
      no_metadata first rest (no 33 n33),
      no_record first rest (no 35 n35),
      no_call first rest (no 99 n99),
      no_tail first rest (no 116 n116),
      no_declare first rest (no 100 n100),
    ) refl

pub skipped_end : (bytes : List ℕ) → length bytes ≡ 0 → is_skipped bytes ≡ false
unfolding is_skipped is_heading is_debug_line begins_with
skipped_end [] none = refl
skipped_end (first ∷ rest) none = cc
