-- Texts in which a byte does not stand, and how they are parted at it.
use Rattle.std.proofs.Common.{◌≡◌, ℕ, Bool, true, false, eqb, eq-eqb, eqb-true, List, [], ◌∷◌, ◌++◌, refl, ap, ◌∙◌, sym, append-nil, append_assoc}
use Rattle.std.specs.Prelude.{codes}
use Rattle.std.specs.List.{AllByRecursion, join_with_byte, list_all}
use Rattle.std.proofs.lemmas.Bool.{and_parts}
use Rattle.std.proofs.lemmas.List.Splits.{join_with_byte-slice_split}
use Rattle.text_lines.specs.Part.{Lacks, lines_text, parts_of}

pub lacks_append : (byte : ℕ) (a b : List ℕ) → Lacks byte a → Lacks byte b → Lacks byte (a ++ b)
lacks_append byte [] b left right = right
lacks_append byte (x ∷ a) b left right = (left.0, lacks_append byte a b left.1 right)

apart : (test : ℕ → Bool) (b byte : ℕ) (same : Bool) → eqb b byte ≡ same → test b ≡ true → test byte ≡ false → eqb b byte ≡ false
apart test b byte true same passes other = let equal = eqb-true b byte same in cc (ap test equal)
apart test b byte false same passes other = same

-- a text of bytes that pass a test lacks a byte that does not
pub passing_lack : (test : ℕ → Bool) (byte : ℕ) (text : List ℕ) → test byte ≡ false → list_all test text ≡ true → Lacks byte text
passing_lack test byte [] other is = tt
passing_lack test byte (b ∷ text) other is =
    let parts = and_parts _ _ is in
    (apart test b byte (eqb b byte) refl parts.0 other, passing_lack test byte text other parts.1)

-- what stands before the first such byte is a part
pub part_before : (byte : ℕ) (word rest : List ℕ) → Lacks byte word → parts_of byte (word ++ byte ∷ rest) ≡ word ∷ parts_of byte rest
part_before byte [] rest lacks = rw (eq-eqb byte byte refl) refl
part_before byte (x ∷ word) rest lacks = let x_is : eqb x byte ≡ false = lacks.0 in rw (x_is, part_before byte word rest lacks.1) refl

pub part_whole : (byte : ℕ) (word : List ℕ) → Lacks byte word → parts_of byte word ≡ word ∷ []
part_whole byte [] lacks = refl
part_whole byte (x ∷ word) lacks = let x_is : eqb x byte ≡ false = lacks.0 in rw (x_is, part_whole byte word lacks.1) refl

pub parts_joined : (byte : ℕ) (word : List ℕ) (words : List (List ℕ)) → Lacks byte word → AllByRecursion (Lacks byte) words →
    parts_of byte (join_with_byte byte (word ∷ words)) ≡ word ∷ words
parts_joined byte word [] lacks others = part_whole byte word lacks
parts_joined byte word (next ∷ words) lacks others =
    part_before byte word (join_with_byte byte (next ∷ words)) lacks
    ∙ ap (λ parts. word ∷ parts) (parts_joined byte next words others.0 others.1)

-- words with spaces between them
pub lacks_joined : (byte : ℕ) (words : List (List ℕ)) → eqb 32 byte ≡ false → AllByRecursion (Lacks byte) words →
    Lacks byte (join_with_byte 32 words)
lacks_joined byte [] space lacks = tt
lacks_joined byte (word ∷ []) space lacks = lacks.0
lacks_joined byte (word ∷ next ∷ words) space lacks =
    lacks_append byte word (32 ∷ join_with_byte 32 (next ∷ words)) lacks.0 (space, lacks_joined byte (next ∷ words) space lacks.1)

pub text_joined : (byte : ℕ) (text : List ℕ) → join_with_byte byte (parts_of byte text) ≡ text
text_joined byte text = join_with_byte-slice_split byte text

pub joined_again : (byte : ℕ) (text : List ℕ) (parts : List (List ℕ)) → parts_of byte text ≡ parts → text ≡ join_with_byte byte parts
joined_again byte text parts is = sym (join_with_byte-slice_split byte text) ∙ ap (join_with_byte byte) is

-- lines with their line feeds
pub lines_parted : (lines : List (List ℕ)) (rest : List ℕ) → AllByRecursion (Lacks 10) lines →
    parts_of 10 (lines_text lines ++ rest) ≡ lines ++ parts_of 10 rest
lines_parted [] rest lack = refl
lines_parted (line ∷ lines) rest lack =
    ap (parts_of 10) (append_assoc (line ++ codes "\n") (lines_text lines) rest ∙ append_assoc line (codes "\n") (lines_text lines ++ rest))
    ∙ part_before 10 line (lines_text lines ++ rest) lack.0
    ∙ ap (λ parts. line ∷ parts) (lines_parted lines rest lack.1)

pub lines_joined : (lines : List (List ℕ)) (last : List ℕ) → join_with_byte 10 (lines ++ last ∷ []) ≡ lines_text lines ++ last
lines_joined [] last = refl
lines_joined (line ∷ []) last =
    sym (append_assoc line (codes "\n") last) ∙ ap (λ text. text ++ last) (sym (append-nil (line ++ codes "\n")))
lines_joined (line ∷ next ∷ lines) last =
    ap (λ rest. line ++ 10 ∷ rest) (lines_joined (next ∷ lines) last)
    ∙ sym (append_assoc line (codes "\n") (lines_text (next ∷ lines) ++ last))
    ∙ sym (append_assoc (line ++ codes "\n") (lines_text (next ∷ lines)) last)
