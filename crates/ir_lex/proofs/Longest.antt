-- No token at a place is longer than the extent there says.
use Rattle.std.proofs.Common.{◌≡◌, ℕ, ◌+◌, ◌<◌, ◌≤◌, Bool, true, false, List, [], ◌∷◌, ◌++◌, length, slice_index, Option, Some, None, inl, inr, refl, sym, ap, subst, ◌∙◌, arith, add-one, append_assoc, length-append}
use Rattle.std.specs.Prelude.{◌==◌, ◌||◌, ◌&&◌}
use Rattle.std.specs.Char.{is_ascii_digit, is_ascii_alphabetic}
use Rattle.std.specs.List.{prefix_len, list_all}
use Rattle.std.proofs.lemmas.Bool.{and_parts, or_cases, cond_both, eqb-true, ne_eqb, both_ways, false_from_ne_true}
use Rattle.ir_lex.specs.declared.token.TokenKind.{TokenKind}
use Rattle.ir_lex.specs.declared.token.TokenKind.TheVariants as kinds
use Rattle.ir_lex.specs.Bytes.{is_mark, is_word_byte, is_name_byte, is_inside}
use Rattle.ir_lex.specs.Token.{is_some_of, begins, is_quoted, is_name, is_word, is_mark_text, is_token}
use Rattle.ir_lex.specs.Extent.{closed_len, quoted_len, name_len, with_more, c_extent, unlabelled_extent, extent_of}
use Rattle.ir_lex.proofs.Fronts.{run_at_least, run_stops, at_stop, at_next, all_weaken, ends_split}

-- a byte that passes is no other that doesn't
pub apart : (p : ℕ → Bool) (byte other : ℕ) → p byte ≡ true → p other ≡ false → (byte == other) ≡ false
apart p byte other passes fails = ne_eqb byte other (λ same. both_ways (p byte) (ap p same ∙ fails) passes)

word_is_name : (byte : ℕ) → is_word_byte byte ≡ true → is_name_byte byte ≡ true
word_is_name byte word = rw word refl

letter_is_name : (byte : ℕ) → is_ascii_alphabetic byte ≡ true → is_name_byte byte ≡ true
letter_is_name byte letter = grind arith

digit_is_name : (byte : ℕ) → is_ascii_digit byte ≡ true → is_name_byte byte ≡ true
digit_is_name byte digit = rw digit refl

letter_is_no_digit : (byte : ℕ) → is_ascii_alphabetic byte ≡ true → is_ascii_digit byte ≡ false
letter_is_no_digit byte letter = grind arith

name_is_no_mark : (byte : ℕ) → is_name_byte byte ≡ true → is_mark byte ≡ false
name_is_no_mark byte name =
    let no : (other : ℕ) → is_name_byte other ≡ false → (byte == other) ≡ false = λ other. apart is_name_byte byte other name in
    rw (no 40 refl, no 41 refl, no 91 refl, no 93 refl, no 123 refl, no 125 refl, no 60 refl, no 62 refl, no 61 refl, no 44 refl, no 42 refl, no 33 refl, no 124 refl) refl

-- an extent of so many bytes behind the first, or more
abbrev pub AtLeast : ℕ → Option (TokenKind × ℕ) → Type 0
AtLeast n None = ⊥
AtLeast n (Some extent) = n ≤ extent.1

abbrev pub Fits : List ℕ → List ℕ → Type 0
Fits [] back = ⊥
Fits (first ∷ more) back = AtLeast (length more) (extent_of first (more ++ back))

with_more_fits : (kind : TokenKind) (n more : ℕ) → 0 < n → n ≤ more → AtLeast n (with_more kind more)
with_more_fits kind n more some most =
    cond_both (more == 0) None (Some (kind, more)) (AtLeast n) (λ none. let zero_more = eqb-true more 0 none in omega arith) (λ _. most)

some_bytes : (p : ℕ → Bool) (xs back : List ℕ) → is_some_of p xs ≡ true → (0 < length xs) × (length xs ≤ prefix_len p (xs ++ back))
some_bytes p [] back never = absurd (cc)
some_bytes p (first ∷ xs) back some = (omega arith, run_at_least p (first ∷ xs) back some)

-- a quoted text, taken apart
pub quoted_split : (text : List ℕ) → is_quoted text ≡ true → (inside : List ℕ) × (text ≡ 34 ∷ (inside ++ 34 ∷ [])) × (list_all is_inside inside ≡ true)
quoted_split [] never = absurd (cc)
quoted_split (first ∷ rest) quoted =
    let parts = and_parts (first == 34) _ quoted in
    let split = ends_split 34 (list_all is_inside) rest parts.1 in
    let quote = eqb-true first 34 parts.0 in
    (split.0, ap (λ (byte : ℕ). byte ∷ rest) quote ∙ ap (λ (text : List ℕ). 34 ∷ text) split.1, split.2)

closed_at : (inside back : List ℕ) → list_all is_inside inside ≡ true → closed_len (inside ++ 34 ∷ back) ≡ length inside + 1
closed_at inside back all = rw (run_stops is_inside inside 34 back all refl, at_stop inside 34 back) refl

quoted_at : (inside back : List ℕ) → list_all is_inside inside ≡ true → quoted_len (34 ∷ (inside ++ 34 ∷ back)) ≡ length inside + 1 + 1
quoted_at inside back all =
    let some : (length inside + 1 == 0) ≡ false = ne_eqb _ _ (omega arith) in
    rw (closed_at inside back all, some) refl

quoted_name_fits : (inside back : List ℕ) → list_all is_inside inside ≡ true
    → length (34 ∷ (inside ++ 34 ∷ [])) ≤ name_len (34 ∷ ((inside ++ 34 ∷ []) ++ back))
quoted_name_fits inside back all =
    let some : (length inside + 1 + 1 == 0) ≡ false = ne_eqb _ _ (omega arith) in
    rw (append_assoc, quoted_at inside back all, some) (omega (arith, length-append inside (34 ∷ [])))

name_fits : (name back : List ℕ) → is_name name ≡ true → (0 < length name) × (length name ≤ name_len (name ++ back))
name_fits [] back never = absurd (cc)
name_fits (first ∷ rest) back name =
    elim (or_cases (is_some_of is_name_byte (first ∷ rest)) (is_quoted (first ∷ rest)) name) [
      | inl plain ↦
          let parts = and_parts (is_name_byte first) (list_all is_name_byte rest) plain in
          let unquoted = apart is_name_byte first 34 parts.0 refl in
          (omega arith, rw unquoted (run_at_least is_name_byte (first ∷ rest) back plain))
      | inr quoted ↦
          let split = quoted_split (first ∷ rest) quoted in
          (omega arith, subst (λ (text : List ℕ). length text ≤ name_len (text ++ back)) (sym split.1) (quoted_name_fits split.0 back split.2))
    ]

quoted_label_fits : (inside back : List ℕ) → list_all is_inside inside ≡ true → Fits (34 ∷ ((inside ++ 34 ∷ []) ++ 58 ∷ [])) back
unfolding extent_of
quoted_label_fits inside back all =
    let some : (length inside + 1 == 0) ≡ false = ne_eqb _ _ (omega arith) in
    let colon : slice_index (inside ++ 34 ∷ 58 ∷ back) (length inside + 1) ≡ 58 = rw add-one (at_next inside 34 58 back) in
    simp append_assoc (rw (closed_at inside (58 ∷ back) all, some, colon) (omega (arith, length-append inside (34 ∷ 58 ∷ []))))

plain_label_fits : (first : ℕ) (rest back : List ℕ) → is_name_byte first ≡ true → list_all is_name_byte rest ≡ true → Fits (first ∷ (rest ++ 58 ∷ [])) back
unfolding extent_of
plain_label_fits first rest back name all =
    simp append_assoc (rw (name, run_stops is_name_byte rest 58 back all refl, at_stop rest 58 back) (omega (arith, length-append rest (58 ∷ []))))

label_fits : (name back : List ℕ) → is_name name ≡ true → Fits (name ++ 58 ∷ []) back
label_fits [] back never = absurd (cc)
label_fits (first ∷ rest) back name =
    elim (or_cases (is_some_of is_name_byte (first ∷ rest)) (is_quoted (first ∷ rest)) name) [
      | inl plain ↦
          let parts = and_parts (is_name_byte first) (list_all is_name_byte rest) plain in
          plain_label_fits first rest back parts.0 parts.1
      | inr quoted ↦
          let split = quoted_split (first ∷ rest) quoted in
          subst (λ (text : List ℕ). Fits (text ++ 58 ∷ []) back) (sym split.1) (quoted_label_fits split.0 back split.2)
    ]

c_fits : (more back : List ℕ) → list_all is_word_byte more ≡ true → length more ≤ (c_extent (more ++ back)).1
c_fits [] back all = omega arith
c_fits (first ∷ more) back all =
    let parts = and_parts (is_word_byte first) (list_all is_word_byte more) all in
    let unquoted = apart is_word_byte first 34 parts.0 refl in
    rw unquoted (run_at_least is_word_byte (first ∷ more) back all)

-- what begins with a byte of a name, where the bytes of the token are a run of such bytes
plain_fits : (first : ℕ) (more back : List ℕ) → is_name_byte first ≡ true → list_all is_name_byte more ≡ true
    → AtLeast (length more) (unlabelled_extent first (more ++ back)) → Fits (first ∷ more) back
unfolding extent_of
plain_fits first more back name all other =
    let run = run_at_least is_name_byte more back all in
    rw name (cond_both (slice_index (more ++ back) (prefix_len is_name_byte (more ++ back)) == 58) _ _ (AtLeast (length more)) (λ _. omega arith) (λ _. other))

word_fits : (first : ℕ) (more back : List ℕ) → is_ascii_alphabetic first ≡ true → list_all is_word_byte more ≡ true → Fits (first ∷ more) back
word_fits first more back letter all =
    let no_digit = letter_is_no_digit first letter in
    plain_fits first more back (letter_is_name first letter) (all_weaken is_word_byte is_name_byte more word_is_name all)
    (rw (no_digit, letter) (cond_both (first == 99) _ _ (AtLeast (length more)) (λ _. c_fits more back all) (λ _. run_at_least is_word_byte more back all)))

digits_fit : (first : ℕ) (more back : List ℕ) → is_ascii_digit first ≡ true → list_all is_ascii_digit more ≡ true → Fits (first ∷ more) back
digits_fit first more back digit all =
    plain_fits first more back (digit_is_name first digit) (all_weaken is_ascii_digit is_name_byte more digit_is_name all)
    (rw digit (run_at_least is_ascii_digit more back all))

minus_fits : (more back : List ℕ) → is_some_of is_ascii_digit more ≡ true → Fits (45 ∷ more) back
minus_fits [] back never = absurd (cc)
minus_fits (first ∷ more) back digits =
    plain_fits 45 (first ∷ more) back refl (all_weaken is_ascii_digit is_name_byte (first ∷ more) digit_is_name digits)
    (with_more_fits kinds.Number (length (first ∷ more)) _ (omega arith) (run_at_least is_ascii_digit (first ∷ more) back digits))

text_fits : (text back : List ℕ) → is_quoted text ≡ true → Fits text back
unfolding extent_of
text_fits text back quoted =
    let split = quoted_split text quoted in
    let inside = split.0 in
    let some : (length inside + 1 == 0) ≡ false = ne_eqb _ _ (omega arith) in
    let here : Fits (34 ∷ (inside ++ 34 ∷ [])) back =
    rw (append_assoc, closed_at inside back split.2, some)
    (cond_both (slice_index (inside ++ 34 ∷ back) (length inside + 1) == 58) _ _ (AtLeast (length (inside ++ 34 ∷ [])))
    (λ _. omega (arith, length-append inside (34 ∷ []))) (λ _. omega (arith, length-append inside (34 ∷ []))))
    in subst (λ (t : List ℕ). Fits t back) (sym split.1) here

c_text_fits : (text back : List ℕ) → is_quoted text ≡ true → Fits (99 ∷ text) back
unfolding extent_of
c_text_fits text back quoted =
    let split = quoted_split text quoted in
    let inside = split.0 in
    let some : (length inside + 1 + 1 == 0) ≡ false = ne_eqb _ _ (omega arith) in
    let here : Fits (99 ∷ 34 ∷ (inside ++ 34 ∷ [])) back =
    rw (append_assoc, quoted_at inside back split.2, some) (omega (arith, length-append inside (34 ∷ [])))
    in subst (λ (t : List ℕ). Fits (99 ∷ t) back) (sym split.1) here

bang_fits : (more back : List ℕ) → is_some_of is_word_byte more ≡ true → Fits (33 ∷ more) back
unfolding extent_of
bang_fits more back some =
    let most = some_bytes is_word_byte more back some in
    cond_both (prefix_len is_word_byte (more ++ back) == 0) _ _ (AtLeast (length more))
    (λ none. let zero_more = eqb-true _ 0 none in omega arith) (λ _. most.1)

hash_fits : (more back : List ℕ) → is_some_of is_ascii_digit more ≡ true → Fits (35 ∷ more) back
unfolding extent_of
hash_fits more back some =
    let most = some_bytes is_ascii_digit more back some in with_more_fits kinds.Meta (length more) _ most.0 most.1

sigil_fits : (sigil : ℕ) (kind : TokenKind) (name back : List ℕ) → extent_of sigil (name ++ back) ≡ with_more kind (name_len (name ++ back))
    → is_name name ≡ true → Fits (sigil ∷ name) back
sigil_fits sigil kind name back is named =
    let most = name_fits name back named in rw is (with_more_fits kind (length name) _ most.0 most.1)

mark_fits : (first : ℕ) (back : List ℕ) → is_mark first ≡ true → Fits (first ∷ []) back
unfolding extent_of
mark_fits first back mark =
    let no : (other : ℕ) → is_mark other ≡ false → (first == other) ≡ false = λ other. apart is_mark first other mark in
    let plain : is_name_byte first ≡ false = false_from_ne_true _ (λ name. both_ways _ (name_is_no_mark first name) mark) in
    rw (plain, no 34 refl, no 37 refl, no 64 refl, no 35 refl, mark)
    (cond_both (first == 33) _ _ (AtLeast 0)
    (λ _. cond_both (prefix_len is_word_byte back == 0) _ _ (AtLeast 0) (λ _. omega arith) (λ _. omega arith)) (λ _. omega arith))

dots_fit : (back : List ℕ) → Fits (46 ∷ 46 ∷ 46 ∷ []) back
unfolding extent_of
dots_fit back =
    cond_both (slice_index (46 ∷ 46 ∷ back) (prefix_len is_name_byte (46 ∷ 46 ∷ back)) == 58) _ _ (AtLeast 2) (λ _. omega arith) (λ _. omega arith)

mark_text_fits : (text back : List ℕ) → is_mark_text text ≡ true → Fits text back
mark_text_fits [] back never = absurd (cc)
mark_text_fits (first ∷ []) back mark = mark_fits first back mark
mark_text_fits (first ∷ second ∷ []) back never = absurd (cc)
mark_text_fits (first ∷ second ∷ third ∷ []) back dots =
    let parts = and_parts (first == 46 && second == 46) (third == 46) dots in
    let front = and_parts (first == 46) (second == 46) parts.0 in
    rw (eqb-true first 46 front.0, eqb-true second 46 front.1, eqb-true third 46 parts.1) (dots_fit back)
mark_text_fits (first ∷ second ∷ third ∷ fourth ∷ rest) back never = absurd (cc)

word_text_fits : (text back : List ℕ) → is_word text ≡ true → Fits text back
word_text_fits [] back never = absurd (cc)
word_text_fits (first ∷ more) back word =
    let parts = and_parts (is_ascii_alphabetic first) (list_all is_word_byte more) word in word_fits first more back parts.0 parts.1

number_fits : (text back : List ℕ) → is_some_of is_ascii_digit text ≡ true → Fits text back
number_fits [] back never = absurd (cc)
number_fits (first ∷ more) back number =
    let parts = and_parts (is_ascii_digit first) (list_all is_ascii_digit more) number in digits_fit first more back parts.0 parts.1

-- a text that begins with a byte
begun : (byte : ℕ) (passes : List ℕ → Bool) (text back : List ℕ) → ((more : List ℕ) → passes more ≡ true → Fits (byte ∷ more) back) → begins byte passes text ≡ true → Fits text back
begun byte passes [] back fits never = absurd (cc)
begun byte passes (first ∷ more) back fits begun_by =
    let parts = and_parts (first == byte) (passes more) begun_by in
    subst (λ (b : ℕ). Fits (b ∷ more) back) (sym (eqb-true first byte parts.0)) (fits more parts.1)

either : (left right : Bool) (text back : List ℕ) → (left ≡ true → Fits text back) → (right ≡ true → Fits text back) → (left || right) ≡ true → Fits text back
either left right text back one other both = elim (or_cases left right both) [ inl yes_left ↦ one yes_left | inr yes_right ↦ other yes_right ]

pub token_fits : (kind : TokenKind) (text back : List ℕ) → is_token kind text ≡ true → Fits text back
unfolding extent_of
token_fits kinds.Local text back token = begun 37 is_name text back (λ name. sigil_fits 37 kinds.Local name back refl) token
token_fits kinds.Global text back token = begun 64 is_name text back (λ name. sigil_fits 64 kinds.Global name back refl) token
token_fits kinds.Label text back token =
    let split = ends_split 58 is_name text token in
    subst (λ (t : List ℕ). Fits t back) (sym split.1) (label_fits split.0 back split.2)
token_fits kinds.Word text back token = word_text_fits text back token
token_fits kinds.Number text back token =
    either (is_some_of is_ascii_digit text) _ text back (number_fits text back) (begun 45 (is_some_of is_ascii_digit) text back (λ more. minus_fits more back)) token
token_fits kinds.Text text back token =
    either (is_quoted text) _ text back (text_fits text back) (begun 99 is_quoted text back (λ more. c_text_fits more back)) token
token_fits kinds.Meta text back token =
    either (begins 33 (is_some_of is_word_byte) text) _ text back (begun 33 (is_some_of is_word_byte) text back (λ more. bang_fits more back))
    (begun 35 (is_some_of is_ascii_digit) text back (λ more. hash_fits more back)) token
token_fits kinds.Mark text back token = mark_text_fits text back token
