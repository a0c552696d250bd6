-- An extent spells a token of its kind, and a token stands on one line.
use Rattle.std.proofs.Common.{◌≡◌, ℕ, ◌+◌, Bool, true, false, cond, List, [], ◌∷◌, take, slice_index, Option, Some, None, inl, inr, refl, sym, subst, add-one}
use Rattle.std.proofs.Math.Numerals.{one-add}
use Rattle.std.specs.Prelude.{◌==◌, ◌||◌, ◌&&◌, not}
use Rattle.std.specs.Char.{is_ascii_digit, is_ascii_alphabetic}
use Rattle.std.specs.List.{prefix_len, list_all}
use Rattle.std.proofs.lemmas.Bool.{and_parts, and_from, or_cases, or_left, or_right, cond_both, eqb-true, not-true, not_from_false}
use Rattle.ir_lex.specs.declared.token.TokenKind.{TokenKind}
use Rattle.ir_lex.specs.declared.token.TokenKind.TheVariants as kinds
use Rattle.ir_lex.specs.Bytes.{is_mark, is_word_byte, is_name_byte, is_inside, is_in_line}
use Rattle.ir_lex.specs.Token.{is_some_of, begins, ends, is_quoted, is_name, is_word, is_mark_text, is_token}
use Rattle.ir_lex.specs.Extent.{closed_len, quoted_len, name_len, with_more, c_extent, unlabelled_extent, plain_extent, quote_extent, extent_of}
use Rattle.ir_lex.proofs.Fronts.{all_weaken, all_end, run_passes, ends_split, ends_joined, take_next}
use Rattle.ir_lex.proofs.Longest.{apart, quoted_split}

-- what an extent says of a first byte and the bytes behind it
abbrev pub Shaped : ℕ → List ℕ → Option (TokenKind × ℕ) → Type 0
Shaped first rest None = Unit {0}
Shaped first rest (Some extent) = is_token extent.0 (first ∷ take extent.1 rest) ≡ true

some_passes : (p : ℕ → Bool) (xs : List ℕ) → (prefix_len p xs == 0) ≡ false → is_some_of p (take (prefix_len p xs) xs) ≡ true
some_passes p [] none = cc
some_passes p (first ∷ xs) some =
    elim (p first) as (λ b. p first ≡ b → (cond b (1 + prefix_len p xs) 0 == 0) ≡ false → is_some_of p (take (cond b (1 + prefix_len p xs) 0) (first ∷ xs)) ≡ true) [
      | true ↦ λ passing _. rw (one-add, passing) (run_passes p xs)
      | false ↦ λ _ none. cc
    ] refl some

closed_shape : (rest : List ℕ) → (closed_len rest == 0) ≡ false → ends 34 (list_all is_inside) (take (closed_len rest) rest) ≡ true
closed_shape rest some =
    let n = prefix_len is_inside rest in
    elim (slice_index rest n == 34) as (λ b. (slice_index rest n == 34) ≡ b → (cond b (n + 1) 0 == 0) ≡ false → ends 34 (list_all is_inside) (take (cond b (n + 1) 0) rest) ≡ true) [
      | true ↦ λ quote _. rw (add-one n, take_next rest n 34 (λ zero_byte. cc) (eqb-true _ 34 quote)) (ends_joined 34 (list_all is_inside) (take n rest) (run_passes is_inside rest))
      | false ↦ λ _ none. cc
    ] refl some

quoted_shape : (bytes : List ℕ) → (quoted_len bytes == 0) ≡ false → is_quoted (take (quoted_len bytes) bytes) ≡ true
quoted_shape [] none = cc
quoted_shape (first ∷ rest) some =
    let test = first == 34 && not (closed_len rest == 0) in
    elim test as (λ b. test ≡ b → (cond b (closed_len rest + 1) 0 == 0) ≡ false → is_quoted (take (cond b (closed_len rest + 1) 0) (first ∷ rest)) ≡ true) [
      | true ↦ λ both _.
          let parts = and_parts (first == 34) (not (closed_len rest == 0)) both in
          rw (add-one (closed_len rest)) (and_from _ _ parts.0 (closed_shape rest (not-true _ parts.1)))
      | false ↦ λ _ none. cc
    ] refl some

name_shape : (bytes : List ℕ) → (name_len bytes == 0) ≡ false → is_name (take (name_len bytes) bytes) ≡ true
name_shape bytes some =
    elim (quoted_len bytes == 0) as (λ b. (quoted_len bytes == 0) ≡ b → (cond b (prefix_len is_name_byte bytes) (quoted_len bytes) == 0) ≡ false
    → is_name (take (cond b (prefix_len is_name_byte bytes) (quoted_len bytes)) bytes) ≡ true) [
      | true ↦ λ _ plain. or_left _ _ (some_passes is_name_byte bytes plain)
      | false ↦ λ quoted _. or_right _ _ (quoted_shape bytes quoted)
    ] refl some

with_more_shape : (kind : TokenKind) (first more : ℕ) (rest : List ℕ) → ((more == 0) ≡ false → is_token kind (first ∷ take more rest) ≡ true) → Shaped first rest (with_more kind more)
with_more_shape kind first more rest some = cond_both (more == 0) None (Some (kind, more)) (Shaped first rest) (λ _. tt) some

c_shape : (rest : List ℕ) → Shaped 99 rest (Some (c_extent rest))
c_shape rest =
    cond_both (quoted_len rest == 0) _ _ (λ (extent : TokenKind × ℕ). is_token extent.0 (99 ∷ take extent.1 rest) ≡ true)
    (λ _. run_passes is_word_byte rest) (λ quoted. quoted_shape rest quoted)

dots_shape : (first : ℕ) (rest : List ℕ) → (first == 46 && slice_index rest 0 == 46 && slice_index rest 1 == 46) ≡ true → is_mark_text (first ∷ take 2 rest) ≡ true
dots_shape first [] dots = let never = and_parts _ (0 == 46) dots in absurd (cc)
dots_shape first (second ∷ []) dots = let never = and_parts _ (0 == 46) dots in absurd (cc)
dots_shape first (second ∷ third ∷ rest) dots = dots

unlabelled_shape : (first : ℕ) (rest : List ℕ) → Shaped first rest (unlabelled_extent first rest)
unlabelled_shape first rest =
    cond_both (is_ascii_digit first) _ _ (Shaped first rest) (λ digit. or_left _ _ (and_from _ _ digit (run_passes is_ascii_digit rest)))
    (λ _. cond_both (first == 99) _ _ (Shaped first rest) (λ c. subst (λ (byte : ℕ). Shaped byte rest (Some (c_extent rest))) (sym (eqb-true first 99 c)) (c_shape rest))
    (λ _. cond_both (is_ascii_alphabetic first) _ _ (Shaped first rest) (λ letter. and_from _ _ letter (run_passes is_word_byte rest))
    (λ _. cond_both (first == 45) _ _ (Shaped first rest) (λ minus. with_more_shape kinds.Number first _ rest (λ some. or_right _ _ (and_from _ _ minus (some_passes is_ascii_digit rest some))))
    (λ _. cond_both (first == 46 && slice_index rest 0 == 46 && slice_index rest 1 == 46) _ _ (Shaped first rest) (dots_shape first rest) (λ _. tt)))))

labelled : (first : ℕ) (rest : List ℕ) (n : ℕ) → slice_index rest n ≡ 58 → is_name (first ∷ take n rest) ≡ true → is_token kinds.Label (first ∷ take (n + 1) rest) ≡ true
labelled first rest n colon name = rw (add-one n, take_next rest n 58 (λ zero_byte. cc) colon) (ends_joined 58 is_name (first ∷ take n rest) name)

plain_shape : (first : ℕ) (rest : List ℕ) → is_name_byte first ≡ true → Shaped first rest (plain_extent first rest)
plain_shape first rest name =
    let n = prefix_len is_name_byte rest in
    cond_both (slice_index rest n == 58) _ _ (Shaped first rest)
    (λ colon. labelled first rest n (eqb-true _ 58 colon) (or_left _ _ (and_from _ _ name (run_passes is_name_byte rest)))) (λ _. unlabelled_shape first rest)

quote_shape : (first : ℕ) (rest : List ℕ) → (first == 34) ≡ true → Shaped first rest (quote_extent rest)
quote_shape first rest quote =
    cond_both (closed_len rest == 0) _ _ (Shaped first rest) (λ _. tt)
    (λ some.
    let quoted : is_quoted (first ∷ take (closed_len rest) rest) ≡ true = and_from _ _ quote (closed_shape rest some) in
    cond_both (slice_index rest (closed_len rest) == 58) _ _ (Shaped first rest)
    (λ colon. labelled first rest (closed_len rest) (eqb-true _ 58 colon) (or_right _ _ quoted)) (λ _. or_left _ _ quoted))

pub extent_shape : (first : ℕ) (rest : List ℕ) → Shaped first rest (extent_of first rest)
unfolding extent_of
extent_shape first rest =
    cond_both (is_name_byte first) _ _ (Shaped first rest) (plain_shape first rest)
    (λ _. cond_both (first == 34) _ _ (Shaped first rest) (quote_shape first rest)
    (λ _. cond_both (first == 37) _ _ (Shaped first rest) (λ sigil. with_more_shape kinds.Local first _ rest (λ some. and_from _ _ sigil (name_shape rest some)))
    (λ _. cond_both (first == 64) _ _ (Shaped first rest) (λ sigil. with_more_shape kinds.Global first _ rest (λ some. and_from _ _ sigil (name_shape rest some)))
    (λ _. cond_both (first == 33) _ _ (Shaped first rest)
    (λ bang. cond_both (prefix_len is_word_byte rest == 0) _ _ (Shaped first rest) (λ _. rw (eqb-true first 33 bang) refl) (λ some. or_left _ _ (and_from _ _ bang (some_passes is_word_byte rest some))))
    (λ _. cond_both (first == 35) _ _ (Shaped first rest) (λ hash. with_more_shape kinds.Meta first _ rest (λ some. or_right _ _ (and_from _ _ hash (some_passes is_ascii_digit rest some))))
    (λ _. cond_both (is_mark first) _ _ (Shaped first rest) (λ mark. mark) (λ _. tt)))))))

-- bytes of a class without the line feed
in_line : (p : ℕ → Bool) (xs : List ℕ) → p 10 ≡ false → list_all p xs ≡ true → list_all is_in_line xs ≡ true
in_line p xs fails = all_weaken p is_in_line xs (λ byte passes. not_from_false _ (apart p byte 10 passes fails))

some_in_line : (p : ℕ → Bool) (xs : List ℕ) → p 10 ≡ false → is_some_of p xs ≡ true → list_all is_in_line xs ≡ true
some_in_line p [] fails never = refl
some_in_line p (first ∷ xs) fails some = in_line p (first ∷ xs) fails some

quoted_in_line : (text : List ℕ) → is_quoted text ≡ true → list_all is_in_line text ≡ true
quoted_in_line text quoted =
    let split = quoted_split text quoted in
    rw (split.1) (all_end is_in_line split.0 34 (all_weaken is_inside is_in_line split.0 (λ byte both. (and_parts (not (byte == 34)) _ both).1) split.2) refl)

either_in_line : (left right : Bool) (text : List ℕ) → (left ≡ true → list_all is_in_line text ≡ true) → (right ≡ true → list_all is_in_line text ≡ true) → (left || right) ≡ true → list_all is_in_line text ≡ true
either_in_line left right text one other both = elim (or_cases left right both) [ inl here ↦ one here | inr here ↦ other here ]

name_in_line : (text : List ℕ) → is_name text ≡ true → list_all is_in_line text ≡ true
name_in_line text = either_in_line (is_some_of is_name_byte text) (is_quoted text) text (some_in_line is_name_byte text refl) (quoted_in_line text)

begun_in_line : (byte : ℕ) (passes : List ℕ → Bool) (text : List ℕ) → is_in_line byte ≡ true → ((more : List ℕ) → passes more ≡ true → list_all is_in_line more ≡ true)
    → begins byte passes text ≡ true → list_all is_in_line text ≡ true
begun_in_line byte passes [] stays later never = refl
begun_in_line byte passes (first ∷ more) stays later begun =
    let parts = and_parts (first == byte) (passes more) begun in rw (eqb-true first byte parts.0) (and_from _ _ stays (later more parts.1))

word_in_line : (text : List ℕ) → is_word text ≡ true → list_all is_in_line text ≡ true
word_in_line [] never = refl
word_in_line (first ∷ more) word =
    let parts = and_parts (is_ascii_alphabetic first) (list_all is_word_byte more) word in
    and_from _ _ (not_from_false _ (apart is_ascii_alphabetic first 10 parts.0 refl)) (in_line is_word_byte more refl parts.1)

mark_in_line : (text : List ℕ) → is_mark_text text ≡ true → list_all is_in_line text ≡ true
mark_in_line [] never = refl
mark_in_line (first ∷ []) mark = rw (apart is_mark first 10 mark refl) refl
mark_in_line (first ∷ second ∷ []) never = absurd (cc)
mark_in_line (first ∷ second ∷ third ∷ []) dots =
    let parts = and_parts (first == 46 && second == 46) (third == 46) dots in
    let front = and_parts (first == 46) (second == 46) parts.0 in
    rw (eqb-true first 46 front.0, eqb-true second 46 front.1, eqb-true third 46 parts.1) refl
mark_in_line (first ∷ second ∷ third ∷ fourth ∷ rest) never = absurd (cc)

pub token_in_line : (kind : TokenKind) (text : List ℕ) → is_token kind text ≡ true → list_all is_in_line text ≡ true
token_in_line kinds.Local text token = begun_in_line 37 is_name text refl name_in_line token
token_in_line kinds.Global text token = begun_in_line 64 is_name text refl name_in_line token
token_in_line kinds.Label text token =
    let split = ends_split 58 is_name text token in rw (split.1) (all_end is_in_line split.0 58 (name_in_line split.0 split.2) refl)
token_in_line kinds.Word text token = word_in_line text token
token_in_line kinds.Number text token =
    either_in_line (is_some_of is_ascii_digit text) _ text (some_in_line is_ascii_digit text refl)
    (begun_in_line 45 (is_some_of is_ascii_digit) text refl (λ more. some_in_line is_ascii_digit more refl)) token
token_in_line kinds.Text text token =
    either_in_line (is_quoted text) _ text (quoted_in_line text) (begun_in_line 99 is_quoted text refl quoted_in_line) token
token_in_line kinds.Meta text token =
    either_in_line (begins 33 (is_some_of is_word_byte) text) _ text (begun_in_line 33 (is_some_of is_word_byte) text refl (λ more. some_in_line is_word_byte more refl))
    (begun_in_line 35 (is_some_of is_ascii_digit) text refl (λ more. some_in_line is_ascii_digit more refl)) token
token_in_line kinds.Mark text token = mark_in_line text token
