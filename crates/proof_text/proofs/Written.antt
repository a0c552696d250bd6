-- Lines as they are written, piece by piece.
use Rattle.std.proofs.Common.{◌≡◌, ℕ, zero, suc, ◌+◌, ◌<◌, ℤ, List, [], ◌∷◌, ◌++◌, codes, length, get_or, take, Some, None, refl, ap, ◌∙◌, sym, append_assoc, append-nil, add-one}
use Rattle.std.specs.Prelude.{decimal, map, slice_get}
use Rattle.std.specs.Fmt.{signed_decimal}
use Rattle.std.specs.List.{flat_map}
use Rattle.std.proofs.lemmas.List.{map_more, take_more}
use Rattle.std.proofs.lemmas.Grind.{flat_map-append}
use Rattle.std.proofs.lemmas.Option.{get_or_from_slice_get, slice_get_within}
use Rattle.text_lines.specs.Part.{lines_text}
use Rattle.refutation.specs.Log.{log_step}
use Rattle.proof_text.specs.Text.{clause_line, hint_words, step_line, words_text}

-- words with a space behind each, before another word
spaced : {X : Type 0} (word : X → List ℕ) (xs : List X) (last : List ℕ) (more : List (List ℕ)) →
    words_text (map word xs ++ last ∷ more) ≡ flat_map (λ x. word x ++ codes " ") xs ++ words_text (last ∷ more)
spaced word [] last more = refl
spaced word (x ∷ []) last more =
    sym (append_assoc (word x) (codes " ") (words_text (last ∷ more)))
    ∙ ap (λ front. front ++ words_text (last ∷ more)) (sym (append-nil (word x ++ codes " ")))
spaced word (x ∷ y ∷ xs) last more =
    ap (λ rest. word x ++ (32 ∷ rest)) (spaced word (y ∷ xs) last more)
    ∙ sym (append_assoc (word x) (codes " ") (flat_map (λ x. word x ++ codes " ") (y ∷ xs) ++ words_text (last ∷ more)))
    ∙ sym (append_assoc (word x ++ codes " ") (flat_map (λ x. word x ++ codes " ") (y ∷ xs)) (words_text (last ∷ more)))

words-cons : (word : List ℕ) (words : List (List ℕ)) (last : List ℕ) (more : List (List ℕ)) →
    words_text (word ∷ (words ++ last ∷ more)) ≡ word ++ (32 ∷ words_text (words ++ last ∷ more))
words-cons word [] last more = refl
words-cons word (next ∷ words) last more = refl

clause_line_is : (clause : List ℤ) →
    clause_line clause ≡ flat_map (λ literal. signed_decimal literal ++ codes " ") clause ++ codes "0"
unfolding clause_line
clause_line_is clause = spaced signed_decimal clause (codes "0") []

step_line_is : (clause : List ℤ) (hints : List ℕ) →
    step_line (log_step clause hints)
    ≡ flat_map (λ literal. signed_decimal literal ++ codes " ") clause ++ codes "0 " ++ flat_map (λ hint. decimal hint ++ codes " ") hints ++ codes "0"
unfolding step_line
step_line_is clause hints =
    let before = flat_map (λ literal. signed_decimal literal ++ codes " ") clause in
    let after = flat_map (λ hint. decimal hint ++ codes " ") hints in
    ap words_text (append_assoc (map signed_decimal clause) (codes "0" ∷ []) (hint_words hints))
    ∙ spaced signed_decimal clause (codes "0") (hint_words hints)
    ∙ ap (λ rest. before ++ rest) (words-cons (codes "0") (map decimal hints) (codes "0") [] ∙ ap (λ rest. codes "0 " ++ rest) (spaced decimal hints (codes "0") []))
    ∙ sym (append_assoc before (codes "0 ") (after ++ codes "0"))
    ∙ sym (append_assoc (before ++ codes "0 ") after (codes "0"))

pub lines_text-append : (front back : List (List ℕ)) → lines_text (front ++ back) ≡ lines_text front ++ lines_text back
lines_text-append [] back = refl
lines_text-append (line ∷ lines) back =
    ap (λ rest. line ++ codes "\n" ++ rest) (lines_text-append lines back)
    ∙ sym (append_assoc (line ++ codes "\n") (lines_text lines) (lines_text back))

-- one row more is written
row-written : {X : Type 0} (line : X → List ℕ) (rows : List X) (at : ℕ) (row : X) → slice_get rows at ≡ Some row →
    lines_text (map line (take (at + 1) rows)) ≡ lines_text (map line (take at rows)) ++ lines_text (line row ∷ [])
row-written line rows at row found =
    ap lines_text (map_more line rows at row (slice_get_within rows at row found))
    ∙ lines_text-append (map line (take at rows)) (line _ ∷ [])
    ∙ ap (λ x. lines_text (map line (take at rows)) ++ lines_text (line x ∷ [])) (get_or_from_slice_get rows at row row found)

same-front : {X : Type 0} (rows : List X) (at : ℕ) → slice_get rows at ≡ None → take (suc at) rows ≡ take at rows
same-front [] zero none = refl
same-front [] (suc at) none = refl
same-front (row ∷ rows) zero none = absurd (cc)
same-front (row ∷ rows) (suc at) none = ap (λ rest. row ∷ rest) (same-front rows at none)

row-none : {X : Type 0} (line : X → List ℕ) (rows : List X) (at : ℕ) → slice_get rows at ≡ None →
    lines_text (map line (take (at + 1) rows)) ≡ lines_text (map line (take at rows))
row-none line rows at none =
    ap (λ n. lines_text (map line (take n rows))) (add-one at) ∙ ap (λ xs. lines_text (map line xs)) (same-front rows at none)

one-line : (text line : List ℕ) → text ≡ line → text ++ codes "\n" ≡ lines_text (line ∷ [])
one-line text line e = ap (λ line. line ++ codes "\n") e ∙ sym (append-nil (line ++ codes "\n"))

-- what was written, and the line of a clause
pub clause-written : (clause : List ℤ) (old here new : List ℕ) → here ≡ old ++ flat_map (λ literal. signed_decimal literal ++ codes " ") clause →
    new ≡ here ++ codes "0\n" → new ≡ old ++ lines_text (clause_line clause ∷ [])
clause-written clause old here new e f =
    let before = flat_map (λ literal. signed_decimal literal ++ codes " ") clause in
    f ∙ ap (λ front. front ++ codes "0\n") e ∙ append_assoc old before (codes "0\n")
    ∙ ap (λ rest. old ++ rest) (sym (append_assoc before (codes "0") (codes "\n")) ∙ one-line _ _ (sym (clause_line_is clause)))

-- the same of a step
pub step-written : (clause : List ℤ) (hints old a b c new : List ℕ) → a ≡ old ++ flat_map (λ literal. signed_decimal literal ++ codes " ") clause →
    b ≡ a ++ codes "0 " → c ≡ b ++ flat_map (λ hint. decimal hint ++ codes " ") hints → new ≡ c ++ codes "0\n" →
    new ≡ old ++ lines_text (step_line (log_step clause hints) ∷ [])
step-written clause hints old a b c new ea eb ec f =
    let before = flat_map (λ literal. signed_decimal literal ++ codes " ") clause in
    let after = flat_map (λ hint. decimal hint ++ codes " ") hints in
    f ∙ ap (λ front. front ++ codes "0\n") (ec ∙ ap (λ front. front ++ after) (eb ∙ ap (λ front. front ++ codes "0 ") ea))
    ∙ ap (λ front. front ++ after ++ codes "0\n") (append_assoc old before (codes "0 "))
    ∙ ap (λ front. front ++ codes "0\n") (append_assoc old (before ++ codes "0 ") after)
    ∙ append_assoc old (before ++ codes "0 " ++ after) (codes "0\n")
    ∙ ap (λ rest. old ++ rest) (sym (append_assoc (before ++ codes "0 " ++ after) (codes "0") (codes "\n")) ∙ one-line _ _ (sym (step_line_is clause hints)))

-- what was written of the first rows, and the line of one more
pub row-pushed : {X : Type 0} (line : X → List ℕ) (rows : List X) (at : ℕ) (row : X) (old here new : List ℕ) → slice_get rows at ≡ Some row →
    here ≡ old ++ lines_text (map line (take at rows)) → new ≡ here ++ lines_text (line row ∷ []) →
    new ≡ old ++ lines_text (map line (take (at + 1) rows))
row-pushed line rows at row old here new found e f =
    f ∙ ap (λ front. front ++ lines_text (line row ∷ [])) e
    ∙ append_assoc old (lines_text (map line (take at rows))) (lines_text (line row ∷ []))
    ∙ ap (λ rest. old ++ rest) (sym (row-written line rows at row found))

pub row-kept : {X : Type 0} (line : X → List ℕ) (rows : List X) (at : ℕ) (old here : List ℕ) → slice_get rows at ≡ None →
    here ≡ old ++ lines_text (map line (take at rows)) → here ≡ old ++ lines_text (map line (take (at + 1) rows))
row-kept line rows at old here none e = e ∙ ap (λ rest. old ++ rest) (sym (row-none line rows at none))

-- what was written of the first of some items, each of which has some lines, and the lines of one more
pub lines-pushed : {X : Type 0} (lines : X → List (List ℕ)) (xs : List X) (at : ℕ) (x : X) (old here new : List ℕ) → at < length xs → x ≡ get_or xs at x →
    here ≡ old ++ lines_text (flat_map lines (take at xs)) → new ≡ here ++ lines_text (lines x) →
    new ≡ old ++ lines_text (flat_map lines (take (at + 1) xs))
lines-pushed lines xs at x old here new within is e f =
    let front = flat_map lines (take at xs) in
    let more : take (at + 1) xs ≡ take at xs ++ x ∷ [] = take_more xs at x within ∙ ap (λ y. take at xs ++ y ∷ []) (sym is) in
    f ∙ ap (λ text. text ++ lines_text (lines x)) e ∙ append_assoc old (lines_text front) (lines_text (lines x))
    ∙ ap (λ rest. old ++ rest) (sym (lines_text-append front (lines x))
    ∙ ap lines_text (ap (λ rest. front ++ rest) (sym (append-nil (lines x))) ∙ sym (flat_map-append lines (take at xs) (x ∷ [])) ∙ ap (flat_map lines) (sym more)))

-- a line, and the lines of two parts behind it
pub parts-written : (line : List ℕ) (front back : List (List ℕ)) (old a b c new : List ℕ) → a ≡ old ++ line → b ≡ a ++ codes "\n" →
    c ≡ b ++ lines_text front → new ≡ c ++ lines_text back → new ≡ old ++ lines_text (line ∷ front ++ back)
parts-written line front back old a b c new ea eb ec f =
    f ∙ ap (λ text. text ++ lines_text back) (ec ∙ ap (λ text. text ++ lines_text front) (eb ∙ ap (λ text. text ++ codes "\n") ea ∙ append_assoc old line (codes "\n"))
    ∙ append_assoc old (line ++ codes "\n") (lines_text front))
    ∙ append_assoc old (line ++ codes "\n" ++ lines_text front) (lines_text back)
    ∙ ap (λ text. old ++ text) (sym (lines_text-append (line ∷ front) back))

pub ruleset written = (lines_text-append)
