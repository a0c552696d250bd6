-- What a line is read as is what it spells.
use Rattle.std.proofs.Common.{◌≡◌, ℕ, zero, suc, ◌-◌, ◌^◌, ◌<◌, ◌==◌, ◌&&◌, ◌-ℤ◌, ℤ, pos, negsuc, true, cond, eqb, List, [], ◌∷◌, ◌++◌, length, Option, Some, None, refl, ap, ◌∙◌, sym, subst, arith, append_assoc, append-nil}
use Rattle.std.specs.Prelude.{codes, decimal, nat_lt, option_and_then, option_map}
use Rattle.std.specs.Fmt.{signed_decimal}
use Rattle.std.specs.List.{AllByRecursion}
use Rattle.std.specs.Str.{bytes_eq}
use Rattle.std.proofs.lemmas.Bool.{and_parts, cond_both, eqb-true}
use Rattle.std.proofs.lemmas.Bool.Decides.{nat_tests}
use Rattle.std.proofs.lemmas.Int.{ints}
use Rattle.std.proofs.lemmas.Option.{cond_some, option_and_then_some, same_Some}
use Rattle.std.proofs.lemmas.Slice.Eq.{bytes_eq-Decides}
use Rattle.text_lines.specs.Number.{cut, number_of, one_number, two_numbers}
use Rattle.text_lines.specs.Part.{parts_of}
use Rattle.text_lines.proofs.Decimals.{number_is}
use Rattle.text_lines.proofs.Joined.{joined_again}
use Rattle.text_lines.proofs.Spelled.{one_is, option_map_is, two_are}
use Rattle.proof_text.specs.Line.{are_distinct, behind, below, clause_in, clause_of_line, formula_of_line, hints_onto, if_alone, if_distinct, is_end, literal_of, literals_onto, one_behind, positive_of, sizes, step_of_line, with_hints, within}
use Rattle.refutation.specs.Literal.{IsClause}
use Rattle.refutation.specs.Log.{LogStep, log_step}
use Rattle.proof_text.specs.Text.{clause_line, clause_words, hint_words, numbers_line, step_line, words_text}
use Rattle.proof_text.specs.Laws.{IsHint, IsStep}
use Rattle.proof_text.proofs.Distinct.{positive-range, read_is_clause}

end-is : (word : List ℕ) → is_end word ≡ true → word ≡ codes "0"
end-is [] e = absurd (cc)
end-is (byte ∷ []) e = ap (λ b. b ∷ []) (eqb-true byte 48 (and_parts (eqb 1 1) (eqb byte 48) e).1)
end-is (byte ∷ other ∷ rest) e =
    let parts = and_parts (eqb (length (byte ∷ other ∷ rest)) 1) (eqb byte 48) e in
    let one : length (byte ∷ other ∷ rest) ≡ 1 = eqb-true _ _ parts.0 in absurd (omega arith)

none-left : (words : List (List ℕ)) → (length words == 0) ≡ true → words ≡ []
none-left [] e = refl
none-left (word ∷ words) e = let none : length (word ∷ words) ≡ 0 = eqb-true _ _ e in absurd (omega arith)

positive-is : (most : ℕ) (word : List ℕ) (n : ℕ) → most < cut → positive_of most word ≡ Some n → word ≡ decimal n
unfolding positive_of
positive-is most word n small e =
    option_and_then_some (within most) (number_of word) n e
    (λ number found is.
    let same = (cond_some _ number n is).1 in
    let range = positive-range most word n e in
    number_is n word (omega (arith, range.1, small)) (found ∙ ap Some same))

minus-text : (n : ℕ) → 0 < n → signed_decimal (pos 0 -ℤ pos n) ≡ 45 ∷ decimal n
minus-text zero some = absurd (omega (arith, some))
minus-text (suc n) some = let minus : pos 0 -ℤ pos (suc n) ≡ negsuc n = omega (arith, ints) in ap signed_decimal minus

literal-is : (vars : ℕ) (word : List ℕ) (literal : ℤ) → vars < 2 ^ 31 → literal_of vars word ≡ Some literal → word ≡ signed_decimal literal
unfolding literal_of
literal-is vars [] literal few e = cc
literal-is vars (byte ∷ rest) literal few e =
    cond_both (byte == 45) (option_map (λ n. pos 0 -ℤ pos n) (positive_of vars rest)) (option_map pos (positive_of vars (byte ∷ rest)))
    (λ (o : Option ℤ). o ≡ Some literal → byte ∷ rest ≡ signed_decimal literal)
    (λ minus is.
    let read = option_map_is (λ n. pos 0 -ℤ pos n) (positive_of vars rest) literal is in
    ap (λ b. b ∷ rest) (eqb-true byte 45 minus) ∙ ap (λ ds. 45 ∷ ds) (positive-is vars rest read.0 (omega (arith, few)) read.1)
    ∙ sym (minus-text read.0 (positive-range vars rest read.0 read.1).0) ∙ ap signed_decimal read.2)
    (λ _ is.
    let read = option_map_is pos (positive_of vars (byte ∷ rest)) literal is in
    positive-is vars (byte ∷ rest) read.0 (omega (arith, few)) read.1 ∙ ap signed_decimal read.2) e

literals-are : (vars : ℕ) (acc : List ℤ) (words : List (List ℕ)) (clause : List ℤ) (rest : List (List ℕ)) → vars < 2 ^ 31 →
    literals_onto vars acc words ≡ Some (clause, rest) → (more : List ℤ) × (clause ≡ acc ++ more) × (words ≡ clause_words more ++ rest)
unfolding literals_onto
literals-are vars acc [] clause rest few e = absurd (cc)
literals-are vars acc (word ∷ words) clause rest few e =
    cond_both (is_end word) (Some (acc, words)) (option_and_then (λ literal. literals_onto vars (acc ++ literal ∷ []) words) (literal_of vars word))
    (λ (o : Option (List ℤ × List (List ℕ))). o ≡ Some (clause, rest) → (more : List ℤ) × (clause ≡ acc ++ more) × (word ∷ words ≡ clause_words more ++ rest))
    (λ ends is.
    let pair : (acc, words) ≡ (clause, rest) = same_Some _ _ is in (
      [],
      ap (λ (p : List ℤ × List (List ℕ)). p.0) (sym pair) ∙ sym (append-nil acc),
      ap (λ w. w ∷ words) (end-is word ends) ∙ ap (λ (p : List ℤ × List (List ℕ)). codes "0" ∷ p.1) pair,
    ))
    (λ _ is.
    option_and_then_some (λ literal. literals_onto vars (acc ++ literal ∷ []) words) (literal_of vars word) (clause, rest) is
    (λ literal found others.
    let read = literals-are vars (acc ++ literal ∷ []) words clause rest few others in (
      literal ∷ read.0,
      read.1 ∙ append_assoc acc (literal ∷ []) read.0,
      ap (λ w. w ∷ words) (literal-is vars word literal few found) ∙ ap (λ ws. signed_decimal literal ∷ ws) read.2,
    ))) e

hints-are : (acc : List ℕ) (words : List (List ℕ)) (hints : List ℕ) → hints_onto acc words ≡ Some hints →
    (more : List ℕ) × (hints ≡ acc ++ more) × (words ≡ hint_words more) × AllByRecursion IsHint more
unfolding hints_onto
hints-are acc [] hints e = absurd (cc)
hints-are acc (word ∷ words) hints e =
    cond_both (is_end word) (cond (length words == 0) (Some acc) None) (option_and_then (λ hint. hints_onto (acc ++ hint ∷ []) words) (positive_of (2 ^ 32 - 1) word))
    (λ (o : Option (List ℕ)). o ≡ Some hints → (more : List ℕ) × (hints ≡ acc ++ more) × (word ∷ words ≡ hint_words more) × AllByRecursion IsHint more)
    (λ ends is.
    let alone = cond_some (length words == 0) acc hints is in
    ([], sym alone.1 ∙ sym (append-nil acc), ap (λ w. w ∷ words) (end-is word ends) ∙ ap (λ ws. codes "0" ∷ ws) (none-left words alone.0), tt))
    (λ _ is.
    option_and_then_some (λ hint. hints_onto (acc ++ hint ∷ []) words) (positive_of (2 ^ 32 - 1) word) hints is
    (λ hint found others.
    let read = hints-are (acc ++ hint ∷ []) words hints others in
    let range = positive-range (2 ^ 32 - 1) word hint found in (
      hint ∷ read.0,
      read.1 ∙ append_assoc acc (hint ∷ []) read.0,
      ap (λ w. w ∷ words) (positive-is (2 ^ 32 - 1) word hint (omega arith) found) ∙ ap (λ ws. decimal hint ∷ ws) read.2,
      ((range.0, omega (arith, range.1)), read.3),
    ))) e

clause-in-is : (vars : ℕ) (words : List (List ℕ)) (clause : List ℤ) (rest : List (List ℕ)) → vars < 2 ^ 31 → clause_in vars words ≡ Some (clause, rest) →
    (words ≡ clause_words clause ++ rest) × IsClause vars clause
unfolding clause_in
clause-in-is vars words clause rest few e =
    option_and_then_some if_distinct (literals_onto vars [] words) (clause, rest) e
    (λ read found is.
    let distinct = cond_some (are_distinct read.0) read (clause, rest) is in
    let same : read ≡ (clause, rest) = distinct.1 in
    let onto : literals_onto vars [] words ≡ Some (clause, rest) = found ∙ ap Some same in
    let are = literals-are vars [] words clause rest few onto in (
      are.2 ∙ ap (λ c. clause_words c ++ rest) (sym are.1),
      read_is_clause vars words rest clause onto (ap (λ (p : List ℤ × List (List ℕ)). are_distinct p.0) (sym same) ∙ distinct.0),
    ))

pub clause-is : (vars : ℕ) (line : List ℕ) (clause : List ℤ) → vars < 2 ^ 31 → clause_of_line vars line ≡ Some clause →
    (line ≡ clause_line clause) × IsClause vars clause
unfolding clause_of_line clause_line
clause-is vars line clause few e =
    option_and_then_some if_alone (clause_in vars (parts_of 32 line)) clause e
    (λ read found is.
    let alone = cond_some (length read.1 == 0) read.0 clause is in
    let none : read.1 ≡ [] = none-left read.1 alone.0 in
    let both : read ≡ (clause, []) = pair read clause [] alone.1 none in
    let words = clause-in-is vars (parts_of 32 line) clause [] few (found ∙ ap Some both) in
    (joined_again 32 line (clause_words clause) (words.0 ∙ append-nil (clause_words clause)), words.1))
  where
    pair : (read : List ℤ × List (List ℕ)) (clause : List ℤ) (rest : List (List ℕ)) → read.0 ≡ clause → read.1 ≡ rest → read ≡ (clause, rest)
    pair read clause rest a b = λ i. (a i, b i)

pub step-is : (vars : ℕ) (line : List ℕ) (step : LogStep) → vars < 2 ^ 31 → step_of_line vars line ≡ Some step →
    (line ≡ step_line step) × IsStep vars step
unfolding step_of_line step_line
step-is vars line step few e =
    option_and_then_some with_hints (clause_in vars (parts_of 32 line)) step e
    (λ read found is.
    let hinted = option_map_is (λ hints. log_step read.0 hints) (hints_onto [] read.1) step is in
    let words = clause-in-is vars (parts_of 32 line) read.0 read.1 few found in
    let hints = hints-are [] read.1 hinted.0 hinted.1 in
    let whole : parts_of 32 line ≡ clause_words read.0 ++ hint_words hinted.0 =
    words.0 ∙ ap (λ ws. clause_words read.0 ++ ws) (hints.2 ∙ ap hint_words (sym hints.1)) in (
      joined_again 32 line (clause_words read.0 ++ hint_words hinted.0) whole
          ∙ ap (λ (s : LogStep). words_text (clause_words s.clause ++ hint_words s.hints)) hinted.2,
      subst (IsStep vars) hinted.2 (words.1, subst (AllByRecursion IsHint) (sym hints.1) hints.3),
    ))

behind-is : (keyword : List ℕ) (words rest : List (List ℕ)) → behind keyword words ≡ Some rest → words ≡ keyword ∷ rest
behind-is keyword [] rest e = cc
behind-is keyword (word ∷ words) rest e =
    let same = cond_some (bytes_eq word keyword) words rest e in
    ap (λ w. w ∷ words) ((bytes_eq-Decides word keyword).0 same.0) ∙ ap (λ ws. keyword ∷ ws) same.1

pub one-behind-is : (keyword line : List ℕ) (n : ℕ) → one_behind keyword line ≡ Some n → (line ≡ numbers_line keyword (n ∷ [])) × (n < 2 ^ 32)
unfolding one_behind
one-behind-is keyword line n e =
    option_and_then_some (below (2 ^ 32)) (option_and_then one_number (behind keyword (parts_of 32 line))) n e
    (λ number found is.
    let small = cond_some (nat_lt number (2 ^ 32)) number n is in
    let low : n < 2 ^ 32 = grind (arith, nat_tests, small.0, small.1) in
    option_and_then_some one_number (behind keyword (parts_of 32 line)) number found
    (λ words after one. (
      joined_again 32 line (keyword ∷ decimal n ∷ [])
          (behind-is keyword (parts_of 32 line) words after ∙ ap (λ ws. keyword ∷ ws) (one_is n words (omega (arith, low)) (one ∙ ap Some small.1))),
      low,
    )))

pub formula-is : (line : List ℕ) (numbers : ℕ × ℕ) → formula_of_line line ≡ Some numbers →
    (line ≡ numbers_line (codes "formula") (numbers.0 ∷ numbers.1 ∷ [])) × (numbers.0 < 2 ^ 31) × (numbers.1 < 2 ^ 32)
unfolding formula_of_line
formula-is line numbers e =
    option_and_then_some sizes (option_and_then two_numbers (behind (codes "formula") (parts_of 32 line))) numbers e
    (λ read found is.
    let small = cond_some (nat_lt read.0 (2 ^ 31) && nat_lt read.1 (2 ^ 32)) read numbers is in
    let parts = and_parts (nat_lt read.0 (2 ^ 31)) (nat_lt read.1 (2 ^ 32)) small.0 in
    let first : numbers.0 < 2 ^ 31 = subst (λ (p : ℕ × ℕ). p.0 < 2 ^ 31) small.1 (grind (arith, nat_tests, parts.0)) in
    let second : numbers.1 < 2 ^ 32 = subst (λ (p : ℕ × ℕ). p.1 < 2 ^ 32) small.1 (grind (arith, nat_tests, parts.1)) in
    option_and_then_some two_numbers (behind (codes "formula") (parts_of 32 line)) read found
    (λ words after two. (
      joined_again 32 line (codes "formula" ∷ decimal numbers.0 ∷ decimal numbers.1 ∷ [])
          (behind-is (codes "formula") (parts_of 32 line) words after
          ∙ ap (λ ws. codes "formula" ∷ ws) (two_are numbers.0 numbers.1 words (omega (arith, first)) (omega (arith, second)) (two ∙ ap Some small.1))),
      first,
      second,
    )))
