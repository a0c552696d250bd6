-- Proofs are read from their own text.
use Rattle.std.proofs.Common.{◌≡◌, ℕ, suc, ◌-◌, ◌^◌, ◌<◌, ◌&&◌, ℤ, true, cond, List, [], ◌∷◌, ◌++◌, length, map, Some, None, refl, ap, ◌∙◌, sym, subst, arith, append_assoc, append-nil}
use Rattle.std.specs.Prelude.{codes, decimal, nat_lt, option_and_then, option_map}
use Rattle.std.specs.List.{AllByRecursion, flat_map}
use Rattle.std.specs.Str.{bytes_eq}
use Rattle.std.proofs.Math.Dec.{eqb-suc-zero}
use Rattle.std.proofs.lemmas.Bool.Decides.{nat_tests}
use Rattle.std.proofs.lemmas.Slice.Eq.{bytes_eq-Decides}
use Rattle.text_lines.specs.Number.{one_number, two_numbers}
use Rattle.text_lines.specs.Part.{Lacks, lines_text, parts_of}
use Rattle.text_lines.proofs.Decimals.{decimal_lacks, number_again}
use Rattle.text_lines.proofs.Joined.{lacks_joined, lines_parted, parts_joined}
use Rattle.proof_text.specs.declared.progress.Next.{Next}
use Rattle.proof_text.specs.declared.progress.Next.TheVariants as next
use Rattle.proof_text.specs.Entry.{Entry}
use Rattle.proof_text.specs.Line.{behind, below, clause_in, clause_of_line, formula_of_line, if_alone, if_distinct, one_behind, sizes, step_of_line, with_hints}
use Rattle.refutation.specs.Literal.{IsClause}
use Rattle.refutation.specs.Log.{LogStep}
use Rattle.proof_text.specs.Reading.{after_steps, lines_from, no_entry, proofs_in, reading, start, taken, with_clause, with_formula, with_race, with_step}
use Rattle.proof_text.specs.Text.{clause_line, clause_words, entry_lines, formula_lines, hint_words, log_lines, numbers_line, proofs_text, step_line, words_text}
use Rattle.proof_text.specs.Laws.{IsEntry, IsStep, TextIsRead}
use Rattle.proof_text.proofs.Distinct.{distinct-again}
use Rattle.proof_text.proofs.Taken.{all_taken, all_taken-append, lines-taken, one_taken}
use Rattle.proof_text.proofs.Words.{clause-lacks, hints-again, hints-lack, literals-again}

abbrev pub entry : ℕ → ℕ → List (List ℤ) → List LogStep → Entry
entry race vars clauses steps = record { race = race; vars = vars; clauses = clauses; steps = steps }

-- a line of a clause, and of a step
clause-words : (vars : ℕ) (clause : List ℤ) (more : List (List ℕ)) → IsClause vars clause → vars < 2 ^ 31 →
    clause_in vars (clause_words clause ++ more) ≡ Some (clause, more)
unfolding clause_in
clause-words vars clause more is few =
    ap (option_and_then if_distinct) (literals-again vars [] clause more few is.0)
    ∙ ap (λ b. cond b (Some (clause, more)) None) (distinct-again clause is.1)

-- words of which there is one
words-parted : (words : List (List ℕ)) → 0 < length words → AllByRecursion (Lacks 32) words → parts_of 32 (words_text words) ≡ words
words-parted [] some lack = absurd (omega (arith, some))
words-parted (word ∷ words) some lack = parts_joined 32 word words lack.0 lack.1

some-words : (clause : List ℤ) (more : List (List ℕ)) → 0 < length (clause_words clause ++ more)
some-words [] more = omega arith
some-words (literal ∷ clause) more = omega arith

pub clause-again : (vars : ℕ) (clause : List ℤ) → IsClause vars clause → vars < 2 ^ 31 → clause_of_line vars (clause_line clause) ≡ Some clause
unfolding clause_of_line clause_line
clause-again vars clause is few =
    let none = append-nil (clause_words clause) in
    let parted = ap (λ words. parts_of 32 (words_text words)) (sym none)
    ∙ words-parted (clause_words clause ++ []) (some-words clause []) (clause-lacks 32 vars clause [] refl refl is.0 few tt) in
    ap (λ words. option_and_then if_alone (clause_in vars words)) parted ∙ ap (option_and_then if_alone) (clause-words vars clause [] is few)

pub clause-lacks_feed : (vars : ℕ) (clause : List ℤ) → IsClause vars clause → vars < 2 ^ 31 → Lacks 10 (clause_line clause)
unfolding clause_line
clause-lacks_feed vars clause is few =
    subst (λ words. Lacks 10 (words_text words)) (append-nil (clause_words clause))
    (lacks_joined 10 (clause_words clause ++ []) refl (clause-lacks 10 vars clause [] refl refl is.0 few tt))

pub step-again : (vars : ℕ) (step : LogStep) → IsStep vars step → vars < 2 ^ 31 → step_of_line vars (step_line step) ≡ Some step
unfolding step_of_line step_line
step-again vars step is few =
    let parted = words-parted (clause_words step.clause ++ hint_words step.hints) (some-words step.clause (hint_words step.hints))
    (clause-lacks 32 vars step.clause (hint_words step.hints) refl refl is.0.0 few (hints-lack 32 step.hints refl is.1)) in
    ap (λ words. option_and_then with_hints (clause_in vars words)) parted
    ∙ ap (option_and_then with_hints) (clause-words vars step.clause (hint_words step.hints) is.0 few)
    ∙ ap (λ hints. option_map (λ hints. record { clause = step.clause; hints = hints }) hints) (hints-again [] step.hints is.1)

pub step-lacks_feed : (vars : ℕ) (step : LogStep) → IsStep vars step → vars < 2 ^ 31 → Lacks 10 (step_line step)
unfolding step_line
step-lacks_feed vars step is few =
    lacks_joined 10 (clause_words step.clause ++ hint_words step.hints) refl
    (clause-lacks 10 vars step.clause (hint_words step.hints) refl refl is.0.0 few (hints-lack 10 step.hints refl is.1))

-- lines of numbers
below-again : (limit n : ℕ) → n < limit → below limit n ≡ Some n
below-again limit n small = let t : nat_lt n limit ≡ true = grind (arith, nat_tests, small) in ap (λ b. cond b (Some n) None) t

same-bytes : (bytes : List ℕ) → bytes_eq bytes bytes ≡ true
same-bytes bytes = (bytes_eq-Decides bytes bytes).1 refl

pub one-again : (keyword : List ℕ) (n : ℕ) → Lacks 32 keyword → n < 2 ^ 32 → one_behind keyword (numbers_line keyword (n ∷ [])) ≡ Some n
unfolding one_behind
one-again keyword n lack small =
    let parted = parts_joined 32 keyword (decimal n ∷ []) lack (decimal_lacks 32 n refl (omega (arith, small)), tt) in
    ap (λ words. option_and_then (below (2 ^ 32)) (option_and_then one_number (behind keyword words))) parted
    ∙ ap (λ b. option_and_then (below (2 ^ 32)) (option_and_then one_number (cond b (Some (decimal n ∷ [])) None))) (same-bytes keyword)
    ∙ ap (option_and_then (below (2 ^ 32))) (number_again n (omega (arith, small)))
    ∙ below-again (2 ^ 32) n small

pub formula-again : (vars count : ℕ) → vars < 2 ^ 31 → count < 2 ^ 32 →
    formula_of_line (numbers_line (codes "formula") (vars ∷ count ∷ [])) ≡ Some (vars, count)
unfolding formula_of_line
formula-again vars count few small =
    let parted = parts_joined 32 (codes "formula") (decimal vars ∷ decimal count ∷ []) (refl, (refl, (refl, (refl, (refl, (refl, (refl, tt)))))))
    (decimal_lacks 32 vars refl (omega (arith, few)), (decimal_lacks 32 count refl (omega (arith, small)), tt)) in
    let t : (nat_lt vars (2 ^ 31) && nat_lt count (2 ^ 32)) ≡ true = grind (arith, nat_tests, few, small) in
    ap (λ words. option_and_then sizes (option_and_then two_numbers (behind (codes "formula") words))) parted
    ∙ rw (number_again vars (omega (arith, few)), number_again count (omega (arith, small))) (ap (λ b. cond b (Some (vars, count)) None) t)

-- a clause that is due
clause-taken : (n : ℕ) (whole : List Entry) (race vars : ℕ) (before : List (List ℤ)) (clause : List ℤ) → vars < 2 ^ 31 → IsClause vars clause →
    taken (reading (next.Clause (suc n)) whole (entry race vars before [])) (clause_line clause)
    ≡ Some (reading (next.Clause n) whole (entry race vars (before ++ clause ∷ []) []))
unfolding taken
clause-taken n whole race vars before clause few is =
    let here = reading (next.Clause (suc n)) whole (entry race vars before []) in
    let left : suc n - 1 ≡ n = omega arith in
    ap (λ t. cond t (option_map (after_steps here) (one_behind (codes "log") (clause_line clause)))
    (option_map (with_clause here (suc n - 1)) (clause_of_line vars (clause_line clause)))) (eqb-suc-zero n)
    ∙ ap (option_map (with_clause here (suc n - 1))) (clause-again vars clause is few)
    ∙ ap (λ k. Some (with_clause here k clause)) left

pub clauses-again : (clauses before : List (List ℤ)) (whole : List Entry) (race vars : ℕ) → vars < 2 ^ 31 → AllByRecursion (IsClause vars) clauses →
    all_taken (reading (next.Clause (length clauses)) whole (entry race vars before [])) (map clause_line clauses)
    ≡ Some (reading (next.Clause 0) whole (entry race vars (before ++ clauses) []))
clauses-again [] before whole race vars few all = ap (λ cs. Some (reading (next.Clause 0) whole (entry race vars cs []))) (sym (append-nil before))
clauses-again (clause ∷ clauses) before whole race vars few all =
    ap (λ found. option_and_then (λ after. all_taken after (map clause_line clauses)) found) (clause-taken (length clauses) whole race vars before clause few all.0)
    ∙ clauses-again clauses (before ++ clause ∷ []) whole race vars few all.1
    ∙ ap (λ cs. Some (reading (next.Clause 0) whole (entry race vars cs []))) (append_assoc before (clause ∷ []) clauses)

-- a step that is due
step-taken : (n : ℕ) (whole : List Entry) (race vars : ℕ) (clauses : List (List ℤ)) (before : List LogStep) (step : LogStep) (due : Next) → vars < 2 ^ 31 →
    IsStep vars step →
    taken (after_steps (reading due whole (entry race vars clauses before)) (suc n)) (step_line step)
    ≡ Some (after_steps (reading (next.Step (suc n)) whole (entry race vars clauses (before ++ step ∷ []))) n)
unfolding taken
step-taken n whole race vars clauses before step due few is =
    let here = reading (next.Step (suc n)) whole (entry race vars clauses before) in
    let left : suc n - 1 ≡ n = omega arith in
    ap (λ t. taken (cond t (reading next.Entry (whole ++ entry race vars clauses before ∷ []) no_entry) here) (step_line step)) (eqb-suc-zero n)
    ∙ ap (option_map (with_step here (suc n - 1))) (step-again vars step is few)
    ∙ ap (λ k. Some (with_step here k step)) left

pub steps-again : (steps before : List LogStep) (whole : List Entry) (race vars : ℕ) (clauses : List (List ℤ)) (due : Next) → vars < 2 ^ 31 →
    AllByRecursion (IsStep vars) steps →
    all_taken (after_steps (reading due whole (entry race vars clauses before)) (length steps)) (map step_line steps)
    ≡ Some (reading next.Entry (whole ++ entry race vars clauses (before ++ steps) ∷ []) no_entry)
steps-again [] before whole race vars clauses due few all =
    ap (λ ss. Some (reading next.Entry (whole ++ entry race vars clauses ss ∷ []) no_entry)) (sym (append-nil before))
steps-again (step ∷ steps) before whole race vars clauses due few all =
    ap (λ found. option_and_then (λ after. all_taken after (map step_line steps)) found) (step-taken (length steps) whole race vars clauses before step due few all.0)
    ∙ steps-again steps (before ++ step ∷ []) whole race vars clauses (next.Step (suc (length steps))) few all.1
    ∙ ap (λ ss. Some (reading next.Entry (whole ++ entry race vars clauses ss ∷ []) no_entry)) (append_assoc before (step ∷ []) steps)

-- the lines of a proof
entry-again : (one : Entry) (whole : List Entry) → IsEntry one →
    all_taken (reading next.Entry whole no_entry) (entry_lines one) ≡ Some (reading next.Entry (whole ++ one ∷ []) no_entry)
unfolding taken entry_lines
entry-again one whole is =
    let race = one_taken (reading next.Entry whole no_entry) (reading next.Formula whole (entry one.race 0 [] [])) (numbers_line (codes "proof") (one.race ∷ []))
    (ap (option_map (with_race (reading next.Entry whole no_entry))) (one-again (codes "proof") one.race (refl, (refl, (refl, (refl, (refl, tt))))) is.race)) in
    let formula = one_taken (reading next.Formula whole (entry one.race 0 [] [])) (reading (next.Clause (length one.clauses)) whole (entry one.race one.vars [] []))
    (numbers_line (codes "formula") (one.vars ∷ length one.clauses ∷ []))
    (ap (option_map (with_formula (reading next.Formula whole (entry one.race 0 [] [])))) (formula-again one.vars (length one.clauses) is.vars is.count)) in
    let clauses = clauses-again one.clauses [] whole one.race one.vars is.vars is.clauses in
    let log = one_taken (reading (next.Clause 0) whole (entry one.race one.vars one.clauses []))
    (after_steps (reading (next.Clause 0) whole (entry one.race one.vars one.clauses [])) (length one.steps)) (numbers_line (codes "log") (length one.steps ∷ []))
    (ap (option_map (after_steps (reading (next.Clause 0) whole (entry one.race one.vars one.clauses []))))
    (one-again (codes "log") (length one.steps) (refl, (refl, (refl, tt))) is.log)) in
    let steps = steps-again one.steps [] whole one.race one.vars one.clauses (next.Clause 0) is.vars is.steps in
    all_taken-append (reading next.Entry whole no_entry)
    (numbers_line (codes "proof") (one.race ∷ []) ∷ formula_lines one.vars one.clauses) (log_lines one.steps)
    (reading (next.Clause 0) whole (entry one.race one.vars one.clauses [])) (reading next.Entry (whole ++ one ∷ []) no_entry)
    (all_taken-append (reading next.Entry whole no_entry) (numbers_line (codes "proof") (one.race ∷ []) ∷ []) (formula_lines one.vars one.clauses)
    (reading next.Formula whole (entry one.race 0 [] [])) (reading (next.Clause 0) whole (entry one.race one.vars one.clauses [])) race
    (all_taken-append (reading next.Formula whole (entry one.race 0 [] [])) (numbers_line (codes "formula") (one.vars ∷ length one.clauses ∷ []) ∷ []) (map clause_line one.clauses)
    (reading (next.Clause (length one.clauses)) whole (entry one.race one.vars [] [])) (reading (next.Clause 0) whole (entry one.race one.vars one.clauses []))
    formula clauses))
    (all_taken-append (reading (next.Clause 0) whole (entry one.race one.vars one.clauses [])) (numbers_line (codes "log") (length one.steps ∷ []) ∷ []) (map step_line one.steps)
    (after_steps (reading (next.Clause 0) whole (entry one.race one.vars one.clauses [])) (length one.steps)) (reading next.Entry (whole ++ one ∷ []) no_entry)
    log steps)

entries-again : (entries whole : List Entry) → AllByRecursion IsEntry entries →
    all_taken (reading next.Entry whole no_entry) (flat_map entry_lines entries) ≡ Some (reading next.Entry (whole ++ entries) no_entry)
entries-again [] whole all = ap (λ es. Some (reading next.Entry es no_entry)) (sym (append-nil whole))
entries-again (one ∷ entries) whole all =
    all_taken-append (reading next.Entry whole no_entry) (entry_lines one) (flat_map entry_lines entries) (reading next.Entry (whole ++ one ∷ []) no_entry)
    (reading next.Entry (whole ++ one ∷ entries) no_entry) (entry-again one whole all.0)
    (entries-again entries (whole ++ one ∷ []) all.1 ∙ ap (λ es. Some (reading next.Entry es no_entry)) (append_assoc whole (one ∷ []) entries))

-- no line has a line feed
abbrev Lack : List (List ℕ) → Type 0
Lack lines = AllByRecursion (Lacks 10) lines

lack-append : (front back : List (List ℕ)) → Lack front → Lack back → Lack (front ++ back)
lack-append [] back f b = b
lack-append (line ∷ lines) back f b = (f.0, lack-append lines back f.1 b)

clauses-lack : (vars : ℕ) (clauses : List (List ℤ)) → vars < 2 ^ 31 → AllByRecursion (IsClause vars) clauses → Lack (map clause_line clauses)
clauses-lack vars [] few all = tt
clauses-lack vars (clause ∷ clauses) few all = (clause-lacks_feed vars clause all.0 few, clauses-lack vars clauses few all.1)

steps-lack : (vars : ℕ) (steps : List LogStep) → vars < 2 ^ 31 → AllByRecursion (IsStep vars) steps → Lack (map step_line steps)
steps-lack vars [] few all = tt
steps-lack vars (step ∷ steps) few all = (step-lacks_feed vars step all.0 few, steps-lack vars steps few all.1)

one-lacks : (keyword : List ℕ) (n : ℕ) → Lacks 10 keyword → n < 2 ^ 32 → Lacks 10 (numbers_line keyword (n ∷ []))
one-lacks keyword n lack small = lacks_joined 10 (keyword ∷ decimal n ∷ []) refl (lack, (decimal_lacks 10 n refl (omega (arith, small)), tt))

entry-lacks : (one : Entry) → IsEntry one → Lack (entry_lines one)
unfolding entry_lines
entry-lacks one is =
    let formula = lacks_joined 10 (codes "formula" ∷ decimal one.vars ∷ decimal (length one.clauses) ∷ []) refl (
      (refl, (refl, (refl, (refl, (refl, (refl, (refl, tt))))))),
      (decimal_lacks 10 one.vars refl (omega (arith, is.vars)), (decimal_lacks 10 (length one.clauses) refl (omega (arith, is.count)), tt)),
    ) in
    lack-append (numbers_line (codes "proof") (one.race ∷ []) ∷ formula_lines one.vars one.clauses) (log_lines one.steps)
    (one-lacks (codes "proof") one.race (refl, (refl, (refl, (refl, (refl, tt))))) is.race, (formula, clauses-lack one.vars one.clauses is.vars is.clauses))
    (one-lacks (codes "log") (length one.steps) (refl, (refl, (refl, tt))) is.log, steps-lack one.vars one.steps is.vars is.steps)

entries-lack : (entries : List Entry) → AllByRecursion IsEntry entries → Lack (flat_map entry_lines entries)
entries-lack [] all = tt
entries-lack (one ∷ entries) all = lack-append (entry_lines one) (flat_map entry_lines entries) (entry-lacks one all.0) (entries-lack entries all.1)

heading-lacks : Lacks 10 (codes "portend-proofs 1")
heading-lacks = (refl, (refl, (refl, (refl, (refl, (refl, (refl, (refl, (refl, (refl, (refl, (refl, (refl, (refl, (refl, (refl, tt))))))))))))))))

pub text-read : TextIsRead
unfolding proofs_in proofs_text taken lines_from
text-read entries all =
    let lines = codes "portend-proofs 1" ∷ flat_map entry_lines entries ++ codes "end" ∷ [] in
    let whole = reading next.End entries no_entry in
    let between = reading next.Entry entries no_entry in
    let lack : Lack lines = lack-append (codes "portend-proofs 1" ∷ flat_map entry_lines entries) (codes "end" ∷ [])
    (heading-lacks, entries-lack entries all) ((refl, (refl, (refl, tt))), tt) in
    let first = one_taken start (reading next.Entry [] no_entry) (codes "portend-proofs 1")
    (ap (λ t. cond t (Some (reading next.Entry [] no_entry)) None) (same-bytes (codes "portend-proofs 1"))) in
    let last = one_taken between whole (codes "end")
    (ap (λ t. cond t (Some whole) (option_map (with_race between) (one_behind (codes "proof") (codes "end")))) (same-bytes (codes "end"))) in
    let front = all_taken-append start (codes "portend-proofs 1" ∷ []) (flat_map entry_lines entries) (reading next.Entry [] no_entry) between first (entries-again entries [] all) in
    ap (λ text. lines_from start 1 (parts_of 10 text)) (sym (append-nil (lines_text lines)))
    ∙ ap (lines_from start 1) (lines_parted lines [] lack)
    ∙ lines-taken start whole 1 lines [] [] (all_taken-append start (codes "portend-proofs 1" ∷ flat_map entry_lines entries) (codes "end" ∷ []) between whole front last)
