-- A text of which proofs are read is their own text.
use Rattle.std.proofs.Common.{◌≡◌, ℕ, ◌+◌, ◌-◌, ◌^◌, ◌<◌, ◌==◌, ◌&&◌, true, cond, List, [], ◌∷◌, ◌++◌, length, map, Option, Some, None, Result, Ok, Err, refl, ap, ◌∙◌, sym, subst, arith, append_assoc, append-nil, length-append, tests}
use Rattle.std.specs.Prelude.{codes, option_map}
use Rattle.std.specs.List.{AllByRecursion, flat_map}
use Rattle.std.specs.Str.{bytes_eq}
use Rattle.std.proofs.lemmas.Bool.{cond_both, eqb-true}
use Rattle.std.proofs.lemmas.Grind.{flat_map-append}
use Rattle.std.proofs.lemmas.List.{map-append}
use Rattle.std.proofs.lemmas.Option.{cond_some, same_Some}
use Rattle.std.proofs.lemmas.Slice.Eq.{bytes_eq-Decides}
use Rattle.rc_base.specs.Failures.{◌>>=◌, or_error}
use Rattle.text_lines.specs.Part.{lines_text, parts_of}
use Rattle.text_lines.proofs.Joined.{joined_again, lines_joined}
use Rattle.text_lines.proofs.Spelled.{option_map_is}
use Rattle.proof_text.specs.declared.error.ProofsError.{ProofsError}
use Rattle.proof_text.specs.declared.error.ProofsError.TheVariants.{BadLog}
use Rattle.proof_text.specs.declared.progress.Next.{Next}
use Rattle.proof_text.specs.declared.progress.Next.TheVariants as next
use Rattle.proof_text.specs.Entry.{Entry}
use Rattle.proof_text.specs.Line.{clause_of_line, formula_of_line, one_behind, step_of_line}
use Rattle.refutation.specs.Literal.{IsClause}
use Rattle.proof_text.specs.Reading.{Reading, after_steps, is_whole, lines_from, no_entry, proofs_in, reading, start, taken, with_clause, with_formula, with_race, with_step}
use Rattle.proof_text.specs.Text.{clause_line, entry_lines, log_lines, numbers_line, proofs_text, step_line}
use Rattle.proof_text.specs.Laws.{IsEntry, IsStep, ReadIsText}
use Rattle.proof_text.proofs.Spelled.{clause-is, formula-is, one-behind-is, step-is}

-- the lines of the entries that are whole, and those of the one that is being read
abbrev whole_lines : List Entry → List (List ℕ)
whole_lines whole = codes "portend-proofs 1" ∷ flat_map entry_lines whole

abbrev race_lines : Entry → List (List ℕ)
race_lines one = numbers_line (codes "proof") (one.race ∷ []) ∷ []

abbrev due_formula : Entry → ℕ → List (List ℕ)
due_formula one left = numbers_line (codes "formula") (one.vars ∷ (length one.clauses + left) ∷ []) ∷ map clause_line one.clauses

abbrev due_log : Entry → ℕ → List (List ℕ)
due_log one left = numbers_line (codes "log") ((length one.steps + left) ∷ []) ∷ map step_line one.steps

abbrev spelled_by : List Entry → Entry → Next → List (List ℕ)
spelled_by whole one next.Heading = []
spelled_by whole one next.Entry = whole_lines whole
spelled_by whole one next.Formula = whole_lines whole ++ race_lines one
spelled_by whole one (next.Clause left) = whole_lines whole ++ race_lines one ++ due_formula one left
spelled_by whole one (next.Step left) = whole_lines whole ++ race_lines one ++ due_formula one 0 ++ due_log one left
spelled_by whole one next.End = whole_lines whole ++ codes "end" ∷ []

-- the lines that were taken in
abbrev spelled : Reading → List (List ℕ)
spelled here = spelled_by here.whole here.entry here.due

-- the entry that is being read, by what is due
record HasFormula (one : Entry) (left : ℕ) : Type 0 where
  race : one.race < 2 ^ 32
  vars : one.vars < 2 ^ 31
  count : length one.clauses + left < 2 ^ 32
  clauses : AllByRecursion (IsClause one.vars) one.clauses

record HasLog (one : Entry) (left : ℕ) : Type 0 where
  formula : HasFormula one 0
  count : length one.steps + left < 2 ^ 32
  steps : AllByRecursion (IsStep one.vars) one.steps

abbrev Fits_by : List Entry → Entry → Next → Type 0
Fits_by whole one next.Heading = (whole ≡ []) × (one ≡ no_entry)
Fits_by whole one next.Entry = AllByRecursion IsEntry whole × (one ≡ no_entry)
Fits_by whole one next.Formula = AllByRecursion IsEntry whole × (one.race < 2 ^ 32) × (one.steps ≡ [])
Fits_by whole one (next.Clause left) = AllByRecursion IsEntry whole × HasFormula one left × (one.steps ≡ [])
Fits_by whole one (next.Step left) = AllByRecursion IsEntry whole × HasLog one left × (0 < left)
Fits_by whole one next.End = AllByRecursion IsEntry whole × Unit {0}

abbrev Fits : Reading → Type 0
Fits here = Fits_by here.whole here.entry here.due

all-push : {X : Type 0} (P : X → Type 0) (xs : List X) (x : X) → AllByRecursion P xs → P x → AllByRecursion P (xs ++ x ∷ [])
all-push P [] x all is = (is, tt)
all-push P (y ∷ xs) x all is = (all.0, all-push P xs x all.1 is)

-- a line more is spelled
record Spells (here after : Reading) (line : List ℕ) : Type 0 where
  fits : Fits after
  lines : spelled after ≡ spelled here ++ line ∷ []

heading-spells : (whole : List Entry) (one : Entry) (after : Reading) (line : List ℕ) → Fits (reading next.Heading whole one) →
    cond (bytes_eq line (codes "portend-proofs 1")) (Some (reading next.Entry whole one)) None ≡ Some after → Spells (reading next.Heading whole one) after line
heading-spells whole one after line fits e =
    let same = cond_some (bytes_eq line (codes "portend-proofs 1")) (reading next.Entry whole one) after e in
    subst (λ r. Spells (reading next.Heading whole one) r line) same.1
    (record {
      fits = (subst (AllByRecursion IsEntry) (sym fits.0) tt, fits.1);
      lines = ap whole_lines fits.0 ∙ ap (λ l. l ∷ []) (sym ((bytes_eq-Decides line (codes "portend-proofs 1")).0 same.0));
    })

entry-spells : (whole : List Entry) (one : Entry) (after : Reading) (line : List ℕ) → Fits (reading next.Entry whole one) →
    cond (bytes_eq line (codes "end")) (Some (reading next.End whole one)) (option_map (with_race (reading next.Entry whole one)) (one_behind (codes "proof") line)) ≡ Some after →
    Spells (reading next.Entry whole one) after line
entry-spells whole one after line fits e =
    cond_both (bytes_eq line (codes "end")) (Some (reading next.End whole one)) (option_map (with_race (reading next.Entry whole one)) (one_behind (codes "proof") line))
    (λ (o : Option Reading). o ≡ Some after → Spells (reading next.Entry whole one) after line)
    (λ same is. subst (λ r. Spells (reading next.Entry whole one) r line) (same_Some _ _ is)
    (record { fits = (fits.0, tt); lines = ap (λ l. whole_lines whole ++ l ∷ []) (sym ((bytes_eq-Decides line (codes "end")).0 same)) }))
    (λ _ is.
    let read = option_map_is (with_race (reading next.Entry whole one)) (one_behind (codes "proof") line) after is in
    let line_is = one-behind-is (codes "proof") line read.0 read.1 in
    subst (λ r. Spells (reading next.Entry whole one) r line) read.2
    (record { fits = (fits.0, line_is.1, ap (λ (x : Entry). x.steps) fits.1); lines = ap (λ l. whole_lines whole ++ l ∷ []) (sym line_is.0) })) e

formula-spells : (whole : List Entry) (one : Entry) (after : Reading) (line : List ℕ) → Fits (reading next.Formula whole one) →
    option_map (with_formula (reading next.Formula whole one)) (formula_of_line line) ≡ Some after → Spells (reading next.Formula whole one) after line
formula-spells whole one after line fits e =
    let read = option_map_is (with_formula (reading next.Formula whole one)) (formula_of_line line) after e in
    let line_is = formula-is line read.0 read.1 in
    let none : 0 + read.0.1 ≡ read.0.1 = omega arith in
    subst (λ r. Spells (reading next.Formula whole one) r line) read.2
    (record {
      fits = (fits.0, record { race = fits.1; vars = line_is.1; count = omega (arith, line_is.2); clauses = tt }, fits.2);
      lines = ap (λ n. whole_lines whole ++ race_lines one ++ numbers_line (codes "formula") (read.0.0 ∷ n ∷ []) ∷ []) none
          ∙ ap (λ l. whole_lines whole ++ race_lines one ++ l ∷ []) (sym line_is.0);
    })

-- what is spelled by steps that are due, or by an entry that is whole
record Awaits (whole : List Entry) (one : Entry) (left : ℕ) (after : Reading) : Type 0 where
  fits : Fits after
  lines : spelled after ≡ whole_lines whole ++ race_lines one ++ due_formula one 0 ++ due_log one left

entry-whole : (one : Entry) → HasLog one 0 → IsEntry one
entry-whole one has = record {
  race = has.formula.race;
  vars = has.formula.vars;
  count = omega (arith, has.formula.count);
  clauses = has.formula.clauses;
  log = omega (arith, has.count);
  steps = has.steps;
}

whole-lines : (whole : List Entry) (one : Entry) →
    whole_lines (whole ++ one ∷ []) ≡ whole_lines whole ++ race_lines one ++ due_formula one 0 ++ due_log one 0
unfolding entry_lines
whole-lines whole one =
    let clauses : length one.clauses ≡ length one.clauses + 0 = omega arith in
    let steps : length one.steps ≡ length one.steps + 0 = omega arith in
    let head = race_lines one ++ due_formula one 0 in
    ap (λ lines. codes "portend-proofs 1" ∷ lines) (flat_map-append entry_lines whole (one ∷ []))
    ∙ ap (λ lines. whole_lines whole ++ lines) (append-nil (entry_lines one)
    ∙ ap (λ n. race_lines one ++ (numbers_line (codes "formula") (one.vars ∷ n ∷ []) ∷ map clause_line one.clauses) ++ log_lines one.steps) clauses
    ∙ ap (λ n. head ++ numbers_line (codes "log") (n ∷ []) ∷ map step_line one.steps) steps)
    ∙ sym (append_assoc (whole_lines whole) head (due_log one 0))
    ∙ ap (λ lines. lines ++ due_log one 0) (sym (append_assoc (whole_lines whole) (race_lines one) (due_formula one 0)))

steps-await : (whole : List Entry) (one : Entry) (left : ℕ) (due : Next) → AllByRecursion IsEntry whole → HasLog one left →
    Awaits whole one left (after_steps (reading due whole one) left)
steps-await whole one left due all has =
    cond_both (left == 0) (reading next.Entry (whole ++ one ∷ []) no_entry) (reading (next.Step left) whole one) (λ r. Awaits whole one left r)
    (λ zero.
    let none : left ≡ 0 = eqb-true left 0 zero in
    record {
      fits = (all-push IsEntry whole one all (entry-whole one (subst (HasLog one) none has)), refl);
      lines = whole-lines whole one ∙ ap (λ n. whole_lines whole ++ race_lines one ++ due_formula one 0 ++ due_log one n) (sym none);
    })
    (λ some. record { fits = (all, has, grind (arith, tests, some)); lines = refl })

clause-spells : (left : ℕ) (whole : List Entry) (one : Entry) (after : Reading) (line : List ℕ) → Fits (reading (next.Clause left) whole one) →
    cond (left == 0) (option_map (after_steps (reading (next.Clause left) whole one)) (one_behind (codes "log") line))
    (option_map (with_clause (reading (next.Clause left) whole one) (left - 1)) (clause_of_line one.vars line)) ≡ Some after →
    Spells (reading (next.Clause left) whole one) after line
clause-spells left whole one after line fits e =
    cond_both (left == 0) (option_map (after_steps (reading (next.Clause left) whole one)) (one_behind (codes "log") line))
    (option_map (with_clause (reading (next.Clause left) whole one) (left - 1)) (clause_of_line one.vars line))
    (λ (o : Option Reading). o ≡ Some after → Spells (reading (next.Clause left) whole one) after line)
    (λ zero is.
    let none : left ≡ 0 = eqb-true left 0 zero in
    let read = option_map_is (after_steps (reading (next.Clause left) whole one)) (one_behind (codes "log") line) after is in
    let line_is = one-behind-is (codes "log") line read.0 read.1 in
    let steps : length one.steps ≡ 0 = ap length fits.2 in
    let has : HasLog one read.0 = record {
      formula = subst (HasFormula one) none fits.1;
      count = omega (arith, steps, line_is.1);
      steps = subst (AllByRecursion (IsStep one.vars)) (sym fits.2) tt;
    } in
    let awaits = steps-await whole one read.0 (next.Clause left) fits.0 has in
    let number : length one.steps + read.0 ≡ read.0 = omega (arith, steps) in
    let log : due_log one read.0 ≡ line ∷ [] =
    ap (λ ss. numbers_line (codes "log") ((length one.steps + read.0) ∷ []) ∷ map step_line ss) fits.2
    ∙ ap (λ n. numbers_line (codes "log") (n ∷ []) ∷ []) number ∙ ap (λ l. l ∷ []) (sym line_is.0) in
    subst (λ r. Spells (reading (next.Clause left) whole one) r line) read.2
    (record {
      fits = awaits.fits;
      lines = awaits.lines ∙ ap (λ ls. whole_lines whole ++ race_lines one ++ due_formula one 0 ++ ls) log
          ∙ ap (λ n. whole_lines whole ++ race_lines one ++ due_formula one n ++ line ∷ []) (sym none);
    }))
    (λ some is.
    let more : 0 < left = grind (arith, tests, some) in
    let read = option_map_is (with_clause (reading (next.Clause left) whole one) (left - 1)) (clause_of_line one.vars line) after is in
    let line_is = clause-is one.vars line read.0 fits.1.vars read.1 in
    let long = length-append one.clauses (read.0 ∷ []) in
    let number : length (one.clauses ++ read.0 ∷ []) + (left - 1) ≡ length one.clauses + left = omega (arith, long, more) in
    let formula : due_formula (record one { clauses = one.clauses ++ read.0 ∷ [] }) (left - 1) ≡ due_formula one left ++ line ∷ [] =
    ap (λ n. numbers_line (codes "formula") (one.vars ∷ n ∷ []) ∷ map clause_line (one.clauses ++ read.0 ∷ [])) number
    ∙ ap (λ ls. numbers_line (codes "formula") (one.vars ∷ (length one.clauses + left) ∷ []) ∷ ls)
    (map-append clause_line one.clauses (read.0 ∷ []) ∙ ap (λ l. map clause_line one.clauses ++ l ∷ []) (sym line_is.0)) in
    subst (λ r. Spells (reading (next.Clause left) whole one) r line) read.2
    (record {
      fits = (
        fits.0,
        record {
          race = fits.1.race;
          vars = fits.1.vars;
          count = omega (arith, number, fits.1.count);
          clauses = all-push (IsClause one.vars) one.clauses read.0 fits.1.clauses line_is.1;
        },
        fits.2,
      );
      lines = ap (λ ls. whole_lines whole ++ race_lines one ++ ls) formula
          ∙ sym (append_assoc (whole_lines whole ++ race_lines one) (due_formula one left) (line ∷ []));
    })) e

step-spells : (left : ℕ) (whole : List Entry) (one : Entry) (after : Reading) (line : List ℕ) → Fits (reading (next.Step left) whole one) →
    option_map (with_step (reading (next.Step left) whole one) (left - 1)) (step_of_line one.vars line) ≡ Some after →
    Spells (reading (next.Step left) whole one) after line
step-spells left whole one after line fits e =
    let read = option_map_is (with_step (reading (next.Step left) whole one) (left - 1)) (step_of_line one.vars line) after e in
    let line_is = step-is one.vars line read.0 fits.1.formula.vars read.1 in
    let long = length-append one.steps (read.0 ∷ []) in
    let number : length (one.steps ++ read.0 ∷ []) + (left - 1) ≡ length one.steps + left = omega (arith, long, fits.2) in
    let has : HasLog (record one { steps = one.steps ++ read.0 ∷ [] }) (left - 1) = record {
      formula = record { race = fits.1.formula.race; vars = fits.1.formula.vars; count = fits.1.formula.count; clauses = fits.1.formula.clauses };
      count = omega (arith, number, fits.1.count);
      steps = all-push (IsStep one.vars) one.steps read.0 fits.1.steps line_is.1;
    } in
    let awaits = steps-await whole (record one { steps = one.steps ++ read.0 ∷ [] }) (left - 1) (next.Step left) fits.0 has in
    let log : due_log (record one { steps = one.steps ++ read.0 ∷ [] }) (left - 1) ≡ due_log one left ++ line ∷ [] =
    ap (λ n. numbers_line (codes "log") (n ∷ []) ∷ map step_line (one.steps ++ read.0 ∷ [])) number
    ∙ ap (λ ls. numbers_line (codes "log") ((length one.steps + left) ∷ []) ∷ ls)
    (map-append step_line one.steps (read.0 ∷ []) ∙ ap (λ l. map step_line one.steps ++ l ∷ []) (sym line_is.0)) in
    subst (λ r. Spells (reading (next.Step left) whole one) r line) read.2
    (record {
      fits = awaits.fits;
      lines = awaits.lines ∙ ap (λ ls. whole_lines whole ++ race_lines one ++ due_formula one 0 ++ ls) log
          ∙ sym (append_assoc (whole_lines whole ++ race_lines one ++ due_formula one 0) (due_log one left) (line ∷ []));
    })

-- a line that is taken in is spelled
taken-spells : (whole : List Entry) (one : Entry) (due : Next) (after : Reading) (line : List ℕ) → Fits (reading due whole one) →
    taken (reading due whole one) line ≡ Some after → Spells (reading due whole one) after line
unfolding taken
taken-spells whole one next.Heading after line fits e = heading-spells whole one after line fits e
taken-spells whole one next.Entry after line fits e = entry-spells whole one after line fits e
taken-spells whole one next.Formula after line fits e = formula-spells whole one after line fits e
taken-spells whole one (next.Clause left) after line fits e = clause-spells left whole one after line fits e
taken-spells whole one (next.Step left) after line fits e = step-spells left whole one after line fits e
taken-spells whole one next.End after line fits e = absurd (cc)

-- the lines of these entries, and what follows the last line feed
abbrev all_parts : List Entry → List (List ℕ)
all_parts entries = whole_lines entries ++ codes "end" ∷ [] ++ [] ∷ []

ended-spells : (whole : List Entry) (one : Entry) (due : Next) (last : List ℕ) (entries : List Entry) → Fits (reading due whole one) →
    (is_whole due && length last == 0) ≡ true → whole ≡ entries →
    (spelled (reading due whole one) ++ last ∷ [] ≡ all_parts entries) × AllByRecursion IsEntry entries
ended-spells whole one next.Heading last entries fits ends same = absurd (cc)
ended-spells whole one next.Entry last entries fits ends same = absurd (cc)
ended-spells whole one next.Formula last entries fits ends same = absurd (cc)
ended-spells whole one (next.Clause left) last entries fits ends same = absurd (cc)
ended-spells whole one (next.Step left) last entries fits ends same = absurd (cc)
ended-spells whole one next.End last entries fits ends same =
    (ap (λ l. whole_lines whole ++ codes "end" ∷ [] ++ l ∷ []) (none last ends) ∙ ap all_parts same, subst (AllByRecursion IsEntry) same fits.0)
  where
    none : (last : List ℕ) → (length last == 0) ≡ true → last ≡ []
    none [] e = refl
    none (byte ∷ last) e = let zero : length (byte ∷ last) ≡ 0 = eqb-true _ _ e in absurd (omega arith)

lines-spell : (here : Reading) (number : ℕ) (parts : List (List ℕ)) (entries : List Entry) → Fits here → lines_from here number parts ≡ Ok entries →
    (spelled here ++ parts ≡ all_parts entries) × AllByRecursion IsEntry entries
unfolding lines_from
lines-spell here number [] entries fits e = absurd (cc)
lines-spell here number (last ∷ []) entries fits e =
    cond_both (is_whole here.due && length last == 0) (Ok here.whole) (Err (BadLog number))
    (λ (r : Result (List Entry) ProofsError). r ≡ Ok entries → (spelled here ++ last ∷ [] ≡ all_parts entries) × AllByRecursion IsEntry entries)
    (λ ends is. let same : here.whole ≡ entries = cc in ended-spells here.whole here.entry here.due last entries fits ends same)
    (λ _ is. absurd (cc)) e
lines-spell here number (line ∷ next ∷ rest) entries fits e =
    by (taken here line) refl (λ after. lines-spell after (number + 1) (next ∷ rest) entries) e
  where
    by : (found : Option Reading) → taken here line ≡ found →
        ((after : Reading) → Fits after → lines_from after (number + 1) (next ∷ rest) ≡ Ok entries →
        (spelled after ++ next ∷ rest ≡ all_parts entries) × AllByRecursion IsEntry entries) →
        ((or_error (BadLog number) found) >>= (λ after. lines_from after (number + 1) (next ∷ rest))) ≡ Ok entries →
        (spelled here ++ line ∷ next ∷ rest ≡ all_parts entries) × AllByRecursion IsEntry entries
    by None f go e = absurd (cc)
    by (Some after) f go e =
        let more = taken-spells here.whole here.entry here.due after line fits f in
        let others = go after more.fits e in
        (sym (append_assoc (spelled here) (line ∷ []) (next ∷ rest)) ∙ ap (λ lines. lines ++ next ∷ rest) (sym more.lines) ∙ others.0, others.1)

pub read-text : ReadIsText
unfolding proofs_in proofs_text
read-text text entries e =
    let all = lines-spell start 1 (parts_of 10 text) entries (refl, refl) e in (
      joined_again 10 text (all_parts entries) all.0
          ∙ lines_joined (whole_lines entries ++ codes "end" ∷ []) []
          ∙ append-nil (lines_text (whole_lines entries ++ codes "end" ∷ [])),
      all.1,
    )
