-- What a line that is taken in makes of the case, and where a fault is.
use Rattle.std.proofs.Common.{◌≡◌, ℕ, ◌+◌, ◌*◌, ◌^◌, ◌<◌, ◌≤◌, Bool, true, false, cond, leb-true, ltb, ltb-true, ltb-false, le-leb, lt-ltb, List, [], ◌∷◌, ◌++◌, length, map, Option, Some, None, Result, Ok, Err, refl, ap, ◌∙◌, sym, arith, tests, append_assoc, append-nil, length-append, subst}
use Rattle.std.specs.Cmp.{IsEquivalence}
use Rattle.std.specs.List.{AllByRecursion, flat_map, list_any}
use Rattle.std.proofs.lemmas.Bool.{and_parts, cond_both}
use Rattle.std.proofs.lemmas.List.{length-replicate}
use Rattle.std.proofs.lemmas.Map.Keys.{IsDistinct-push}
use Rattle.ir_types.specs.declared.instruction.Site.{Site}
use Rattle.ir_types.specs.declared.«module».Module.{Module}
use Rattle.run_types.specs.Site.{is_site}
use Rattle.run_types.specs.declared.case.Case.{Case}
use Rattle.rc_base.specs.Failures.{◌>>=◌, or_error}
use Rattle.case_text.specs.declared.error.CaseError.{CaseError}
use Rattle.case_text.specs.declared.error.CaseError.TheVariants as errors
use Rattle.case_text.specs.declared.keyword.Field.{Field as OneNumber}
use Rattle.case_text.specs.declared.keyword.Field.TheVariants.{Seed, Steps, Visits, Paths, Schedules}
use Rattle.case_text.specs.declared.keyword.Keyword.TheVariants as keywords
use Rattle.case_text.specs.declared.line.Line.{Line}
use Rattle.case_text.specs.declared.line.Line.TheVariants.{Heading, Field, Input, Watch, Turns, Race, End}
use Rattle.case_text.specs.declared.progress.Progress.{Progress}
use Rattle.case_text.specs.Keyword.{after_field, least_of, most_of, rank_of, may_stand}
use Rattle.case_text.specs.Laws.{HasRoom, IsBodyLine, IsRun, races_in, turns_in, watched_in}
use Rattle.case_text.specs.Line.{AreUncut, keyword_in, line_of}
use Rattle.case_text.specs.Progress.{is_ended, is_in_range, is_race, is_within, no_case, no_input, progress, start, step, taken, with_field, with_line, with_race, with_runs}
use Rattle.case_text.specs.Watch.{is_watch, site_of, with_site, with_watch}
use Rattle.case_text.specs.Words.{Watched, is_input}
use Rattle.text_lines.specs.Number.{cut}
use Rattle.text_lines.specs.RunWord.{IsUncut, count_of, run_turns}
use Rattle.text_lines.specs.declared.run_word.RunWord.{RunWord}
use Rattle.case_text.specs.Error.{place_of}
use Rattle.case_text.specs.Read.{case_of, lines_from}
use Rattle.text_lines.specs.Part.{Lacks, lines_text, parts_of}
use Rattle.text_lines.proofs.FirstPart.{HasFirst, parts_have_first}
use Rattle.text_lines.proofs.Joined.{lines_parted}
use Rattle.std.proofs.Props.{props}
use mathlib.Core.HLevel.{is_prop→PathP}
use Rattle.ir_types.specs.declared.input.Input.{Input as Given, rising-type}

-- inputs are equal where their slots are
pub same_input : (x y : Given) → x.slots ≡ y.slots → x ≡ y
same_input x y same = λ i. record {
  slots = same i;
  rising = is_prop→PathP {0} (λ j. rising-type (same j)) (λ j. hlevel props) x.rising y.rising i;
}

pub started : (input : Given) (watch : List Site) (turns : List ℕ) (races : List (ℕ × ℕ)) →
    input.slots ≡ [] → watch ≡ [] → turns ≡ [] → races ≡ [] →
    progress (Some keywords.Heading) (record no_case { input = input; watch = watch; turns = turns; races = races }) ≡ start
started input watch turns races slots sites no_turns no_races = λ i.
    progress (Some keywords.Heading) (record no_case {
      input = same_input input no_input slots i;
      watch = sites i;
      turns = no_turns i;
      races = no_races i;
    })

pub bind_ok : {A B : Type 0} (r : Result A CaseError) (f : A → Result B CaseError) (y : B) → (r >>= f) ≡ Ok y →
    (x : A) × (r ≡ Ok x) × (f x ≡ Ok y)
bind_ok (Ok x) f y is = (x, refl, is)
bind_ok (Err error) f y is = cc

pub or_error_ok : {A : Type 0} (error : CaseError) (o : Option A) (x : A) → or_error error o ≡ Ok x → o ≡ Some x
or_error_ok error None x is = cc
or_error_ok error (Some y) x is = cc

pub guard_ok : {A : Type 0} (b : Bool) (error : CaseError) (r : Result A CaseError) (y : A) → cond b r (Err error) ≡ Ok y →
    (b ≡ true) × (r ≡ Ok y)
guard_ok true error r y is = (refl, is)
guard_ok false error r y is = cc

pub ok_is : {A : Type 0} (x y : A) → ◌≡◌ {A = Result A CaseError} (Ok x) (Ok y) → x ≡ y
ok_is x y is = cc

-- the runs of a line
range_is : (turns : List ℕ) (run : RunWord) → is_in_range turns run ≡ true →
    IsRun run × (length (turns ++ run_turns run) ≤ 20000)
range_is turns run is =
    let parts = and_parts _ _ is in
    let front = and_parts _ _ parts.0 in
    let low : run.thread < 16 = ltb-true _ _ front.0 in
    let some : 1 ≤ count_of run.times = leb-true _ _ front.1 in
    let few : length turns + count_of run.times ≤ 20000 = leb-true _ _ parts.1 in (
      (low, omega (arith, some)),
      omega (arith, few, length-append turns (run_turns run), length-replicate (count_of run.times) run.thread),
    )

runs_by : (run : RunWord) (fits : Bool) (turns : List ℕ) (rest : Option (List ℕ)) (more : List ℕ) → is_in_range turns run ≡ fits →
    cond fits rest None ≡ Some more → (is_in_range turns run ≡ true) × (rest ≡ Some more)
runs_by run true turns rest more fits is = (fits, is)
runs_by run false turns rest more fits is = cc

-- what the runs of a line make of the turns
pub record AddsRuns (runs : List RunWord) (turns more : List ℕ) : Type 0 where
  pub each : AllByRecursion IsRun runs
  pub uncut : AllByRecursion IsUncut runs
  pub more_is : more ≡ turns ++ flat_map run_turns runs
  pub few : length turns ≤ 20000 → length more ≤ 20000

pub runs_add : (runs : List RunWord) (turns more : List ℕ) → with_runs runs turns ≡ Some more → AddsRuns runs turns more
unfolding with_runs
runs_add [] turns more is =
    let same : turns ≡ more = cc in
    record { each = tt; uncut = tt; more_is = sym same ∙ sym (append-nil turns); few = λ few. omega (arith, few, ap length same) }
runs_add (run ∷ runs) turns more is =
    let first = runs_by run (is_in_range turns run) turns (with_runs runs (turns ++ run_turns run)) more refl is in
    let range = range_is turns run first.0 in
    let low : run.thread < 16 = range.0.0 in
    let others = runs_add runs (turns ++ run_turns run) more first.1 in
    let count : count_of run.times ≤ 20000 =
    omega (arith, range.1, length-append turns (run_turns run), length-replicate (count_of run.times) run.thread) in
    record {
      each = (range.0, others.each);
      uncut = ((omega (arith, low), omega (arith, count)), others.uncut);
      more_is = others.more_is ∙ append_assoc turns (run_turns run) (flat_map run_turns runs);
      few = λ _. others.few range.1;
    }

pub runs_again : (runs : List RunWord) (turns : List ℕ) → AllByRecursion IsRun runs → length (turns ++ flat_map run_turns runs) ≤ 20000 →
    with_runs runs turns ≡ Some (turns ++ flat_map run_turns runs)
unfolding with_runs
runs_again [] turns each few = ap Some (sym (append-nil turns))
runs_again (run ∷ runs) turns each few =
    let joins = append_assoc turns (run_turns run) (flat_map run_turns runs) in
    let low : run.thread < 16 = each.0.0 in
    let some : 1 ≤ count_of run.times = omega (arith, each.0.1) in
    let room : length turns + count_of run.times ≤ 20000 =
    omega (arith, few, length-append turns (run_turns run ++ flat_map run_turns runs), length-append (run_turns run) (flat_map run_turns runs), length-replicate (count_of run.times) run.thread) in
    rw (lt-ltb _ _ low, le-leb _ _ some, le-leb _ _ room) (runs_again runs (turns ++ run_turns run) each.1 (rw joins few) ∙ ap Some joins)

pub equal_sites : IsEquivalence is_site
equal_sites = record { refl = λ x. grind (arith, tests); symm = λ x y. grind (arith, tests); congr = λ x y z same. grind (arith, tests) }

with_site_is : (number : ℕ) (sites more : List Site) (site : Site) (named : Bool) → list_any (is_site site) sites ≡ named →
    cond named (Err (errors.Site number)) (Ok (sites ++ site ∷ [])) ≡ Ok more →
    (list_any (is_site site) sites ≡ false) × (more ≡ sites ++ site ∷ [])
with_site_is number sites more site true apart is = cc
with_site_is number sites more site false apart is = (apart, sym (ok_is _ _ is))

pub site_again : (code : Module) (number : ℕ) (words : Watched) (sites : List Site) (site : Site) → words.inst < 2 ^ 32 → length sites < 256 →
    site_of code words ≡ Some site → list_any (is_site site) sites ≡ false → with_watch code number words sites ≡ Ok (sites ++ site ∷ [])
unfolding with_watch
site_again code number words sites site low room is_found apart = rw (lt-ltb _ _ low, lt-ltb _ _ room, is_found, apart) refl

pub field_bounds : (field : OneNumber) → (most_of field < cut) × (rank_of (keywords.Field field) < 6)
field_bounds Seed = (omega arith, omega arith)
field_bounds Steps = (omega arith, omega arith)
field_bounds Visits = (omega arith, omega arith)
field_bounds Paths = (omega arith, omega arith)
field_bounds Schedules = (omega arith, omega arith)

-- the case with more in each list
abbrev pub grown : Case → List Site → List ℕ → List (ℕ × ℕ) → Case
grown case sites turns races =
    record case { watch = case.watch ++ sites; turns = case.turns ++ turns; races = case.races ++ races }

-- what a line between the head and the end makes of the case
pub record AddsLine (code : Module) (case : Case) (line : Line) (after : Progress) : Type 0 where
  pub is_line : IsBodyLine line
  pub uncut : AreUncut line
  pub sites : List Site
  pub sites_are : map Some sites ≡ map (site_of code) (watched_in line)
  pub after_is : after ≡ progress (Some (keyword_in line)) (grown case sites (turns_in line) (races_in line))
  pub room : HasRoom case → HasRoom (grown case sites (turns_in line) (races_in line))

-- what a line makes of the case, where it is in its bounds
unfoldable pub Fits : Module → Case → Line → Progress → Type 0
Fits code case Heading after = after ≡ progress (Some (keywords.Field Seed)) case
Fits code case (Field field value) after =
    (least_of field ≤ value) × (value ≤ most_of field)
    × (after ≡ progress (Some (after_field field)) (with_field field value case))
Fits code case (Input words) after = ⊥
Fits code case End after = (case.visits * case.steps ≤ 2 ^ 24) × (after ≡ progress None case)
Fits code case line after = AddsLine code case line after

pub line_fits : (code : Module) (number : ℕ) (case : Case) (line : Line) (after : Progress) → with_line code number case line ≡ Ok after →
    Fits code case line after
unfolding Fits with_watch
line_fits code number case Heading after is = sym (ok_is _ _ is)
line_fits code number case (Field field value) after is =
    let within = guard_ok (is_within field value) (errors.Range number) _ after is in
    let parts = and_parts _ _ within.0 in
    (leb-true _ _ parts.0, leb-true _ _ parts.1, sym (ok_is _ _ within.1))
line_fits code number case (Input words) after is =
    cond_both (is_input words) (Err (errors.Slot number)) (Err (errors.Range number)) (λ (r : Result Progress CaseError). r ≡ Ok after → ⊥)
    (λ _ bad. cc) (λ _ bad. cc) is
line_fits code number case (Watch words) after is =
    let made = bind_ok (with_watch code number words case.watch) _ after is in
    let within = guard_ok (is_watch case.watch words) (errors.Range number) _ made.0 made.1 in
    let parts = and_parts _ _ within.0 in
    let low : words.inst < 2 ^ 32 = ltb-true _ _ parts.0 in
    let few : length case.watch < 256 = ltb-true _ _ parts.1 in
    let found = bind_ok (or_error (errors.Site number) (site_of code words)) (with_site number case.watch) made.0 within.1 in
    let added = with_site_is number case.watch made.0 found.0 (list_any (is_site found.0) case.watch) refl found.2 in
    record {
      is_line = low;
      uncut = omega (arith, low);
      sites = found.0 ∷ [];
      sites_are = ap (λ s. s ∷ []) (sym (or_error_ok _ _ _ found.1));
      after_is =
          sym (ok_is _ _ made.2)
          ∙ (λ i. progress (Some keywords.Watch) (record case {
            watch = added.1 i;
            turns = sym (append-nil case.turns) i;
            races = sym (append-nil case.races) i;
          }));
      room = λ room. record {
        watch = omega (arith, few, length-append case.watch (found.0 ∷ []));
        distinct = IsDistinct-push equal_sites case.watch found.0 room.distinct added.0;
        turns = omega (arith, room.turns, length-append case.turns []);
        races = omega (arith, room.races, length-append case.races []);
      };
    }
line_fits code number case (Turns runs) after is =
    let made = bind_ok (or_error (errors.Range number) (with_runs runs case.turns)) _ after is in
    let adds = runs_add runs case.turns made.0 (or_error_ok _ _ _ made.1) in
    let more : made.0 ≡ case.turns ++ turns_in (Turns runs) = adds.more_is in
    record {
      is_line = adds.each;
      uncut = adds.uncut;
      sites = [];
      sites_are = refl;
      after_is =
          sym (ok_is _ _ made.2)
          ∙ (λ i. progress (Some keywords.Turn) (record case {
            watch = sym (append-nil case.watch) i;
            turns = more i;
            races = sym (append-nil case.races) i;
          }));
      room = λ room. record {
        watch = omega (arith, room.watch, length-append case.watch []);
        distinct = rw (append-nil case.watch) room.distinct;
        turns = let few : length made.0 ≤ 20000 = adds.few room.turns in omega (arith, few, ap length more);
        races = omega (arith, room.races, length-append case.races []);
      };
    }
line_fits code number case (Race first second) after is =
    let made = bind_ok (with_race number first second case.races) _ after is in
    let within = guard_ok (is_race case.races first second) (errors.Range number) _ made.0 made.1 in
    let parts = and_parts _ _ within.0 in
    let front = and_parts _ _ parts.0 in
    let one : first < 2 ^ 32 = ltb-true _ _ front.0 in
    let two : second < 2 ^ 32 = ltb-true _ _ front.1 in
    let few : length case.races < 1 = ltb-true _ _ parts.1 in
    record {
      is_line = (one, two);
      uncut = (omega arith, omega arith);
      sites = [];
      sites_are = refl;
      after_is =
          sym (ok_is _ _ made.2)
          ∙ (λ i. progress (Some keywords.Race) (record case {
            watch = sym (append-nil case.watch) i;
            turns = sym (append-nil case.turns) i;
            races = sym (ok_is _ _ within.1) i;
          }));
      room = λ room. record {
        watch = omega (arith, room.watch, length-append case.watch []);
        distinct = rw (append-nil case.watch) room.distinct;
        turns = omega (arith, room.turns, length-append case.turns []);
        races = omega (arith, few, length-append case.races ((first, second) ∷ []));
      };
    }
line_fits code number case End after is =
    cond_both (ltb (2 ^ 24) (case.visits * case.steps)) (Err (errors.Range number)) (Ok (progress None case))
    (λ (r : Result Progress CaseError). r ≡ Ok after → (case.visits * case.steps ≤ 2 ^ 24) × (after ≡ progress None case))
    (λ _ bad. cc) (λ test good. (ltb-false _ _ test, sym (ok_is _ _ good))) is

-- the numbers of a line in its bounds are not cut
pub fits_uncut : (code : Module) (case : Case) (line : Line) (after : Progress) → Fits code case line after → AreUncut line
unfolding Fits
fits_uncut code case Heading after fits = tt
fits_uncut code case (Field field value) after fits = omega (arith, fits.1, (field_bounds field).0)
fits_uncut code case (Input words) after fits = absurd fits
fits_uncut code case End after fits = tt
fits_uncut code case line after fits = fits.uncut

-- an error is not before this line
NotBefore : {A : Type 0} → ℕ → Result A CaseError → Type 0
NotBefore number (Ok x) = Unit {0}
NotBefore number (Err error) = number ≤ place_of error

at_guard : {A : Type 0} (b : Bool) (number : ℕ) (one other : Result A CaseError) → NotBefore number one → NotBefore number other →
    NotBefore number (cond b one other)
at_guard true number one other here there = here
at_guard false number one other here there = there

at_error : {A : Type 0} (number : ℕ) (error : CaseError) (o : Option A) → number ≤ place_of error → NotBefore number (or_error error o)
unfolding NotBefore
at_error number error None is = is
at_error number error (Some x) is = tt

at_bind : {A B : Type 0} (number : ℕ) (r : Result A CaseError) (f : A → Result B CaseError) → NotBefore number r →
    ((x : A) → NotBefore number (f x)) → NotBefore number (r >>= f)
unfolding NotBefore
at_bind number (Ok x) f here rest = rest x
at_bind number (Err error) f here rest = here

watch_at : (code : Module) (number : ℕ) (words : Watched) (sites : List Site) → NotBefore number (with_watch code number words sites)
unfolding NotBefore with_watch
watch_at code number words sites =
    at_guard (is_watch sites words) number _ (Err (errors.Range number))
    (at_bind number (or_error (errors.Site number) (site_of code words)) (with_site number sites)
    (at_error number (errors.Site number) (site_of code words) (omega arith))
    (λ site. at_guard _ number (Err (errors.Site number)) (Ok (sites ++ site ∷ [])) (omega arith) tt)) (omega arith)

line_at : (code : Module) (number : ℕ) (case : Case) (line : Line) → NotBefore number (with_line code number case line)
unfolding NotBefore
line_at code number case Heading = tt
line_at code number case (Field field value) = at_guard (is_within field value) number _ (Err (errors.Range number)) tt (omega arith)
line_at code number case (Input words) =
    at_guard (is_input words) number (Err (errors.Slot number)) (Err (errors.Range number)) (omega arith) (omega arith)
line_at code number case (Watch words) =
    at_bind number (with_watch code number words case.watch) _ (watch_at code number words case.watch) (λ _. tt)
line_at code number case (Turns runs) =
    at_bind number (or_error (errors.Range number) (with_runs runs case.turns)) _
    (at_error number (errors.Range number) (with_runs runs case.turns) (omega arith)) (λ _. tt)
line_at code number case (Race first second) =
    at_bind number (with_race number first second case.races) _
    (at_guard (is_race case.races first second) number _ (Err (errors.Range number)) tt (omega arith)) (λ _. tt)
line_at code number case End =
    at_guard (ltb (2 ^ 24) (case.visits * case.steps)) number (Err (errors.Range number)) (Ok (progress None case)) (omega arith) tt

taken_at : (code : Module) (here : Progress) (number : ℕ) (text : List ℕ) → NotBefore number (taken code here number text)
unfolding NotBefore taken step
taken_at code here number text =
    at_bind number (or_error (errors.Syntax number) (line_of text)) (step code here number)
    (at_error number (errors.Syntax number) (line_of text) (omega arith))
    (λ line. at_guard (may_stand here.next (keyword_in line)) number _ (Err (errors.Syntax number)) (line_at code number here.case line) (omega arith))

earlier : (number : ℕ) (r : Result Case CaseError) → NotBefore (number + 1) r → NotBefore number r
unfolding NotBefore
earlier number (Ok case) later = tt
earlier number (Err error) later = omega arith

lines_at : (code : Module) (parts : List (List ℕ)) (here : Progress) (number : ℕ) → NotBefore number (lines_from code here number parts)
unfolding lines_from NotBefore
lines_at code [] here number = omega arith
lines_at code (last ∷ []) here number =
    at_guard (is_ended here last) number (Ok here.case) (Err (errors.Syntax number)) tt (omega arith)
lines_at code (line ∷ next ∷ more) here number =
    at_bind number (taken code here number line) _ (taken_at code here number line)
    (λ after. earlier number _ (lines_at code (next ∷ more) after (number + 1)))

pub lines_cons : (code : Module) (here : Progress) (number : ℕ) (line : List ℕ) (rest : List (List ℕ)) → HasFirst rest →
    lines_from code here number (line ∷ rest) ≡ ((taken code here number line) >>= (λ after. lines_from code after (number + 1) rest))
unfolding lines_from
lines_cons code here number line rest (first, others, is) = rw is refl

pub first_behind : (lines parts : List (List ℕ)) → HasFirst parts → HasFirst (lines ++ parts)
first_behind [] parts has = has
first_behind (line ∷ lines) parts has = (line, lines ++ parts, refl)

same_error : (r : Result Progress CaseError) (f g : Progress → Result Case CaseError) (error : CaseError) → (r >>= f) ≡ Err error →
    ((after : Progress) → f after ≡ Err error → g after ≡ Err error) → (r >>= g) ≡ Err error
same_error (Ok after) f g error is rest = rest after is
same_error (Err other) f g error is rest = cc

before : (number : ℕ) (r : Result Case CaseError) (error : CaseError) → NotBefore number r → r ≡ Err error → number ≤ place_of error
unfolding NotBefore
before number r error not_before is = subst (NotBefore number) is not_before

refused_from : (code : Module) (lines parts others : List (List ℕ)) (here : Progress) (number : ℕ) (error : CaseError) → HasFirst parts → HasFirst others →
    place_of error < number + length lines → lines_from code here number (lines ++ parts) ≡ Err error →
    lines_from code here number (lines ++ others) ≡ Err error
refused_from code [] parts others here number error has other_has place is =
    absurd (omega (arith, before number _ error (lines_at code parts here number) is))
refused_from code (line ∷ lines) parts others here number error has other_has place is =
    lines_cons code here number line (lines ++ others) (first_behind lines others other_has)
    ∙ same_error (taken code here number line) (λ after. lines_from code after (number + 1) (lines ++ parts))
    (λ after. lines_from code after (number + 1) (lines ++ others)) error
    (sym (lines_cons code here number line (lines ++ parts) (first_behind lines parts has)) ∙ is)
    (λ after. refused_from code lines parts others after (number + 1) error has other_has (omega arith))

pub refused : (code : Module) (lines : List (List ℕ)) (rest other : List ℕ) (error : CaseError) → AllByRecursion (Lacks 10) lines →
    place_of error ≡ length lines → case_of code (lines_text lines ++ rest) ≡ Err error → case_of code (lines_text lines ++ other) ≡ Err error
unfolding case_of
refused code lines rest other error lack place is =
    ap (lines_from code start 1) (lines_parted lines other lack)
    ∙ refused_from code lines (parts_of 10 rest) (parts_of 10 other) start 1 error (parts_have_first 10 rest) (parts_have_first 10 other)
    (omega arith) (sym (ap (lines_from code start 1) (lines_parted lines rest lack)) ∙ is)
