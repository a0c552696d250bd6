-- An accepted text is the lines of its case.
use Rattle.std.proofs.Common.{◌≡◌, ℕ, ◌+◌, ◌*◌, ◌^◌, ◌<◌, ◌≤◌, true, not, ◌||◌, ◌&&◌, eqb, leb, eqb-true, List, [], ◌∷◌, ◌++◌, length, map, Option, Some, None, Ok, ◌⊎◌, inl, inr, refl, ap, ◌∙◌, sym, subst, arith, tests, slice_get, append_assoc, append-nil}
use Rattle.std.specs.List.{AllByRecursion, IsDistinct, flat_map}
use Rattle.std.specs.Option.{is_some}
use Rattle.std.proofs.lemmas.Bool.{and_parts}
use Rattle.std.proofs.lemmas.List.{map-append}
use Rattle.std.proofs.lemmas.Option.{same_Some}
use Rattle.ir_types.specs.declared.instruction.Site.{Site}
use Rattle.ir_types.specs.declared.«module».Module.{Module}
use Rattle.run_types.specs.Site.{is_site}
use Rattle.run_types.specs.declared.case.Case.{Case}
use Rattle.rc_base.specs.Failures.{or_error}
use Rattle.case_text.specs.declared.error.CaseError.TheVariants as errors
use Rattle.case_text.specs.declared.keyword.Field.{Field as OneNumber}
use Rattle.case_text.specs.declared.keyword.Field.TheVariants.{Seed, Steps, Visits, Paths, Schedules}
use Rattle.case_text.specs.declared.keyword.Keyword.{Keyword}
use Rattle.case_text.specs.declared.keyword.Keyword.TheVariants as keywords
use Rattle.case_text.specs.declared.line.Line.{Line}
use Rattle.case_text.specs.declared.line.Line.TheVariants.{Heading, Field, Input, End}
use Rattle.case_text.specs.declared.progress.Progress.{Progress}
use Rattle.case_text.specs.Keyword.{after_field, keywords as every_keyword, least_of, may_stand, most_of, rank_of}
use Rattle.case_text.specs.Laws.{AreInOrder, HasRoom, IsBodyLine, Spells, case_lines, races_in, turns_in, watched_in}
use Rattle.case_text.specs.Line.{AreUncut, IsForm, keyword_in, line_of, line_text}
use Rattle.case_text.specs.Progress.{is_ended, no_case, progress, start, step, taken, with_field}
use Rattle.case_text.specs.Read.{case_of, lines_from}
use Rattle.case_text.specs.Watch.{site_of}
use Rattle.text_lines.specs.Part.{lines_text, parts_of}
use Rattle.text_lines.proofs.Joined.{joined_again, lines_joined}
use Rattle.case_text.proofs.Shapes.{known, line_read}
use Rattle.case_text.proofs.Steps.{AddsLine, Fits, bind_ok, field_bounds, fits_uncut, grown, guard_ok, line_fits, ok_is, or_error_ok}

-- the lines lead to the end of a case
abbrev pub LeadTo : Module → Progress → ℕ → List Line → Case → Type 0
LeadTo code here number [] case = (here.next ≡ None) × (here.case ≡ case)
LeadTo code here number (line ∷ lines) case =
    (after : Progress) × (step code here number line ≡ Ok after) × LeadTo code after (number + 1) lines case

pub step_fits : (code : Module) (here : Progress) (number : ℕ) (line : Line) (after : Progress) → step code here number line ≡ Ok after →
    (may_stand here.next (keyword_in line) ≡ true) × Fits code here.case line after
unfolding step
step_fits code here number line after is =
    let stands = guard_ok (may_stand here.next (keyword_in line)) (errors.Syntax number) _ after is in
    (stands.0, line_fits code number here.case line after stands.1)

pub uncut : (code : Module) (here : Progress) (number : ℕ) (line : Line) (after : Progress) → step code here number line ≡ Ok after → AreUncut line
uncut code here number line after is = fits_uncut code here.case line after (step_fits code here number line after is).1

pub record ReadLines (code : Module) (here : Progress) (number : ℕ) (parts : List (List ℕ)) (case : Case) : Type 0 where
  pub lines : List Line
  pub parts_are : parts ≡ map line_text lines ++ [] ∷ []
  pub forms : AllByRecursion IsForm lines
  pub lead : LeadTo code here number lines case

nothing_is : (last : List ℕ) → eqb (length last) 0 ≡ true → last ≡ []
nothing_is [] is = refl
nothing_is (byte ∷ last) is = absurd (omega (arith, eqb-true (length (byte ∷ last)) 0 is))

none_next : (next : Option Keyword) → not (is_some next) ≡ true → next ≡ None
none_next None is = refl
none_next (Some keyword) is = cc

pub lines_read : (code : Module) (parts : List (List ℕ)) (here : Progress) (number : ℕ) (case : Case) → lines_from code here number parts ≡ Ok case →
    ReadLines code here number parts case
unfolding lines_from taken
lines_read code [] here number case is = cc
lines_read code (last ∷ []) here number case is =
    let ended = guard_ok (is_ended here last) (errors.Syntax number) (Ok here.case) case is in
    let parts = and_parts _ _ ended.0 in
    record {
      lines = [];
      parts_are = ap (λ l. l ∷ []) (nothing_is last parts.1);
      forms = tt;
      lead = (none_next here.next parts.0, ok_is _ _ ended.1);
    }
lines_read code (text ∷ next ∷ more) here number case is =
    let first = bind_ok (taken code here number text) _ case is in
    let line = bind_ok (or_error (errors.Syntax number) (line_of text)) (step code here number) first.0 first.1 in
    let shape = line_read text line.0 (uncut code here number line.0 first.0 line.2) (or_error_ok _ _ _ line.1) in
    let others = lines_read code (next ∷ more) first.0 (number + 1) case first.2 in
    record {
      lines = line.0 ∷ others.lines;
      parts_are = ap (λ t. t ∷ next ∷ more) shape.0 ∙ ap (λ ps. line_text line.0 ∷ ps) others.parts_are;
      forms = (shape.1, others.forms);
      lead = (first.0, line.2, others.lead);
    }

-- which lines may stand somewhere
stands_in_head : (first other : ℕ) → (eqb first other || leb 6 first && leb first other) ≡ true → first < 6 → first ≡ other
stands_in_head first other stands low = grind (arith, tests)

stands_in_body : (first other : ℕ) → (eqb first other || leb 6 first && leb first other) ≡ true → first ≤ other
stands_in_body first other stands = grind (arith, tests)

same_rank : (one other : Keyword) → rank_of one ≡ rank_of other → one ≡ other
same_rank one other same = same_Some _ _ (sym (known one).2 ∙ ap (slice_get every_keyword) same ∙ (known other).2)

pub grown_none : (case : Case) → grown case [] [] [] ≡ case
grown_none case = λ i.
    record case { watch = append-nil case.watch i; turns = append-nil case.turns i; races = append-nil case.races i }

grown_twice : (case : Case) (s others : List Site) (t turns : List ℕ) (r races : List (ℕ × ℕ)) →
    grown (grown case s t r) others turns races ≡ grown case (s ++ others) (t ++ turns) (r ++ races)
grown_twice case s others t turns r races = λ i. record case {
  watch = append_assoc case.watch s others i;
  turns = append_assoc case.turns t turns i;
  races = append_assoc case.races r races i;
}

-- the end, with what it asks
abbrev Ends : Case → Line → Progress → Type 0
Ends case line after = (line ≡ End) × (case.visits * case.steps ≤ 2 ^ 24) × (after ≡ progress None case)

line_sorts : (code : Module) (case : Case) (line : Line) (after : Progress) → 6 ≤ rank_of (keyword_in line) → Fits code case line after →
    AddsLine code case line after ⊎ Ends case line after
unfolding Fits
line_sorts code case Heading after low fits = absurd (omega arith)
line_sorts code case (Field field value) after low fits = absurd (omega (arith, (field_bounds field).1))
line_sorts code case (Input words) after low fits = absurd fits
line_sorts code case End after low fits = inr (refl, fits.0, fits.1)
line_sorts code case line after low fits = inl fits

-- the lines from one on, up to the end
record ReadBody (code : Module) (first : Keyword) (case : Case) (lines : List Line) (whole : Case) : Type 0 where
  body : List Line
  lines_are : lines ≡ body ++ End ∷ []
  each : AllByRecursion IsBodyLine body
  forms : AllByRecursion IsForm body
  in_order : AreInOrder first body
  sites : List Site
  sites_are : map Some sites ≡ map (site_of code) (flat_map watched_in body)
  whole_is : whole ≡ grown case sites (flat_map turns_in body) (flat_map races_in body)
  room : HasRoom case → HasRoom whole
  product : case.visits * case.steps ≤ 2 ^ 24

nothing_behind : (code : Module) (case : Case) (lines : List Line) (number : ℕ) (whole : Case) → LeadTo code (progress None case) number lines whole →
    (lines ≡ []) × (case ≡ whole)
unfolding step
nothing_behind code case [] number whole lead = (refl, lead.1)
nothing_behind code case (line ∷ lines) number whole (after, is, lead) = cc

body_by : (code : Module) (first : Keyword) (case : Case) (line : Line) (lines : List Line) (number : ℕ) (after : Progress) (whole : Case) → IsForm line →
    rank_of first ≤ rank_of (keyword_in line) → LeadTo code after number lines whole →
    ((more : Case) → LeadTo code (progress (Some (keyword_in line)) more) number lines whole → ReadBody code (keyword_in line) more lines whole) →
    AddsLine code case line after ⊎ Ends case line after → ReadBody code first case (line ∷ lines) whole
body_by code first case line lines number after whole form order lead rest (inl adds) =
    let more : Case = grown case adds.sites (turns_in line) (races_in line) in
    let others = rest more (subst (λ (p : Progress). LeadTo code p number lines whole) adds.after_is lead) in
    record {
      body = line ∷ others.body;
      lines_are = ap (λ ls. line ∷ ls) others.lines_are;
      each = (adds.is_line, others.each);
      forms = (form, others.forms);
      in_order = (order, others.in_order);
      sites = adds.sites ++ others.sites;
      sites_are =
          map-append Some adds.sites others.sites
          ∙ ap (λ s. s ++ map Some others.sites) adds.sites_are
          ∙ ap (λ s. map (site_of code) (watched_in line) ++ s) others.sites_are
          ∙ sym (map-append (site_of code) (watched_in line) (flat_map watched_in others.body));
      whole_is =
          others.whole_is
          ∙ grown_twice case adds.sites others.sites (turns_in line) (flat_map turns_in others.body) (races_in line) (flat_map races_in others.body);
      room = λ room. others.room (adds.room room);
      product = others.product;
    }
body_by code first case line lines number after whole form order lead rest (inr ends) =
    let nothing = nothing_behind code case lines number whole (subst (λ (p : Progress). LeadTo code p number lines whole) ends.2 lead) in
    let same : case ≡ whole = nothing.1 in
    record {
      body = [];
      lines_are = λ i. ends.0 i ∷ nothing.0 i;
      each = tt;
      forms = tt;
      in_order = tt;
      sites = [];
      sites_are = refl;
      whole_is = sym same ∙ sym (grown_none case);
      room = λ room. subst HasRoom same room;
      product = ends.1;
    }

body_read : (code : Module) (lines : List Line) (first : Keyword) (case : Case) (number : ℕ) (whole : Case) → 6 ≤ rank_of first →
    AllByRecursion IsForm lines → LeadTo code (progress (Some first) case) number lines whole → ReadBody code first case lines whole
body_read code [] first case number whole low forms lead = cc
body_read code (line ∷ lines) first case number whole low forms (after, is, lead) =
    let fits = step_fits code (progress (Some first) case) number line after is in
    let order : rank_of first ≤ rank_of (keyword_in line) = stands_in_body (rank_of first) (rank_of (keyword_in line)) fits.0 in
    let behind : 6 ≤ rank_of (keyword_in line) = omega arith in
    body_by code first case line lines (number + 1) after whole forms.0 order lead
    (λ more led. body_read code lines (keyword_in line) more (number + 1) whole behind forms.1 led)
    (line_sorts code case line after behind fits.1)

-- the first of some lines, with what is behind it
record ReadHead (code : Module) (lines : List Line) (line : Line) (after : Progress) (number : ℕ) (whole : Case) : Type 0 where
  rest : List Line
  lines_are : lines ≡ line ∷ rest
  forms : AllByRecursion IsForm rest
  lead : LeadTo code after (number + 1) rest whole

-- where only one keyword may stand there
head_read : (code : Module) (keyword : Keyword) (case : Case) (lines : List Line) (number : ℕ) (whole : Case) → rank_of keyword < 6 →
    AllByRecursion IsForm lines → LeadTo code (progress (Some keyword) case) number lines whole →
    (line : Line) × (after : Progress) × ReadHead code lines line after number whole × (keyword_in line ≡ keyword) × Fits code case line after
head_read code keyword case [] number whole low forms lead = cc
head_read code keyword case (line ∷ lines) number whole low forms (after, is, lead) =
    let fits = step_fits code (progress (Some keyword) case) number line after is in (
      line,
      after,
      record { rest = lines; lines_are = refl; forms = forms.1; lead = lead },
      sym (same_rank _ _ (stands_in_head (rank_of keyword) (rank_of (keyword_in line)) fits.0 low)),
      fits.1,
    )

-- a line by its keyword
abbrev IsOf : Keyword → Line → Type 0
IsOf keywords.Heading line = line ≡ Heading
IsOf (keywords.Field field) line = (value : ℕ) × (line ≡ Field field value)
IsOf _ line = Unit {0}

is_of : (line : Line) → IsOf (keyword_in line) line
is_of Heading = refl
is_of (Field field value) = (value, refl)
is_of _ = tt

field_read : (code : Module) (field : OneNumber) (case : Case) (lines : List Line) (number : ℕ) (whole : Case) → AllByRecursion IsForm lines →
    LeadTo code (progress (Some (keywords.Field field)) case) number lines whole →
    (value : ℕ) × (least_of field ≤ value) × (value ≤ most_of field)
    × ReadHead code lines (Field field value) (progress (Some (after_field field)) (with_field field value case)) number whole
unfolding Fits
field_read code field case lines number whole forms lead =
    let head = head_read code (keywords.Field field) case lines number whole (field_bounds field).1 forms lead in
    let line = subst (λ k. IsOf k head.0) head.3 (is_of head.0) in
    let fits : Fits code case (Field field line.0) head.1 = subst (λ (l : Line). Fits code case l head.1) line.1 head.4 in (
      line.0,
      fits.0,
      fits.1,
      subst (λ (p : Progress). ReadHead code lines (Field field line.0) p number whole) fits.2
          (subst (λ (l : Line). ReadHead code lines l head.1 number whole) line.1 head.2),
    )

no_sites_distinct : IsDistinct is_site []
unfolding IsDistinct
no_sites_distinct = tt

pub accepted : (code : Module) (text : List ℕ) (case : Case) → case_of code text ≡ Ok case → (body : List Line) × Spells code text case body
unfolding case_of Fits
accepted code text case is =
    let read = lines_read code (parts_of 10 text) start 1 case is in
    let head = head_read code keywords.Heading no_case read.lines 1 case (omega arith) read.forms read.lead in
    let heading : head.0 ≡ Heading = subst (λ k. IsOf k head.0) head.3 (is_of head.0) in
    let headed : head.1 ≡ progress (Some (keywords.Field Seed)) no_case = subst (λ (l : Line). Fits code no_case l head.1) heading head.4 in
    let first = head.2 in
    let a = field_read code Seed no_case first.rest 2 case first.forms (subst (λ (p : Progress). LeadTo code p 2 first.rest case) headed first.lead) in
    let with_seed : Case = with_field Seed a.0 no_case in
    let b = field_read code Steps with_seed (a.3).rest 3 case (a.3).forms (a.3).lead in
    let with_steps : Case = with_field Steps b.0 with_seed in
    let c = field_read code Visits with_steps (b.3).rest 4 case (b.3).forms (b.3).lead in
    let with_visits : Case = with_field Visits c.0 with_steps in
    let d = field_read code Paths with_visits (c.3).rest 5 case (c.3).forms (c.3).lead in
    let with_paths : Case = with_field Paths d.0 with_visits in
    let e = field_read code Schedules with_paths (d.3).rest 6 case (d.3).forms (d.3).lead in
    let with_all : Case = with_field Schedules e.0 with_paths in
    let rest = body_read code (e.3).rest keywords.Input with_all 7 case (omega arith) (e.3).forms (e.3).lead in
    let whole : Case = grown with_all rest.sites (flat_map turns_in rest.body) (flat_map races_in rest.body) in
    let lines_are : read.lines ≡ case_lines whole rest.body =
    first.lines_are
    ∙ (λ i. heading i ∷ (a.3).lines_are i)
    ∙ ap (λ ls. Heading ∷ Field Seed a.0 ∷ ls) ((b.3).lines_are
    ∙ ap (λ ls. Field Steps b.0 ∷ ls) ((c.3).lines_are
    ∙ ap (λ ls. Field Visits c.0 ∷ ls) ((d.3).lines_are
    ∙ ap (λ ls. Field Paths d.0 ∷ ls) ((e.3).lines_are
    ∙ ap (λ ls. Field Schedules e.0 ∷ ls) rest.lines_are)))) in (
      rest.body,
      subst (λ (found : Case). Spells code text found rest.body) (sym rest.whole_is)
          (record {
            text_is =
                joined_again 10 text _ read.parts_are
                ∙ lines_joined (map line_text read.lines) []
                ∙ append-nil (lines_text (map line_text read.lines))
                ∙ ap (λ ls. lines_text (map line_text ls)) lines_are;
            body_lines = rest.each;
            forms = rest.forms;
            in_order = rest.in_order;
            sites_are = rest.sites_are;
            turns_are = refl;
            races_are = refl;
            bounds = record {
              seed = omega (arith, a.2);
              steps = (b.1, b.2);
              visits = (c.1, c.2);
              product = rest.product;
              paths = omega (arith, d.1, d.2);
              schedules = omega (arith, e.1, e.2);
              input = refl;
              room = subst HasRoom rest.whole_is (rest.room (record { watch = omega arith; distinct = no_sites_distinct; turns = omega arith; races = omega arith }));
            };
          }),
    )
