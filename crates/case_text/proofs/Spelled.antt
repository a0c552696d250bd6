-- A text that is the lines of a case is accepted as that case.
use Rattle.std.proofs.Common.{◌≡◌, ℕ, ◌+◌, ◌*◌, ◌^◌, ◌<◌, ◌≤◌, true, false, ◌||◌, ◌&&◌, eqb, leb, eq-eqb, le-leb, le-ltb, lt-ltb, List, [], ◌∷◌, ◌++◌, length, map, Some, None, Ok, refl, ap, ◌∙◌, sym, subst, arith, tests, append_assoc, append-nil, length-append}
use Rattle.std.specs.List.{AllByRecursion, IsDistinct, flat_map, list_any}
use Rattle.std.proofs.lemmas.Map.Keys.{IsDistinct-head, IsDistinct-tail}
use Rattle.ir_types.specs.declared.instruction.Site.{Site}
use Rattle.ir_types.specs.declared.«module».Module.{Module}
use Rattle.run_types.specs.Site.{is_site}
use Rattle.run_types.specs.declared.case.Case.{Case}
use Rattle.rc_base.specs.Failures.{◌>>=◌}
use Rattle.case_text.specs.declared.keyword.Field.{Field as OneNumber}
use Rattle.case_text.specs.declared.keyword.Field.TheVariants.{Seed, Steps, Visits, Paths, Schedules}
use Rattle.case_text.specs.declared.keyword.Keyword.{Keyword}
use Rattle.case_text.specs.declared.keyword.Keyword.TheVariants as keywords
use Rattle.case_text.specs.declared.line.Line.{Line}
use Rattle.case_text.specs.declared.line.Line.TheVariants.{Heading, Field, Watch, Turns, Race, End}
use Rattle.case_text.specs.declared.progress.Progress.{Progress}
use Rattle.case_text.specs.Keyword.{after_field, least_of, may_stand, most_of, rank_of}
use Rattle.case_text.specs.Laws.{AreInOrder, HasRoom, IsBodyLine, Spells, case_lines, races_in, turns_in, watched_in}
use Rattle.case_text.specs.Line.{IsForm, keyword_in, line_text}
use Rattle.case_text.specs.Progress.{no_case, no_input, progress, start, step, taken, with_field, with_line}
use Rattle.case_text.specs.Read.{case_of, lines_from}
use Rattle.case_text.specs.Watch.{site_of}
use Rattle.text_lines.specs.Part.{Lacks, lines_text, parts_of}
use Rattle.text_lines.specs.RunWord.{run_turns}
use Rattle.text_lines.proofs.Joined.{lines_parted}
use Rattle.case_text.proofs.Accepted.{LeadTo, grown_none, uncut}
use Rattle.case_text.proofs.Shapes.{line_again, line_lacks_feed}
use Rattle.case_text.proofs.Steps.{equal_sites, first_behind, grown, lines_cons, runs_again, same_input, site_again}

stepped : (code : Module) (here : Progress) (number : ℕ) (line : Line) (after : Progress) → may_stand here.next (keyword_in line) ≡ true →
    with_line code number here.case line ≡ Ok after → step code here number line ≡ Ok after
unfolding step
stepped code here number line after stands is = rw stands is

taken_again : (code : Module) (here : Progress) (number : ℕ) (line : Line) (after : Progress) → IsForm line → step code here number line ≡ Ok after →
    taken code here number (line_text line) ≡ Ok after
unfolding taken
taken_again code here number line after form is = rw (line_again line (uncut code here number line after is) form) is

lines_again : (code : Module) (lines : List Line) (here : Progress) (number : ℕ) (case : Case) → AllByRecursion IsForm lines →
    LeadTo code here number lines case →
    (lines_from code here number (map line_text lines ++ [] ∷ []) ≡ Ok case) × AllByRecursion (Lacks 10) (map line_text lines)
unfolding lines_from
lines_again code [] here number case forms lead = (rw lead.0 (ap Ok lead.1), tt)
lines_again code (line ∷ lines) here number case forms (after, is, lead) =
    let others = lines_again code lines after (number + 1) case forms.1 lead in (
      lines_cons code here number (line_text line) (map line_text lines ++ [] ∷ []) (first_behind (map line_text lines) ([] ∷ []) ([], [], refl))
          ∙ ap (λ r. r >>= (λ after. lines_from code after (number + 1) (map line_text lines ++ [] ∷ [])))
          (taken_again code here number line after forms.0 is)
          ∙ others.0,
      (line_lacks_feed line (uncut code here number line after is) forms.0, others.1),
    )

stands_again : (first other : ℕ) → 6 ≤ first → first ≤ other → (eqb first other || leb 6 first && leb first other) ≡ true
stands_again first other low high = grind (arith, tests)

stands_same : (first : ℕ) → (eqb first first || leb 6 first && leb first first) ≡ true
stands_same first = rw (eq-eqb first first refl) refl

each_at : (sites others : List Site) (site first : Site) → AllByRecursion (λ other. is_site first other ≡ false) (sites ++ site ∷ others) →
    is_site first site ≡ false
each_at [] others site first each = each.0
each_at (next ∷ sites) others site first each = each_at sites others site first each.1

-- no site is among those before it
apart_before : (sites others : List Site) (site : Site) → IsDistinct is_site (sites ++ site ∷ others) → list_any (is_site site) sites ≡ false
apart_before [] others site distinct = refl
apart_before (first ∷ sites) others site distinct =
    let here : is_site site first ≡ false =
    equal_sites.symm site first ∙ each_at sites others site first (IsDistinct-head is_site first (sites ++ site ∷ others) distinct) in
    rw (here, apart_before sites others site (IsDistinct-tail is_site first (sites ++ site ∷ others) distinct)) refl

-- lines between the head and the end, and the end, lead to the case that they make
body_leads : (code : Module) (body : List Line) (first : Keyword) (case : Case) (sites : List Site) (number : ℕ) (whole : Case) →
    6 ≤ rank_of first → AllByRecursion IsBodyLine body → AreInOrder first body →
    map Some sites ≡ map (site_of code) (flat_map watched_in body) →
    whole ≡ grown case sites (flat_map turns_in body) (flat_map races_in body) →
    HasRoom whole → rank_of first ≤ 10 → case.visits * case.steps ≤ 2 ^ 24 →
    LeadTo code (progress (Some first) case) number (body ++ End ∷ []) whole
body_leads code [] first case [] number whole low each order sites is room high product = (
  progress None case,
  stepped code (progress (Some first) case) number End (progress None case) (stands_again (rank_of first) 10 low high) (rw (le-ltb _ _ product) refl),
  (refl, sym (is ∙ grown_none case)),
)
body_leads code [] first case (site ∷ sites) number whole low each order are is room high product = cc
body_leads code (Watch words ∷ body) first case [] number whole low each order are is room high product = cc
body_leads code (Watch words ∷ body) first case (site ∷ sites) number whole low each order are is room high product =
    let more : List Site = case.watch ++ site ∷ [] in
    let low_inst : words.inst < 2 ^ 32 = each.0 in
    let found : site_of code words ≡ Some site = cc in
    let others : map Some sites ≡ map (site_of code) (flat_map watched_in body) = cc in
    let few : length case.watch < 256 = omega (arith, room.watch, ap (λ (c : Case). length c.watch) is, length-append case.watch (site ∷ sites)) in
    let apart = apart_before case.watch sites site (subst (λ (c : Case). IsDistinct is_site c.watch) is room.distinct) in
    let after = progress (Some keywords.Watch) (record case { watch = more }) in (
      after,
      stepped code (progress (Some first) case) number (Watch words) after (stands_again (rank_of first) 7 low order.0)
          (rw (site_again code number words case.watch site low_inst few found apart) refl),
      body_leads code body keywords.Watch (record case { watch = more }) sites (number + 1) whole (omega arith) each.1 order.1 others
          (is ∙ (λ i. record case {
            watch = sym (append_assoc case.watch (site ∷ []) sites) i;
            turns = case.turns ++ flat_map turns_in body;
            races = case.races ++ flat_map races_in body;
          })) room (omega arith) product,
    )
body_leads code (Turns runs ∷ body) first case sites number whole low each order are is room high product =
    let added : List ℕ = flat_map run_turns runs in
    let few : length (case.turns ++ added) ≤ 20000 =
    omega (arith, room.turns, ap (λ (c : Case). length c.turns) is, length-append case.turns (added ++ flat_map turns_in body), length-append case.turns added, length-append added (flat_map turns_in body)) in
    let after = progress (Some keywords.Turn) (record case { turns = case.turns ++ added }) in (
      after,
      stepped code (progress (Some first) case) number (Turns runs) after (stands_again (rank_of first) 8 low order.0)
          (rw (runs_again runs case.turns each.0 few) refl),
      body_leads code body keywords.Turn (record case { turns = case.turns ++ added }) sites (number + 1) whole (omega arith) each.1 order.1 are
          (is ∙ (λ i. record case {
            watch = case.watch ++ sites;
            turns = sym (append_assoc case.turns added (flat_map turns_in body)) i;
            races = case.races ++ flat_map races_in body;
          })) room (omega arith) product,
    )
body_leads code (Race a b ∷ body) first case sites number whole low each order are is room high product =
    let small : a < 2 ^ 32 = each.0.0 in
    let other : b < 2 ^ 32 = each.0.1 in
    let few : length case.races < 1 =
    omega (arith, room.races, ap (λ (c : Case). length c.races) is, length-append case.races ((a, b) ∷ flat_map races_in body)) in
    let after = progress (Some keywords.Race) (record case { races = case.races ++ (a, b) ∷ [] }) in (
      after,
      stepped code (progress (Some first) case) number (Race a b) after (stands_again (rank_of first) 9 low order.0)
          (rw (lt-ltb _ _ small, lt-ltb _ _ other, lt-ltb _ _ few) refl),
      body_leads code body keywords.Race (record case { races = case.races ++ (a, b) ∷ [] }) sites (number + 1) whole (omega arith) each.1 order.1 are
          (is ∙ (λ i. record case {
            watch = case.watch ++ sites;
            turns = case.turns ++ flat_map turns_in body;
            races = sym (append_assoc case.races ((a, b) ∷ []) (flat_map races_in body)) i;
          })) room (omega arith) product,
    )
body_leads code (_ ∷ body) first case sites number whole low each order are is room high product = absurd each.0

end_form : (body : List Line) → AllByRecursion IsForm body → AllByRecursion IsForm (body ++ End ∷ [])
end_form [] forms = (tt, tt)
end_form (line ∷ body) forms = (forms.0, end_form body forms.1)

field_leads : (code : Module) (field : OneNumber) (value : ℕ) (case : Case) (number : ℕ) (rest : List Line) (whole : Case) →
    least_of field ≤ value → value ≤ most_of field →
    LeadTo code (progress (Some (after_field field)) (with_field field value case)) (number + 1) rest whole →
    LeadTo code (progress (Some (keywords.Field field)) case) number (Field field value ∷ rest) whole
field_leads code field value case number rest whole low high lead = (
  progress (Some (after_field field)) (with_field field value case),
  stepped code (progress (Some (keywords.Field field)) case) number (Field field value) _ (stands_same (rank_of (keywords.Field field)))
      (rw (le-leb _ _ low, le-leb _ _ high) refl),
  lead,
)

case_leads : (code : Module) (text : List ℕ) (case : Case) (body : List Line) → Spells code text case body →
    LeadTo code start 1 (case_lines case body) case
case_leads code text case body spells =
    let bounds = spells.bounds in
    let seeded : Case = with_field Seed case.seed no_case in
    let stepping : Case = with_field Steps case.steps seeded in
    let visiting : Case = with_field Visits case.visits stepping in
    let listing : Case = with_field Paths case.paths visiting in
    let whole : Case = with_field Schedules case.schedules listing in
    let behind : List Line = body ++ End ∷ [] in
    let four : List Line = Field Schedules case.schedules ∷ behind in
    let three : List Line = Field Paths case.paths ∷ four in
    let two : List Line = Field Visits case.visits ∷ three in (
      progress (Some (keywords.Field Seed)) no_case,
      stepped code start 1 Heading _ refl refl,
      field_leads code Seed case.seed no_case 2 (Field Steps case.steps ∷ two) case (omega arith) (omega (arith, bounds.seed))
          (field_leads code Steps case.steps seeded 3 two case bounds.steps.0 bounds.steps.1
          (field_leads code Visits case.visits stepping 4 three case bounds.visits.0 bounds.visits.1
          (field_leads code Paths case.paths visiting 5 four case (omega (arith, bounds.paths)) (omega (arith, bounds.paths))
          (field_leads code Schedules case.schedules listing 6 behind case (omega (arith, bounds.schedules)) (omega (arith, bounds.schedules))
          (body_leads code body keywords.Input whole case.watch 7 case (omega arith) spells.body_lines spells.in_order spells.sites_are
          (λ i. record case { input = same_input case.input no_input bounds.input i; turns = spells.turns_are i; races = spells.races_are i })
          bounds.room (omega arith) bounds.product))))),
    )

pub spelled : (code : Module) (text : List ℕ) (case : Case) (body : List Line) → Spells code text case body → case_of code text ≡ Ok case
unfolding case_of
spelled code text case body spells =
    let lines : List Line = case_lines case body in
    let again = lines_again code lines start 1 case (tt, (tt, (tt, (tt, (tt, (tt, end_form body spells.forms))))))
    (case_leads code text case body spells) in
    ap (λ t. lines_from code start 1 (parts_of 10 t)) (spells.text_is ∙ sym (append-nil (lines_text (map line_text lines))))
    ∙ ap (lines_from code start 1) (lines_parted (map line_text lines) [] again.1)
    ∙ again.0
