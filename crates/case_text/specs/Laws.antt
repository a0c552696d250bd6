-- How a case is spelled: its text, line by line.
use Rattle.std.specs.Prelude.{◌≡◌, ℕ, ◌*◌, ◌^◌, ◌<◌, ◌≤◌, List, [], ◌∷◌, ◌++◌, length, map, Some}
use Rattle.std.specs.List.{AllByRecursion, IsDistinct, flat_map}
use Rattle.ir_types.specs.declared.«module».Module.{Module}
use Rattle.run_types.specs.declared.case.Case.{Case}
use Rattle.run_types.specs.Site.{is_site}
use Rattle.case_text.specs.declared.keyword.Field.TheVariants.{Seed, Steps, Visits, Paths, Schedules}
use Rattle.case_text.specs.declared.keyword.Keyword.{Keyword}
use Rattle.case_text.specs.declared.keyword.Keyword.TheVariants as keywords
use Rattle.case_text.specs.declared.line.Line.{Line}
use Rattle.case_text.specs.declared.line.Line.TheVariants.{Heading, Field, Watch, Turns, Race, End}
use Rattle.case_text.specs.Keyword.{rank_of}
use Rattle.case_text.specs.Line.{IsForm, keyword_in, line_text}
use Rattle.case_text.specs.Watch.{site_of}
use Rattle.case_text.specs.Words.{Watched}
use Rattle.text_lines.specs.Part.{lines_text}
use Rattle.text_lines.specs.RunWord.{count_of, run_turns}
use Rattle.text_lines.specs.declared.run_word.RunWord.{RunWord}

-- what a line adds to each list of the case
abbrev pub watched_in : Line → List Watched
watched_in (Watch words) = words ∷ []
watched_in _ = []

abbrev pub turns_in : Line → List ℕ
turns_in (Turns runs) = flat_map run_turns runs
turns_in _ = []

abbrev pub races_in : Line → List (ℕ × ℕ)
races_in (Race first second) = (first, second) ∷ []
races_in _ = []

-- one of 16 threads, and one turn or more
abbrev pub IsRun : RunWord → Type 0
IsRun run = (run.thread < 16) × (0 < count_of run.times)

-- a watched site, runs of turns, or a race, with its numbers in their bounds
abbrev pub IsBodyLine : Line → Type 0
IsBodyLine (Watch words) = words.inst < 2 ^ 32
IsBodyLine (Turns runs) = AllByRecursion IsRun runs
IsBodyLine (Race first second) = (first < 2 ^ 32) × (second < 2 ^ 32)
IsBodyLine _ = ⊥

-- no line's keyword comes before that of the line before it
abbrev pub AreInOrder : Keyword → List Line → Type 0
AreInOrder first [] = Unit {0}
AreInOrder first (line ∷ lines) = (rank_of first ≤ rank_of (keyword_in line)) × AreInOrder (keyword_in line) lines

-- the lines of a case whose watched sites, turns and races stand in the lines of this body
abbrev pub case_lines : Case → List Line → List Line
case_lines case body =
    Heading
    ∷ Field Seed case.seed
    ∷ Field Steps case.steps
    ∷ Field Visits case.visits
    ∷ Field Paths case.paths
    ∷ Field Schedules case.schedules
    ∷ (body ++ End ∷ [])

-- the lists of a case are not too long, and no site is named twice; what is not served yet is left out
pub record HasRoom (case : Case) : Type 0 where
  pub watch : length case.watch ≤ 256
  pub distinct : IsDistinct is_site case.watch
  pub turns : length case.turns ≤ 20000
  pub races : length case.races ≤ 1

pub record IsWithinBounds (case : Case) : Type 0 where
  pub seed : case.seed < 2 ^ 64
  pub steps : (1 ≤ case.steps) × (case.steps ≤ 200000)
  pub visits : (1 ≤ case.visits) × (case.visits ≤ 1024)
  pub product : case.visits * case.steps ≤ 2 ^ 24
  pub paths : case.paths ≡ 1
  pub schedules : case.schedules ≡ 1
  pub input : case.input.slots ≡ []
  pub room : HasRoom case

-- a text is the lines of a case for a module, of which these are the lines of watched sites, turns and races
pub record Spells (code : Module) (text : List ℕ) (case : Case) (body : List Line) : Type 0 where
  pub text_is : text ≡ lines_text (map line_text (case_lines case body))
  pub body_lines : AllByRecursion IsBodyLine body
  pub forms : AllByRecursion IsForm body
  pub in_order : AreInOrder keywords.Input body
  pub sites_are : map Some case.watch ≡ map (site_of code) (flat_map watched_in body)
  pub turns_are : case.turns ≡ flat_map turns_in body
  pub races_are : case.races ≡ flat_map races_in body
  pub bounds : IsWithinBounds case
