-- The words that lines begin with, in the order of the lines.
use Rattle.std.specs.Prelude.{ℕ, ◌-◌, ◌^◌, Bool, ◌==◌, ◌&&◌, ◌||◌, false, nat_le, List, [], ◌∷◌, codes, Option, Some, None}
use Rattle.std.specs.List.{find}
use Rattle.std.specs.Str.{bytes_eq}
use Rattle.case_text.specs.declared.keyword.Field.{Field as OneNumber}
use Rattle.case_text.specs.declared.keyword.Field.TheVariants.{Seed, Steps, Visits, Paths, Schedules}
use Rattle.case_text.specs.declared.keyword.Keyword.{Keyword}
use Rattle.case_text.specs.declared.keyword.Keyword.TheVariants.{Heading, Field, Input, Watch, Turn, Race, End}

abbrev pub text_of : Keyword → List ℕ
text_of Heading = codes "portend-case"
text_of (Field Seed) = codes "seed"
text_of (Field Steps) = codes "steps"
text_of (Field Visits) = codes "visits"
text_of (Field Paths) = codes "paths"
text_of (Field Schedules) = codes "schedules"
text_of Input = codes "input"
text_of Watch = codes "watch"
text_of Turn = codes "turn"
text_of Race = codes "race"
text_of End = codes "end"

-- each keyword, in the order of the lines
abbrev pub keywords : List Keyword
keywords =
    Heading ∷ Field Seed ∷ Field Steps ∷ Field Visits ∷ Field Paths ∷ Field Schedules
    ∷ Input ∷ Watch ∷ Turn ∷ Race ∷ End ∷ []

abbrev pub keyword_of : List ℕ → Option Keyword
keyword_of word = find (λ keyword. bytes_eq (text_of keyword) word) keywords

-- how many keywords stand before it in the order of the lines
abbrev pub rank_of : Keyword → ℕ
rank_of Heading = 0
rank_of (Field Seed) = 1
rank_of (Field Steps) = 2
rank_of (Field Visits) = 3
rank_of (Field Paths) = 4
rank_of (Field Schedules) = 5
rank_of Input = 6
rank_of Watch = 7
rank_of Turn = 8
rank_of Race = 9
rank_of End = 10

-- A line of a keyword may stand where the first that may stand there is `next`, none behind the end. From the
-- inputs on lines may be left out.
abbrev pub may_stand : Option Keyword → Keyword → Bool
may_stand None keyword = false
may_stand (Some next) keyword =
    rank_of next == rank_of keyword || nat_le 6 (rank_of next) && nat_le (rank_of next) (rank_of keyword)

abbrev pub after_field : OneNumber → Keyword
after_field Seed = Field Steps
after_field Steps = Field Visits
after_field Visits = Field Paths
after_field Paths = Field Schedules
after_field Schedules = Input

abbrev pub least_of : OneNumber → ℕ
least_of Seed = 0
least_of Steps = 1
least_of Visits = 1
least_of Paths = 1
least_of Schedules = 1

-- Not served yet: more than one path, and more than one schedule.
abbrev pub most_of : OneNumber → ℕ
most_of Seed = 2 ^ 64 - 1
most_of Steps = 200000
most_of Visits = 1024
most_of Paths = 1
most_of Schedules = 1
