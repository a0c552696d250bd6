-- A line by its shape alone, and how it is spelled.
use Rattle.std.specs.Prelude.{◌≡◌, ℕ, ◌<◌, true, ◌==◌, List, [], ◌∷◌, length, map, codes, decimal, Option, Some, None, if◌then◌else◌, option_and_then, option_map}
use Rattle.std.specs.List.{AllByRecursion, join_with_byte}
use Rattle.case_text.specs.declared.keyword.Keyword.{Keyword}
use Rattle.case_text.specs.declared.keyword.Keyword.TheVariants as keywords
use Rattle.case_text.specs.declared.line.Line.{Line}
use Rattle.case_text.specs.declared.line.Line.TheVariants.{Heading, Field, Input, Watch, Turns, Race, End}
use Rattle.case_text.specs.Keyword.{keyword_of, text_of}
use Rattle.case_text.specs.Words.{is_plain, watch_words}
use Rattle.text_lines.specs.Number.{cut, one_number, three_numbers, two_numbers}
use Rattle.text_lines.specs.Part.{parts_of}
use Rattle.text_lines.specs.RunWord.{IsUncut, run_text, some_run_words}

-- the words behind a keyword
abbrev pub heading_with : ℕ → Option Line
heading_with number = if number == 1 then Some Heading else None

abbrev pub input_line : ℕ × ℕ × ℕ → Line
input_line numbers = Input (record { slot = numbers.0; width = numbers.1; value = numbers.2 })

abbrev pub race_line : ℕ × ℕ → Line
race_line turns = Race turns.0 turns.1

abbrev pub end_line : List (List ℕ) → Option Line
end_line [] = Some End
end_line (word ∷ words) = None

abbrev pub line_with : Keyword → List (List ℕ) → Option Line
line_with keywords.Heading words = option_and_then heading_with (one_number words)
line_with (keywords.Field field) words = option_map (Field field) (one_number words)
line_with keywords.Input words = option_map input_line (three_numbers words)
line_with keywords.Watch words = option_map Watch (watch_words words)
line_with keywords.Turn words = option_map Turns (some_run_words words)
line_with keywords.Race words = option_map race_line (two_numbers words)
line_with keywords.End words = end_line words

abbrev pub line_of_words : List (List ℕ) → Option Line
line_of_words [] = None
line_of_words (word ∷ words) = option_and_then (λ keyword. line_with keyword words) (keyword_of word)

-- the line that a text spells, where it spells one
unfoldable pub line_of : List ℕ → Option Line
line_of text = line_of_words (parts_of 32 text)

abbrev pub keyword_in : Line → Keyword
keyword_in Heading = keywords.Heading
keyword_in (Field field number) = keywords.Field field
keyword_in (Input words) = keywords.Input
keyword_in (Watch words) = keywords.Watch
keyword_in (Turns runs) = keywords.Turn
keyword_in (Race first second) = keywords.Race
keyword_in End = keywords.End

-- the words behind the keyword
abbrev pub operands_of : Line → List (List ℕ)
operands_of Heading = codes "1" ∷ []
operands_of (Field field number) = decimal number ∷ []
operands_of (Input words) = decimal words.slot ∷ decimal words.width ∷ decimal words.value ∷ []
operands_of (Watch words) = words.name ∷ decimal words.inst ∷ []
operands_of (Turns runs) = map run_text runs
operands_of (Race first second) = decimal first ∷ decimal second ∷ []
operands_of End = []

-- the keyword and the words behind it, parted by one space each
abbrev pub line_text : Line → List ℕ
line_text line = join_with_byte 32 (text_of (keyword_in line) ∷ operands_of line)

-- the numbers of the line are not cut
abbrev pub AreUncut : Line → Type 0
AreUncut (Field field number) = number < cut
AreUncut (Input words) = (words.slot < cut) × (words.width < cut) × (words.value < cut)
AreUncut (Watch words) = words.inst < cut
AreUncut (Turns runs) = AllByRecursion IsUncut runs
AreUncut (Race first second) = (first < cut) × (second < cut)
AreUncut _ = Unit {0}

-- a name is plain, and there is a run
abbrev pub IsForm : Line → Type 0
IsForm (Watch words) = is_plain words.name ≡ true
IsForm (Turns runs) = 0 < length runs
IsForm _ = Unit {0}
