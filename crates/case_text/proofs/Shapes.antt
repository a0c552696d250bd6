-- A text has the shape of a line where it is the line's own spelling, and nowhere else.
use Rattle.std.proofs.Common.{◌≡◌, ℕ, ◌<◌, true, false, eqb, eqb-true, List, [], ◌∷◌, Option, Some, None, refl, ap, ◌∙◌, sym, subst, arith, slice_get}
use Rattle.std.specs.Prelude.{codes, decimal, option_and_then, option_map}
use Rattle.std.specs.Char.{is_ascii_digit}
use Rattle.std.specs.List.{AllByRecursion, find, list_all}
use Rattle.std.specs.Str.{bytes_eq}
use Rattle.std.proofs.lemmas.Bool.{and_parts, cond_both}
use Rattle.std.proofs.lemmas.Fmt.{decimal_digit}
use Rattle.std.proofs.lemmas.Option.{cond_some, option_and_then_some, same_Some}
use Rattle.std.proofs.lemmas.Slice.Eq.{bytes_eq-Decides}
use Rattle.case_text.specs.declared.keyword.Field.TheVariants.{Seed, Steps, Visits, Paths, Schedules}
use Rattle.case_text.specs.declared.keyword.Keyword.{Keyword}
use Rattle.case_text.specs.declared.keyword.Keyword.TheVariants as keywords
use Rattle.case_text.specs.declared.line.Line.{Line}
use Rattle.case_text.specs.declared.line.Line.TheVariants.{Heading, Field, Input, Watch, Turns, Race, End}
use Rattle.case_text.specs.Keyword.{keyword_of, keywords as every_keyword, rank_of, text_of}
use Rattle.case_text.specs.Line.{AreUncut, IsForm, heading_with, input_line, keyword_in, line_of, line_of_words, line_text, line_with, operands_of, race_line}
use Rattle.case_text.specs.Words.{Watched, is_name_byte, is_plain, watch_words, watched}
use Rattle.text_lines.specs.Number.{cut, one_number, three_numbers, two_numbers}
use Rattle.text_lines.specs.Part.{Lacks, parts_of}
use Rattle.text_lines.specs.RunWord.{some_run_words}
use Rattle.text_lines.proofs.Decimals.{decimal_lacks, number_again}
use Rattle.text_lines.proofs.Joined.{joined_again, lacks_joined, parts_joined, passing_lack}
use Rattle.text_lines.proofs.Spelled.{one_is, option_map_is, runs_again, runs_lack, some_are, three_are, two_are}

-- what holds of a line that is read from these words
abbrev Reads : Keyword → List (List ℕ) → Line → Type 0
Reads keyword words line = AreUncut line → (keyword ≡ keyword_in line) × (words ≡ operands_of line) × IsForm line

watch_is : (words : List (List ℕ)) (found : Watched) → found.inst < cut → watch_words words ≡ Some found →
    (words ≡ found.name ∷ decimal found.inst ∷ []) × (is_plain found.name ≡ true)
watch_is [] found small is = cc
watch_is (name ∷ words) found small is =
    cond_both (is_plain name) (option_map (watched name) (one_number words)) None
    (λ (o : Option Watched). o ≡ Some found → (name ∷ words ≡ found.name ∷ decimal found.inst ∷ []) × (is_plain found.name ≡ true))
    (λ plain read_is.
    let read = option_map_is (watched name) (one_number words) found read_is in (
      ap (λ ws. name ∷ ws) (one_is found.inst words small (read.1 ∙ ap (λ (w : Watched). Some w.inst) read.2))
          ∙ ap (λ (w : Watched). w.name ∷ decimal found.inst ∷ []) read.2,
      ap (λ (w : Watched). is_plain w.name) (sym read.2) ∙ plain,
    ))
    (λ _ none. cc) is

line_is : (keyword : Keyword) (words : List (List ℕ)) (line : Line) → line_with keyword words ≡ Some line → Reads keyword words line
line_is keywords.Heading words line is =
    option_and_then_some heading_with (one_number words) line is
    (λ number is_number is_line.
    let one = cond_some (eqb number 1) Heading line is_line in
    subst (Reads keywords.Heading words) one.1
    (λ _. (
      refl,
      one_is 1 words (omega arith) (is_number ∙ ap Some (eqb-true number 1 one.0)) ∙ ap (λ w. w ∷ []) (decimal_digit 1 (omega arith)),
      tt,
    )))
line_is (keywords.Field field) words line is =
    let read = option_map_is (Field field) (one_number words) line is in
    subst (Reads (keywords.Field field) words) read.2 (λ small. (refl, one_is read.0 words small read.1, tt))
line_is keywords.Input words line is =
    let read = option_map_is input_line (three_numbers words) line is in
    subst (Reads keywords.Input words) read.2
    (λ small. (refl, three_are read.0.0 read.0.1 read.0.2 words small.0 small.1 small.2 read.1, tt))
line_is keywords.Watch words line is =
    let read = option_map_is Watch (watch_words words) line is in
    subst (Reads keywords.Watch words) read.2 (λ small. let found = watch_is words read.0 small read.1 in (refl, found.0, found.1))
line_is keywords.Turn words line is =
    let read = option_map_is Turns (some_run_words words) line is in
    subst (Reads keywords.Turn words) read.2 (λ small. let are = some_are words read.0 small read.1 in (refl, are.0, are.1))
line_is keywords.Race words line is =
    let read = option_map_is race_line (two_numbers words) line is in
    subst (Reads keywords.Race words) read.2 (λ small. (refl, two_are read.0.0 read.0.1 words small.0 small.1 read.1, tt))
line_is keywords.End [] line is = subst (Reads keywords.End []) (same_Some _ _ is) (λ _. (refl, refl, tt))
line_is keywords.End (word ∷ words) line is = cc

found_is : (among : List Keyword) (word : List ℕ) (keyword : Keyword) →
    find (λ k. bytes_eq (text_of k) word) among ≡ Some keyword → word ≡ text_of keyword
found_is [] word keyword is = cc
found_is (first ∷ others) word keyword is =
    cond_both (bytes_eq (text_of first) word) (Some first) (find (λ k. bytes_eq (text_of k) word) others)
    (λ (o : Option Keyword). o ≡ Some keyword → word ≡ text_of keyword)
    (λ same found. sym ((bytes_eq-Decides (text_of first) word).0 same) ∙ ap text_of (same_Some _ _ found))
    (λ _ found. found_is others word keyword found) is

words_are : (words : List (List ℕ)) (line : Line) → AreUncut line → line_of_words words ≡ Some line →
    (words ≡ text_of (keyword_in line) ∷ operands_of line) × IsForm line
words_are [] line small is = cc
words_are (word ∷ words) line small is =
    option_and_then_some (λ keyword. line_with keyword words) (keyword_of word) line is
    (λ keyword is_keyword is_line.
    let read = line_is keyword words line is_line small in (
      ap (λ w. w ∷ words) (found_is every_keyword word keyword is_keyword)
          ∙ ap (λ ws. text_of keyword ∷ ws) read.1
          ∙ ap (λ k. text_of k ∷ operands_of line) read.0,
      read.2,
    ))

pub line_read : (text : List ℕ) (line : Line) → AreUncut line → line_of text ≡ Some line → (text ≡ line_text line) × IsForm line
unfolding line_of
line_read text line small is =
    let read = words_are (parts_of 32 text) line small is in (joined_again 32 text _ read.0, read.1)

-- a byte that is in no word
abbrev Parts : ℕ → Type 0
Parts byte = (is_name_byte byte ≡ false) × (is_ascii_digit byte ≡ false) × (eqb 42 byte ≡ false)

-- a keyword is found by its text, which has bytes of names alone, and by its rank
pub known : (keyword : Keyword) →
    (keyword_of (text_of keyword) ≡ Some keyword) × (list_all is_name_byte (text_of keyword) ≡ true)
    × (slice_get every_keyword (rank_of keyword) ≡ Some keyword)
known keywords.Heading = (refl, refl, refl)
known (keywords.Field Seed) = (refl, refl, refl)
known (keywords.Field Steps) = (refl, refl, refl)
known (keywords.Field Visits) = (refl, refl, refl)
known (keywords.Field Paths) = (refl, refl, refl)
known (keywords.Field Schedules) = (refl, refl, refl)
known keywords.Input = (refl, refl, refl)
known keywords.Watch = (refl, refl, refl)
known keywords.Turn = (refl, refl, refl)
known keywords.Race = (refl, refl, refl)
known keywords.End = (refl, refl, refl)

operands_lack : (byte : ℕ) → Parts byte → (line : Line) → AreUncut line → IsForm line → AllByRecursion (Lacks byte) (operands_of line)
operands_lack byte parts Heading small form = (passing_lack is_ascii_digit byte (codes "1") parts.1 refl, tt)
operands_lack byte parts (Field field number) small form = (decimal_lacks byte number parts.1 small, tt)
operands_lack byte parts (Input words) small form = (
  decimal_lacks byte words.slot parts.1 small.0,
  (decimal_lacks byte words.width parts.1 small.1, (decimal_lacks byte words.value parts.1 small.2, tt)),
)
operands_lack byte parts (Watch words) small form =
    (passing_lack is_name_byte byte words.name parts.0 (and_parts _ _ form).1, (decimal_lacks byte words.inst parts.1 small, tt))
operands_lack byte parts (Turns runs) small form = runs_lack byte runs parts.1 parts.2 small
operands_lack byte parts (Race first second) small form =
    (decimal_lacks byte first parts.1 small.0, (decimal_lacks byte second parts.1 small.1, tt))
operands_lack byte parts End small form = tt

words_lack : (byte : ℕ) → Parts byte → (line : Line) → AreUncut line → IsForm line →
    AllByRecursion (Lacks byte) (text_of (keyword_in line) ∷ operands_of line)
words_lack byte parts line small form =
    (passing_lack is_name_byte byte (text_of (keyword_in line)) parts.0 (known (keyword_in line)).1, operands_lack byte parts line small form)

operands_again : (line : Line) → AreUncut line → IsForm line → line_with (keyword_in line) (operands_of line) ≡ Some line
operands_again Heading small form =
    ap (λ word. option_and_then heading_with (one_number (word ∷ []))) (sym (decimal_digit 1 (omega arith)))
    ∙ ap (option_and_then heading_with) (number_again 1 (omega arith))
operands_again (Field field number) small form = ap (option_map (Field field)) (number_again number small)
operands_again (Input words) small form =
    rw (number_again words.slot small.0, number_again words.width small.1, number_again words.value small.2) refl
operands_again (Watch words) small form = rw (form, number_again words.inst small) refl
operands_again (Turns []) small form = absurd (omega arith)
operands_again (Turns (run ∷ runs)) small form = ap (option_map Turns) (runs_again (run ∷ runs) small)
operands_again (Race first second) small form = rw (number_again first small.0, number_again second small.1) refl
operands_again End small form = refl

pub line_again : (line : Line) → AreUncut line → IsForm line → line_of (line_text line) ≡ Some line
unfolding line_of
line_again line small form =
    let lack = words_lack 32 (refl, refl, refl) line small form in
    ap line_of_words (parts_joined 32 (text_of (keyword_in line)) (operands_of line) lack.0 lack.1)
    ∙ ap (option_and_then (λ keyword. line_with keyword (operands_of line))) (known (keyword_in line)).0
    ∙ operands_again line small form

pub line_lacks_feed : (line : Line) → AreUncut line → IsForm line → Lacks 10 (line_text line)
line_lacks_feed line small form =
    lacks_joined 10 (text_of (keyword_in line) ∷ operands_of line) refl (words_lack 10 (refl, refl, refl) line small form)

pub line_spelled : (text : List ℕ) (line : Line) → AreUncut line →
    (line_of text ≡ Some line → (text ≡ line_text line) × IsForm line) × ((text ≡ line_text line) × IsForm line → line_of text ≡ Some line)
line_spelled text line small =
    (line_read text line small, λ spelled. rw spelled.0 (line_again line small spelled.1))
