-- Runs of turns as they are spelled: `T`, or `T*N`.
use Rattle.std.specs.Prelude.{ℕ, ◌<◌, List, [], ◌∷◌, ◌++◌, decimal, replicate, Option, Some, None, option_and_then, option_map}
use Rattle.text_lines.specs.declared.run_word.RunWord.{RunWord}
use Rattle.text_lines.specs.Number.{cut, number_of, one_number}
use Rattle.text_lines.specs.Part.{parts_of}

abbrev pub run_word : ℕ → Option ℕ → RunWord
run_word thread times = record { thread = thread; times = times }

-- by the parts at the star
abbrev pub run_of_parts : List (List ℕ) → Option RunWord
run_of_parts [] = None
run_of_parts (thread ∷ []) = option_map (λ thread. run_word thread None) (number_of thread)
run_of_parts (thread ∷ times ∷ more) =
    option_and_then (λ thread. option_map (λ times. run_word thread (Some times)) (one_number (times ∷ more))) (number_of thread)

unfoldable pub run_word_of : List ℕ → Option RunWord
run_word_of word = run_of_parts (parts_of 42 word)

-- the runs of these words, if each is one
abbrev pub run_words_of : List (List ℕ) → Option (List RunWord)
run_words_of [] = Some []
run_words_of (word ∷ words) = option_and_then (λ run. option_map (λ runs. run ∷ runs) (run_words_of words)) (run_word_of word)

-- the same of one word or more
abbrev pub some_run_words : List (List ℕ) → Option (List RunWord)
some_run_words [] = None
some_run_words (word ∷ words) = run_words_of (word ∷ words)

abbrev pub times_text : Option ℕ → List ℕ
times_text None = []
times_text (Some times) = 42 ∷ decimal times

abbrev pub run_text : RunWord → List ℕ
run_text run = decimal run.thread ++ times_text run.times

abbrev pub count_of : Option ℕ → ℕ
count_of None = 1
count_of (Some times) = times

-- the turns that a run stands for
abbrev pub run_turns : RunWord → List ℕ
run_turns run = replicate (count_of run.times) run.thread

-- its numbers are not cut
abbrev pub IsUncut : RunWord → Type 0
IsUncut run = (run.thread < cut) × (count_of run.times < cut)
