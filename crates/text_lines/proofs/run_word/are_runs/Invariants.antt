use Rattle.std.proofs.Common.{◌≡◌, length}
use Rattle.std.specs.Option.{is_some}
use Rattle.text_lines.specs.RunWord.{run_words_of}
use Rattle.text_lines.proofs.run_word.are_runs.Given as goal

abbrev pub invariant-words : goal.invariant-words
invariant-words l = is_some (run_words_of l.words) ≡ is_some (run_words_of l.initial.words)

abbrev pub decreases-words : goal.decreases-words
decreases-words l = length l.words
