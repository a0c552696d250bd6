-- TURNS: the turns of a run, as runs of equal threads.
use Rattle.std.specs.Prelude.{ℕ, List, map}
use Rattle.report_text.specs.Lines.{words_text}
use Rattle.text_lines.specs.RunWord.{run_text}
use Rattle.text_lines.specs.ThreadRun.{shortest, thread_runs}
use Rattle.text_lines.specs.declared.thread_run.ThreadRun.{ThreadRun}

abbrev pub thread_text : ThreadRun → List ℕ
thread_text run = run_text (shortest run)

abbrev pub turns_text : List ℕ → List ℕ
turns_text turns = words_text (map thread_text (thread_runs turns))
