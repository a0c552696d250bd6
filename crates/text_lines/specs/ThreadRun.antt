-- Turns as the longest runs of equal threads.
use Rattle.std.specs.Prelude.{◌≢◌, ℕ, ◌+◌, ◌<◌, ◌==◌, if◌then◌else◌, List, [], ◌∷◌, Some, None, map, replicate}
use Rattle.std.specs.List.{concat}
use Rattle.text_lines.specs.declared.run_word.RunWord.{RunWord}
use Rattle.text_lines.specs.declared.thread_run.ThreadRun.{ThreadRun}
use Rattle.text_lines.specs.RunWord.{run_word}

abbrev pub run_of : ℕ → ℕ → ThreadRun
run_of thread count = record { thread = thread; count = count }

-- one more turn before some runs: it lengthens the first of them where that is of the same thread
abbrev pub onto_runs : ℕ → List ThreadRun → List ThreadRun
onto_runs thread [] = run_of thread 1 ∷ []
onto_runs thread (run ∷ runs) =
    if run.thread == thread then run_of thread (run.count + 1) ∷ runs else run_of thread 1 ∷ run ∷ runs

-- the longest runs of some turns
unfoldable pub thread_runs : List ℕ → List ThreadRun
thread_runs [] = []
thread_runs (thread ∷ turns) = onto_runs thread (thread_runs turns)

-- its shortest spelling: `T` for a run of one, else `T*N`
abbrev pub shortest : ThreadRun → RunWord
shortest run = run_word run.thread (if run.count == 1 then None else Some run.count)

abbrev pub turns_of : ThreadRun → List ℕ
turns_of run = replicate run.count run.thread

-- the turns that some runs stand for
abbrev pub expanded : List ThreadRun → List ℕ
expanded runs = concat (map turns_of runs)

-- the first of the runs is of another thread
abbrev pub BeginsWithOther : ℕ → List ThreadRun → Type 0
BeginsWithOther thread [] = Unit {0}
BeginsWithOther thread (run ∷ runs) = run.thread ≢ thread

-- no run is empty, and neighbours are of different threads
abbrev pub AreLongest : List ThreadRun → Type 0
AreLongest [] = Unit {0}
AreLongest (run ∷ runs) = (0 < run.count) × BeginsWithOther run.thread runs × AreLongest runs
