-- The recorded run of the module and the case that two texts spell.
use Rattle.std.specs.Prelude.{ℕ, List, Result, Ok}
use Rattle.case_text.specs.Read.{case_of}
use Rattle.module_text.specs.Loaded.{loaded_module}
use Rattle.rc_base.specs.Failures.{◌>>=◌}
use Rattle.race_top.specs.declared.recorded.Recorded.{Recorded}
use Rattle.race_top.specs.declared.refusal.Refusal.{Refusal}
use Rattle.race_top.specs.declared.refusal.Refusal.TheVariants as refusals
use Rattle.race_top.specs.Refusal.{or_refusal}
use Rattle.race_top.specs.TraceReplay.{replay_of}

-- the module and the case of two texts that are within their limits, with the recorded run
unfoldable pub RecordedOf : List ℕ → List ℕ → Result Recorded Refusal
RecordedOf code_text case_text = do
  code ← or_refusal refusals.Module (loaded_module code_text)
  case ← or_refusal refusals.Case (case_of code case_text)
  run ← or_refusal refusals.Replay (replay_of code case)
  Ok (record { code = code; case = case; run = run })
