-- The text of a replayed run.
use Rattle.std.specs.Prelude.{ℕ, List, [], ◌∷◌, ◌++◌, codes}
use Rattle.ir_types.specs.declared.«module».Module.{Module}
use Rattle.run_types.specs.declared.run.Run.{Run}
use Rattle.report_text.specs.Items.{items_text}
use Rattle.text_lines.specs.Part.{lines_text}
use Rattle.report_text.specs.Outcome.{outcome_text}
use Rattle.report_text.specs.Turns.{turns_text}

abbrev pub replay_lines : Run → Module → List (List ℕ)
replay_lines run code =
    codes "portend-replay 1"
    ∷ (codes "turns " ++ turns_text run.turns)
    ∷ (codes "output " ++ items_text run.output)
    ∷ outcome_text code run.outcome
    ∷ codes "end"
    ∷ []

unfoldable pub replay_text : Run → Module → List ℕ
replay_text run code = lines_text (replay_lines run code)
