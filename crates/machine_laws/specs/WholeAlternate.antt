-- An alternate is one run: the hold, then the first thread's turn and the turns of the first schedule, which are the
-- recorded ones again, with the repeat test after each.
use Rattle.std.specs.Prelude.{◌≡◌, ℕ, List, option_map, Option, Some, None}
use Rattle.run_types.specs.declared.race.Race.{Race}
use Rattle.machine_model.specs.Begun.{begun_after, released_course}
use Rattle.machine_model.specs.Hold.{Held}
use Rattle.machine_model.specs.Hold.Held.{Reordered, NotEnforced, RunOver}
use Rattle.machine_model.specs.Job.{Alternate, alternate_from}
use Rattle.machine_model.specs.Job.Alternate.{Ran, Not, Absent}
use Rattle.machine_model.specs.System.{System}
use Rattle.machine_model.specs.TestedRun.{tested_on}

-- after the hold the chooser releases the first thread, and one tested run goes on
abbrev pub alternate_after : {S : Type 0} → System S → List ℕ → Race → Option (Held S) → Alternate
alternate_after system listed race None = Absent
alternate_after system listed race (Some (Reordered past course)) =
    Ran (tested_on system listed past (released_course race.t1 course))
alternate_after system listed race (Some (NotEnforced reason course)) = Not reason course.turns
alternate_after system listed race (Some (RunOver run)) = Ran run

-- so nothing is lost where the run stops after the first thread's turn, and goes on from there
abbrev pub AlternateIsWhole : {S : Type 0} → System S → Type 0
AlternateIsWhole {S} system =
    (listed : List ℕ) (race : Race) (held : Option (Held S)) →
    alternate_from system listed 1 (option_map (begun_after system listed race) held)
    ≡ alternate_after system listed race held
