-- What the code of writes answers.
use Rattle.std.specs.Prelude.{◌≡◌, List, Result, Ok, Err}
use Rattle.machine_model.specs.declared.state.Object.{Object}
use Rattle.run_types.specs.declared.trap.Trap.{Trap}

-- what a write answers: the objects that it leaves, or its trap, and then they are as before
abbrev pub Writes : {A : Type 0} → Result A Trap → List Object → List Object → Result (List Object) Trap → Type 0
Writes (Ok done) before after written = written ≡ Ok after
Writes (Err trap) before after written = (written ≡ Err trap) × (after ≡ before)
