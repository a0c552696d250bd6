-- What the exit status says of what was read and written, also where no bytes are told.
use Rattle.std.specs.Prelude.{◌≡◌, ℕ, ◌+◌, ◌≤◌, ◌⊎◌, List, Option, Some, Result, Ok, Err, Vec}
use Rattle.std.specs.declared.alloc.Global.{Global}
use Rattle.rc_base.specs.Counts.{RoseBy}
use Rattle.rc_base.specs.Sink.{Appends}
use Rattle.rc_base.specs.Write.{AppendsFront}
use Rattle.race_top.specs.declared.file.File.TheVariants as files
use Rattle.race_top.specs.declared.refusal.Refusal.{Refusal}
use Rattle.race_top.specs.declared.refusal.Refusal.TheVariants.{TooLong}
use Rattle.race_top.specs.declared.stop.Stop.{Stop}
use Rattle.race_top.specs.declared.stop.Stop.TheVariants as stops
use Rattle.race_top.specs.Command.{Task}
use Rattle.race_top.specs.Due.{answer_in_files}
use Rattle.race_top.specs.File.{limit_of, most_given}
use Rattle.race_top.specs.Refusal.{refusal_line}

-- done, usage, a failed read, a refusal, a failed write, or want of memory
abbrev pub IsStatus : ℕ → Type 0
IsStatus status = (status ≡ 0) ⊎ (status ≡ 2) ⊎ (status ≡ 3) ⊎ (status ≡ 4) ⊎ (status ≡ 5) ⊎ (status ≡ 6)

-- a text was written whole: an answer's, or a refusal's line
abbrev pub IsWhole : ℕ → Type 0
IsWhole status = (status ≡ 0) ⊎ (status ≡ 4)

-- nothing was written
abbrev pub IsSilent : ℕ → Type 0
IsSilent status = (status ≡ 2) ⊎ (status ≡ 3) ⊎ (status ≡ 6)

-- a file is too long only where one byte past its limit was given, and nothing of the files behind it
abbrev pub HasPlace : Refusal → ℕ → ℕ → Type 0
HasPlace (TooLong file) before now = RoseBy before now (limit_of file + 1) × (now ≤ before + most_given file)
HasPlace refusal before now = Unit {0}

-- the answer is what some module and case are due of the task
pub record IsAnswer (asked : Option Task) (answer : Result (List ℕ) Refusal) : Type 0 where
  pub task : Task
  pub code : List ℕ
  pub case : List ℕ
  pub is_asked : asked ≡ Some task
  pub is_due : answer_in_files task code case ≡ answer

-- the text is the line of a refusal that the task can give
pub record IsRefusal (asked : Option Task) (text : List ℕ) (given_before given_now : ℕ) : Type 0 where
  pub refusal : Refusal
  pub answer : IsAnswer asked (Err refusal)
  pub place : HasPlace refusal given_before given_now
  pub line : text ≡ refusal_line refusal

-- the text or the refusal is one that the task can give
abbrev pub CanAnswer : Option Task → Result (Vec ℕ Global) Stop → Type 0
CanAnswer asked (Ok text) = IsAnswer asked (Ok text.items)
CanAnswer asked (Err (stops.Refused refusal)) = IsAnswer asked (Err refusal)
CanAnswer asked (Err stops.ReadFailed) = Unit {0}
CanAnswer asked (Err stops.NoMemory) = Unit {0}

-- a refusal's line was written whole
pub record WritesRefusal (asked : Option Task) (before now : Option (List ℕ)) (given_before given_now : ℕ) : Type 0 where
  pub text : List ℕ
  pub line : IsRefusal asked text given_before given_now
  pub written : Appends before now text

-- an answer was written whole
pub record WritesAnswer (asked : Option Task) (before now : Option (List ℕ)) : Type 0 where
  pub text : List ℕ
  pub answer : IsAnswer asked (Ok text)
  pub written : Appends before now text

-- what is written whole is the line of a module that is too long, and nothing but the module was read
pub record RefusesModule (status : ℕ) (before now : Option (List ℕ)) (given_before given_now : ℕ) : Type 0 where
  pub written : IsWhole status → (status ≡ 4) × Appends before now (refusal_line (TooLong files.Module))
  pub given : given_now ≤ given_before + most_given files.Module

-- a front of either was written
pub record WritesFront (asked : Option Task) (before now : Option (List ℕ)) (given_before given_now : ℕ) : Type 0 where
  pub text : List ℕ
  pub either : IsRefusal asked text given_before given_now ⊎ IsAnswer asked (Ok text)
  pub written : AppendsFront before now text
