-- Reading the files: a refusal of it is the first one, and one that each task can give; and what the counts show of both files.
use Rattle.std.proofs.Common.{ℕ, ◌+◌, ◌<◌, ◌≤◌, List, [], length, Some, Err, Vec, Global, refl, replicate, arith}
use Rattle.std.proofs.lemmas.Bool.{lt-ltb}
use Rattle.std.proofs.lemmas.List.{length-replicate}
use Rattle.rc_base.specs.Counts.{RoseBy}
use Rattle.race_top.specs.declared.file.File.{File}
use Rattle.race_top.specs.declared.file.File.TheVariants as files
use Rattle.race_top.specs.declared.files.Files.{Files}
use Rattle.race_top.specs.declared.refusal.Refusal.TheVariants as refusals
use Rattle.race_top.specs.declared.stop.Stop.{Stop}
use Rattle.race_top.specs.declared.stop.Stop.TheVariants as stops
use Rattle.race_top.specs.Answer.{GivesIfRead}
use Rattle.race_top.specs.Command.{Task}
use Rattle.race_top.specs.Due.{answer_in_files}
use Rattle.race_top.specs.File.{limit_of}
use Rattle.race_top.specs.Files.{GivesFiles, HasCauses, StopsAt, StopsByLength}
use Rattle.race_top.specs.Status.{CanAnswer, HasPlace, IsAnswer}

pub refused_first : (error : Stop) (task : Task) (code case : List ℕ) → GivesFiles (Err error) code case →
    GivesIfRead {X = Vec ℕ Global} (λ text. text.items) (Err error) (answer_in_files task code case)
refused_first (stops.Refused refusal) task code case given = rw given refl
refused_first stops.ReadFailed task code case given = tt
refused_first stops.NoMemory task code case given = tt

-- a text of more bytes than a limit
longer : (limit : ℕ) → (text : List ℕ) × (limit < length text)
longer limit = (replicate (limit + 1) 0, omega (arith, length-replicate {A = ℕ} (limit + 1) 0))

module_too_long : (task : Task) (code : List ℕ) → limit_of files.Module < length code →
    IsAnswer (Some task) (Err (refusals.TooLong files.Module))
module_too_long task code long = record {
  task = task;
  code = code;
  case = [];
  is_asked = refl;
  is_due = rw (lt-ltb _ _ long) refl;
}

case_too_long : (task : Task) (case : List ℕ) → limit_of files.Case < length case →
    IsAnswer (Some task) (Err (refusals.TooLong files.Case))
case_too_long task case long = record {
  task = task;
  code = [];
  case = case;
  is_asked = refl;
  is_due = rw (lt-ltb _ _ long) refl;
}

too_long : (task : Task) (file : File) → IsAnswer (Some task) (Err (refusals.TooLong file))
too_long task files.Module = let text = longer (limit_of files.Module) in module_too_long task text.0 text.1
too_long task files.Case = let text = longer (limit_of files.Case) in case_too_long task text.0 text.1

pub can_refuse : (error : Stop) (task : Task) → StopsByLength {X = Files} (Err error) → CanAnswer (Some task) (Err error)
can_refuse (stops.Refused refusal) task (file, is) = rw is (too_long task file)
can_refuse stops.ReadFailed task is = tt
can_refuse stops.NoMemory task is = tt

rose_before : (before mid now by : ℕ) → before ≤ mid → RoseBy mid now by → RoseBy before now by
rose_before before mid now by up rose = record { kept = omega (arith, rose.kept); rose = omega (arith, rose.rose) }

-- what the second reading shows of both
pub case_causes : {X Y : Type 0} (error : Stop) (faults_before faults_mid faults_now before mid now : ℕ) →
    faults_before ≤ faults_mid → before ≤ mid → mid ≤ before + limit_of files.Module + 1 → now ≤ mid + limit_of files.Case + 1 →
    StopsAt {X = X} files.Case (Err error) → HasCauses {A = X} (Err error) faults_mid faults_now mid now →
    HasCauses {A = Y} (Err error) faults_before faults_now before now
case_causes (stops.Refused refusal) faults_before faults_mid faults_now before mid now faults_up up first second is causes =
    let placed : HasPlace (refusals.TooLong files.Case) mid now = rw is at causes.cause in
    record {
      faults = omega (arith, causes.faults);
      given = omega (arith, causes.given);
      cause = rw is (rose_before before mid now _ up placed.0, omega arith);
    }
case_causes stops.ReadFailed faults_before faults_mid faults_now before mid now faults_up up first second is causes = record {
  faults = omega (arith, causes.faults);
  given = omega (arith, causes.given);
  cause = rose_before faults_before faults_mid faults_now 1 faults_up causes.cause;
}
case_causes stops.NoMemory faults_before faults_mid faults_now before mid now faults_up up first second is causes = record {
  faults = omega (arith, causes.faults);
  given = omega (arith, causes.given);
  cause = tt;
}
