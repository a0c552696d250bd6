-- What reading the files answers, and what the counts of the shelf say of it.
use Rattle.std.specs.Prelude.{◌≡◌, ℕ, ◌+◌, ◌<◌, ◌≤◌, List, length, Some, None, Result, Ok, Err, Vec, is_err, true, vec_len}
use Rattle.std.specs.declared.alloc.Global.{Global}
use Rattle.rc_base.specs.Counts.{Rose}
use Rattle.race_top.specs.declared.file.File.{File}
use Rattle.race_top.specs.declared.file.File.TheVariants as kinds
use Rattle.race_top.specs.declared.files.Files.{Files}
use Rattle.race_top.specs.declared.stop.Stop.{Stop}
use Rattle.race_top.specs.declared.stop.Stop.TheVariants as stops
use Rattle.race_top.specs.declared.refusal.Refusal.TheVariants.{TooLong}
use Rattle.race_top.specs.Due.{too_long}
use Rattle.race_top.specs.File.{limit_of, most_given}
use Rattle.race_top.specs.Status.{HasPlace}

-- a file of these bytes is read whole, or is too long
abbrev pub GivesFile : Result (Vec ℕ Global) Stop → File → List ℕ → Type 0
GivesFile (Ok found) file bytes = (found.items ≡ bytes) × (length bytes ≤ limit_of file)
GivesFile (Err (stops.Refused refusal)) file bytes = limit_of file < length bytes
GivesFile (Err stops.ReadFailed) file bytes = Unit {0}
GivesFile (Err stops.NoMemory) file bytes = Unit {0}

-- files of these bytes are read whole, or the first that is too long is refused
abbrev pub GivesFiles : Result Files Stop → List ℕ → List ℕ → Type 0
GivesFiles (Ok found) code case =
    (found.module.items ≡ code) × (found.case.items ≡ case) × (too_long code case ≡ None)
GivesFiles (Err (stops.Refused refusal)) code case = too_long code case ≡ Some refusal
GivesFiles (Err stops.ReadFailed) code case = Unit {0}
GivesFiles (Err stops.NoMemory) code case = Unit {0}

-- the refusal of a stop is that this file is too long
abbrev pub StopsAt : {X : Type 0} → File → Result X Stop → Type 0
StopsAt file (Err (stops.Refused refusal)) = refusal ≡ TooLong file
StopsAt file result = Unit {0}

-- the refusal of a stop is that a file is too long
abbrev pub StopsByLength : {X : Type 0} → Result X Stop → Type 0
StopsByLength (Err (stops.Refused refusal)) = (file : File) × (refusal ≡ TooLong file)
StopsByLength result = Unit {0}

-- the cause of a stop, by the counts of faults and of given bytes
abbrev pub Causes : {A : Type 0} → Result A Stop → ℕ → ℕ → ℕ → ℕ → Type 0
Causes (Ok found) faults_before faults_now given_before given_now = Unit {0}
Causes (Err stops.ReadFailed) faults_before faults_now given_before given_now = Rose faults_before faults_now
Causes (Err (stops.Refused refusal)) faults_before faults_now given_before given_now =
    HasPlace refusal given_before given_now
Causes (Err stops.NoMemory) faults_before faults_now given_before given_now = Unit {0}

-- the counts never fall
pub record HasCauses {A : Type 0} (result : Result A Stop) (faults_before faults_now given_before given_now : ℕ) : Type 0 where
  pub faults : faults_before ≤ faults_now
  pub given : given_before ≤ given_now
  pub cause : Causes result faults_before faults_now given_before given_now

-- a module that is too long is refused, and nothing but it was read: no more was given than one byte past its limit
pub record EndsAtModule {A : Type 0} (result : Result A Stop) (given_before given_now : ℕ) : Type 0 where
  pub fails : is_err result ≡ true
  pub refused : StopsAt kinds.Module result
  pub given : given_now ≤ given_before + most_given kinds.Module

-- the files are within their limits
pub record AreWithin (found : Files) : Type 0 where
  pub code : vec_len found.module ≤ limit_of kinds.Module
  pub case : vec_len found.case ≤ limit_of kinds.Case
