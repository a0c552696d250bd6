-- What holds of both holds of the one that a test chooses.
use Rattle.std.proofs.Common.{Bool, true, false, if◌then◌else◌}

pub either : {A : Type 0} (P : A → Type 0) (test : Bool) (one other : A) → P one → P other → P (if test then one else other)
either P true one other is same = is
either P false one other is same = same
