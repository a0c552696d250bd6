-- What is wrong with a case text, and in which line.
use Rattle.std.specs.Prelude.{ℕ, List, codes}
use Rattle.case_text.specs.declared.error.CaseError.{CaseError}
use Rattle.case_text.specs.declared.error.CaseError.TheVariants.{Syntax, Range, Site, Slot}

abbrev pub name_of : CaseError → List ℕ
name_of (Syntax line) = codes "Syntax"
name_of (Range line) = codes "Range"
name_of (Site line) = codes "Site"
name_of (Slot line) = codes "Slot"

abbrev pub place_of : CaseError → ℕ
place_of (Syntax line) = line
place_of (Range line) = line
place_of (Site line) = line
place_of (Slot line) = line
