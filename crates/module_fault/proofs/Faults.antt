-- The first of several faults.
use Rattle.std.proofs.Common.{◌≡◌, ◌∙◌, ℕ, zero, suc, inl, inr, ◌+◌, ◌*◌, ◌<◌, ◌≤◌, List, [], ◌∷◌, ◌++◌, Bool, true, false, Option, Some, None, nat_lt, nat_le, if◌then◌else◌, refl, sym, ap, arith}
use Rattle.std.specs.List.{AllByRecursion}
use Rattle.std.proofs.lemmas.Bool.Decides.{nat_tests}
use Rattle.module_fault.specs.declared.cause.Cause.{Cause}
use Rattle.module_fault.specs.declared.cause.Cause.TheVariants as causes
use Rattle.module_fault.specs.Cause.{lesser, rank}
use Rattle.module_fault.specs.declared.fault.Fault.{Fault}
use Rattle.module_fault.specs.Fault.{earlier, fault_at, first_from, first_of}
use Rattle.module_fault.specs.Laws.{IsAmong, IsFirst, IsNotBehind}

-- ---- places: a number that rises with the line, and in it with the cause

abbrev place : Fault → ℕ
place fault = 5 * fault.line + rank fault.cause

rank_small : (cause : Cause) → rank cause < 5
rank_small causes.UnknownName = omega arith
rank_small causes.Duplicate = omega arith
rank_small causes.TypeMismatch = omega arith
rank_small causes.Unsupported = omega arith
rank_small causes.BadShape = omega arith

abbrev cause_with : ℕ → Cause
cause_with zero = causes.UnknownName
cause_with (suc zero) = causes.Duplicate
cause_with (suc (suc zero)) = causes.TypeMismatch
cause_with (suc (suc (suc zero))) = causes.Unsupported
cause_with (suc (suc (suc (suc rank)))) = causes.BadShape

cause_of_rank : (cause : Cause) → cause_with (rank cause) ≡ cause
cause_of_rank causes.UnknownName = refl
cause_of_rank causes.Duplicate = refl
cause_of_rank causes.TypeMismatch = refl
cause_of_rank causes.Unsupported = refl
cause_of_rank causes.BadShape = refl

same_cause : (one other : Cause) → rank one ≡ rank other → one ≡ other
same_cause one other is = sym (cause_of_rank one) ∙ ap cause_with is ∙ cause_of_rank other

same_fault : (one other : Fault) → one.line ≡ other.line → one.cause ≡ other.cause → one ≡ other
same_fault one other line cause = λ i. record { line = line i; cause = cause i }

not_behind : (one other : Fault) → place one ≤ place other → IsNotBehind one other
not_behind one other most = by_line (nat_lt one.line other.line) refl where
  by_line : (before : Bool) → nat_lt one.line other.line ≡ before → IsNotBehind one other
  by_line true is = inl (grind (arith, nat_tests))
  by_line false is =
      let one_small = rank_small one.cause in
      let other_small = rank_small other.cause in
      let not_before : other.line ≤ one.line = grind (arith, nat_tests) in
      inr (omega (arith, most, one_small, other_small, not_before), omega (arith, most, one_small, other_small, not_before))

pub alone : (one other : Fault) → IsNotBehind one other → IsNotBehind other one → one ≡ other
alone one other (inl before) (inl after) = absurd (omega arith)
alone one other (inl before) (inr (line, most)) = absurd (omega arith)
alone one other (inr (line, most)) (inl after) = absurd (omega arith)
alone one other (inr (line, most)) (inr (line_back, least)) =
    same_fault one other line (same_cause one.cause other.cause (omega (arith, most, least)))

-- ---- the earlier of two

abbrev pick : Bool → Fault → Fault → Fault
pick before one other = if before then one else other

in_line : (line : ℕ) (one other : Fault) (first : Bool) → line ≡ one.line → line ≡ other.line →
    fault_at line (if first then Some one.cause else Some other.cause) ≡ Some (pick first one other)
in_line line one other true is_one is_other = ap Some (same_fault _ one is_one refl)
in_line line one other false is_one is_other = ap Some (same_fault _ other is_other refl)

by_lines : (before behind : Bool) (one other : Fault) → nat_lt one.line other.line ≡ before → nat_lt other.line one.line ≡ behind →
    (if before then Some one else if behind then Some other else fault_at one.line (lesser (Some one.cause) (Some other.cause)))
    ≡ Some (pick (nat_le (place one) (place other)) one other)
by_lines true behind one other is_before is_behind =
    let one_small = rank_small one.cause in
    let less : one.line < other.line = grind (arith, nat_tests) in
    let most : place one ≤ place other = omega (arith, less, one_small) in
    let test : nat_le (place one) (place other) ≡ true = grind (arith, nat_tests) in
    rw test refl
by_lines false true one other is_before is_behind =
    let other_small = rank_small other.cause in
    let less : other.line < one.line = grind (arith, nat_tests) in
    let past : place other < place one = omega (arith, less, other_small) in
    let test : nat_le (place one) (place other) ≡ false = grind (arith, nat_tests) in
    rw test refl
by_lines false false one other is_before is_behind =
    let same : one.line ≡ other.line = grind (arith, nat_tests) in
    let test : nat_le (place one) (place other) ≡ nat_le (rank one.cause) (rank other.cause) = grind (arith, nat_tests) in
    rw test (in_line one.line one other (nat_le (rank one.cause) (rank other.cause)) refl same)

earlier_is : (one other : Fault) → earlier (Some one) (Some other) ≡ Some (pick (nat_le (place one) (place other)) one other)
earlier_is one other = by_lines (nat_lt one.line other.line) (nat_lt other.line one.line) one other refl refl

earlier_none : (found : Option Fault) → earlier found None ≡ found
earlier_none None = refl
earlier_none (Some fault) = refl

picks : (ab bc : Bool) (a b c : Fault) → nat_le (place a) (place b) ≡ ab → nat_le (place b) (place c) ≡ bc →
    pick (nat_le (place (pick ab a b)) (place c)) (pick ab a b) c ≡ pick (nat_le (place a) (place (pick bc b c))) a (pick bc b c)
picks true true a b c is_ab is_bc =
    let ac : nat_le (place a) (place c) ≡ true = grind (arith, nat_tests) in rw (is_ab, ac) refl
picks true false a b c is_ab is_bc = refl
picks false true a b c is_ab is_bc = rw (is_ab, is_bc) refl
picks false false a b c is_ab is_bc =
    let ac : nat_le (place a) (place c) ≡ false = grind (arith, nat_tests) in rw (is_bc, ac) refl

earlier_joins : (a b c : Option Fault) → earlier (earlier a b) c ≡ earlier a (earlier b c)
earlier_joins None b c = refl
earlier_joins (Some a) None c = refl
earlier_joins (Some a) (Some b) None = earlier_none (earlier (Some a) (Some b))
earlier_joins (Some a) (Some b) (Some c) =
    ap (λ found. earlier found (Some c)) (earlier_is a b)
    ∙ earlier_is (pick (nat_le (place a) (place b)) a b) c
    ∙ ap Some (picks (nat_le (place a) (place b)) (nat_le (place b) (place c)) a b c refl refl)
    ∙ sym (earlier_is a (pick (nat_le (place b) (place c)) b c))
    ∙ ap (earlier (Some a)) (sym (earlier_is b c))

-- ---- the first of several

from_is : (found : Option Fault) (faults : List Fault) → first_from found faults ≡ earlier found (first_of faults)
from_is found [] = sym (earlier_none found)
from_is found (fault ∷ faults) =
    from_is (earlier found (Some fault)) faults
    ∙ earlier_joins found (Some fault) (first_of faults)
    ∙ ap (earlier found) (sym (from_is (Some fault) faults))

pub joined : (front back : List Fault) → first_of (front ++ back) ≡ earlier (first_of front) (first_of back)
joined [] back = refl
joined (fault ∷ front) back =
    from_is (Some fault) (front ++ back)
    ∙ ap (earlier (Some fault)) (joined front back)
    ∙ sym (earlier_joins (Some fault) (first_of front) (first_of back))
    ∙ ap (λ found. earlier found (first_of back)) (sym (from_is (Some fault) front))

all_behind : (fault first : Fault) (faults : List Fault) → place fault ≤ place first →
    AllByRecursion (λ other. place first ≤ place other) faults → AllByRecursion (λ other. place fault ≤ place other) faults
all_behind fault first [] most all = tt
all_behind fault first (other ∷ faults) most (here, all) = (omega (arith, most, here), all_behind fault first faults most all)

all_not_behind : (fault : Fault) (faults : List Fault) →
    AllByRecursion (λ other. place fault ≤ place other) faults → AllByRecursion (λ other. IsNotBehind fault other) faults
all_not_behind fault [] all = tt
all_not_behind fault (other ∷ faults) (here, all) = (not_behind fault other here, all_not_behind fault faults all)

-- the same by places
record IsLeast (fault : Fault) (faults : List Fault) : Type 0 where
  among : IsAmong fault faults
  least : AllByRecursion (λ other. place fault ≤ place other) faults

abbrev Leads : Option Fault → List Fault → Type 0
Leads None faults = faults ≡ []
Leads (Some fault) faults = IsLeast fault faults

leads_pick : (before : Bool) (fault first : Fault) (faults : List Fault) → nat_le (place fault) (place first) ≡ before →
    IsLeast first faults → IsLeast (pick before fault first) (fault ∷ faults)
leads_pick true fault first faults is least =
    let most : place fault ≤ place first = grind (arith, nat_tests) in
    record { among = inl refl; least = (omega arith, all_behind fault first faults most least.least) }
leads_pick false fault first faults is least =
    let past : place first ≤ place fault = grind (arith, nat_tests) in
    record { among = inr least.among; least = (past, least.least) }

leads_more : (fault : Fault) (first : Option Fault) (faults : List Fault) → Leads first faults → Leads (earlier (Some fault) first) (fault ∷ faults)
leads_more fault None faults none = rw none (record { among = inl refl; least = (omega arith, tt) })
leads_more fault (Some first) faults least =
    rw (earlier_is fault first) (leads_pick (nat_le (place fault) (place first)) fault first faults refl least)

leads : (faults : List Fault) → Leads (first_of faults) faults
leads [] = refl
leads (fault ∷ faults) = rw (from_is (Some fault) faults) (leads_more fault (first_of faults) faults (leads faults))

pub first : (faults : List Fault) (fault : Fault) → first_of faults ≡ Some fault → IsFirst fault faults
first faults fault is =
    let least : Leads (Some fault) faults = rw is at (leads faults) in
    record { among = least.among; first = all_not_behind fault faults least.least }

pub none : (faults : List Fault) → first_of faults ≡ None → faults ≡ []
none faults is = rw is at (leads faults)
