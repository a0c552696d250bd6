-- The place of a number among numbers that rise.
use Rattle.std.proofs.Common.{◌≡◌, ◌≢◌, ℕ, ◌<◌, ◌≤◌, List, [], ◌∷◌, ◌++◌, length, get_or, arith, nat_eq, Some, None, Result, Ok, Err, position, nat_lt, true, ◌∙◌, MatchResult, sym, ⊎_elim}
use Rattle.std.proofs.lemmas.Bool.{cases_lt}
use Rattle.std.proofs.lemmas.Bool.Decides.{nat_tests}
use Rattle.std.proofs.lemmas.Grind.{common_steps, get_or_default_zero}
use Rattle.std.proofs.lemmas.List.Sorted.{searched}
use Rattle.std.proofs.lemmas.List.Sums.{position_or_len_is}
use Rattle.std.specs.List.{position_or_len}
use Rattle.std.specs.List.Sorted.{IsBinarySearchResult}
use Rattle.std.specs.Ordering.{nat_cmp}
use Rattle.std.specs.Result.{result_ok}
use Rattle.ir_names.specs.Rising.{Rises}

place_at : (numbers : List ℕ) (number place : ℕ) → Rises numbers → place < length numbers → get_or numbers place 0 ≡ number →
    position (nat_eq number) numbers ≡ Some place
place_at numbers number place rises within is =
    let first : position_or_len (nat_eq number) numbers ≡ place =
    position_or_len_is (nat_eq number) numbers place 0 (omega arith)
    (λ before less. let above = rises before place less within in grind (arith, nat_tests)) (λ _. grind (arith, nat_tests)) in
    grind (arith, common_steps, nat_tests)

-- a number that stands at a place stands at no other
pub found_at : (numbers : List ℕ) (number place other : ℕ) → Rises numbers → true ≡ nat_lt place (length numbers) →
    other ≡ get_or numbers place other → nat_eq other number ≡ true → position (nat_eq number) numbers ≡ Some place
found_at numbers number place other rises is_within at same =
    let within : place < length numbers = grind (arith, nat_tests) in
    let is : other ≡ number = grind (arith, nat_tests) in
    place_at numbers number place rises within (sym (get_or_default_zero numbers place other within) ∙ sym at ∙ is)

no_place : (numbers : List ℕ) (number : ℕ) → ((place : ℕ) → place < length numbers → get_or numbers place 0 ≢ number) →
    position (nat_eq number) numbers ≡ None
no_place numbers number none =
    let first : position_or_len (nat_eq number) numbers ≡ length numbers =
    position_or_len_is (nat_eq number) numbers (length numbers) 0 (omega arith)
    (λ before less. let other = none before less in grind (arith, nat_tests)) (λ past. absurd (omega arith)) in
    grind (arith, common_steps, nat_tests)

pub rises_push : (numbers : List ℕ) (number : ℕ) → Rises numbers → ((place : ℕ) → place < length numbers → get_or numbers place 0 < number) →
    Rises (numbers ++ number ∷ [])
rises_push numbers number rises below i j less within = grind (arith, common_steps, rises i j, below i)

rises_at_most : (numbers : List ℕ) → Rises numbers → (i j : ℕ) → i ≤ j → j < length numbers → get_or numbers i 0 ≤ get_or numbers j 0
rises_at_most numbers rises i j most within = grind (arith, rises i j)

found_case : (numbers : List ℕ) (number : ℕ) (found : Result ℕ ℕ) → Rises numbers →
    MatchResult found (λ i. (i < length numbers) × (get_or numbers i 0 ≡ number)) (λ i. (i ≤ length numbers) × ((k : ℕ) → k < i → get_or numbers k 0 < number) × ((k : ℕ) → i ≤ k → k < length numbers → number < get_or numbers k 0)) →
    result_ok found ≡ position (nat_eq number) numbers
found_case numbers number (Ok place) rises at = sym (place_at numbers number place rises at.0 at.1)
found_case numbers number (Err place) rises at =
    sym (no_place numbers number (λ other within same. absurd (⊎_elim
    (λ (before : other < place). omega (arith, at.1 other before))
    (λ (past : place ≤ other). omega (arith, at.2 other past within))
    (cases_lt other place))))

-- a binary search finds the number's place
pub searched_place : (numbers : List ℕ) (number : ℕ) (found : Result ℕ ℕ) → Rises numbers →
    IsBinarySearchResult (λ other. nat_cmp other number) numbers found → result_ok found ≡ position (nat_eq number) numbers
searched_place numbers number found rises is =
    found_case numbers number found rises (searched numbers number found is (rises_at_most numbers rises))
