-- The first answer of a list, in a loop that looks for it.
use Rattle.std.proofs.Common.{◌≡◌, ℕ, ◌+◌, ◌<◌, Bool, true, false, cond, List, [], ◌∷◌, ◌++◌, filter, length, take, drop, get_or, slice_get, Option, Some, None, refl, sym, ap, ◌∙◌, add-one}
use Rattle.std.specs.List.{cons_option, filter_map}
use Rattle.std.proofs.Math.Seq.{drop-cons}
use Rattle.std.proofs.lemmas.List.{take-append-drop, take_more}
use Rattle.race_verdict.specs.declared.result.JobResult.{JobResult}
use Rattle.race_verdict.specs.Verdict.{first_of}

-- where the front gives no answer, the first is that of the rest
pub first_of-after : {A : Type 0} (answer : JobResult → Option A) (front rest : List JobResult) →
    first_of answer front ≡ None → first_of answer (front ++ rest) ≡ first_of answer rest
first_of-after answer [] rest none = refl
first_of-after {A} answer (first ∷ front) rest none = go (answer first) none (first_of-after answer front rest)
  where
    go : (here : Option A) → slice_get (cons_option here (filter_map answer front)) 0 ≡ None →
        (first_of answer front ≡ None → first_of answer (front ++ rest) ≡ first_of answer rest) →
        slice_get (cons_option here (filter_map answer (front ++ rest))) 0 ≡ first_of answer rest
    go None none later = later none
    go (Some verdict) none later = absurd (let h : ⊥ = cc in h)

-- the answer of the first result of a list
pub first_of-here : {A : Type 0} (answer : JobResult → Option A) (result : JobResult) (rest : List JobResult) (verdict : A) →
    answer result ≡ Some verdict → first_of answer (result ∷ rest) ≡ Some verdict
first_of-here answer result rest verdict some = rw some refl

-- a result that gives none
pub first_of-none : {A : Type 0} (answer : JobResult → Option A) (result : JobResult) (rest : List JobResult) →
    answer result ≡ None → first_of answer (result ∷ rest) ≡ first_of answer rest
first_of-none answer result rest none = rw none refl

-- the list around one of its members
parted : (results : List JobResult) (place : ℕ) (result : JobResult) → place < length results →
    result ≡ get_or results place result → results ≡ take place results ++ result ∷ drop (place + 1) results
parted results place result within is =
    let rest : drop place results ≡ result ∷ drop (place + 1) results =
    drop-cons results place result within ∙ rw (← is, ← add-one) refl in
    sym (take-append-drop place results) ∙ ap (λ rest. take place results ++ rest) rest

pub first_found : {A : Type 0} (answer : JobResult → Option A) (results : List JobResult)
    (place : ℕ) (result : JobResult) (verdict : A) →
    place < length results → result ≡ get_or results place result → first_of answer (take place results) ≡ None →
    answer result ≡ Some verdict → Some verdict ≡ first_of answer results
first_found answer results place result verdict within is none some =
    sym
    (ap (first_of answer) (parted results place result within is)
    ∙ first_of-after answer (take place results) (result ∷ drop (place + 1) results) none
    ∙ first_of-here answer result (drop (place + 1) results) verdict some)

pub first_more : {A : Type 0} (answer : JobResult → Option A) (results : List JobResult)
    (place : ℕ) (result : JobResult) →
    place < length results → result ≡ get_or results place result → first_of answer (take place results) ≡ None →
    answer result ≡ None → first_of answer (take (place + 1) results) ≡ None
first_more answer results place result within is none here =
    ap (first_of answer) (take_more results place result within ∙ ap (λ one. take place results ++ one ∷ []) (sym is))
    ∙ first_of-after answer (take place results) (result ∷ []) none
    ∙ first_of-none answer result [] here

-- the answers of those that pass a test
passed : {A : Type 0} → (JobResult → Bool) → (JobResult → Option A) → JobResult → Option A
passed test answer result = cond (test result) (answer result) None

filter_map-passed : {A : Type 0} (test : JobResult → Bool) (answer : JobResult → Option A) (results : List JobResult) →
    filter_map answer (filter test results) ≡ filter_map (passed test answer) results
unfolding passed
filter_map-passed test answer [] = refl
filter_map-passed {A} test answer (first ∷ rest) = go (test first) (filter_map-passed test answer rest)
  where
    go : (passes : Bool) {later : List A} → filter_map answer (filter test rest) ≡ later →
        filter_map answer (cond passes (first ∷ filter test rest) (filter test rest))
        ≡ cons_option (cond passes (answer first) None) later
    go true same = ap (cons_option (answer first)) same
    go false same = same

first_of-passed : {A : Type 0} (test : JobResult → Bool) (answer : JobResult → Option A) (results : List JobResult) →
    first_of answer (filter test results) ≡ first_of (passed test answer) results
first_of-passed test answer results = ap (λ answers. slice_get answers 0) (filter_map-passed test answer results)

pub passed_found : {A : Type 0} (test : JobResult → Bool) (answer : JobResult → Option A) (results : List JobResult)
    (place : ℕ) (result : JobResult) (verdict : A) →
    place < length results → result ≡ get_or results place result →
    first_of answer (filter test (take place results)) ≡ None → test result ≡ true → answer result ≡ Some verdict →
    Some verdict ≡ first_of answer (filter test results)
unfolding passed
passed_found test answer results place result verdict within is none passes some =
    first_found (passed test answer) results place result verdict within is
    (sym (first_of-passed test answer (take place results)) ∙ none) (rw passes some)
    ∙ sym (first_of-passed test answer results)

pub passed_more : {A : Type 0} (test : JobResult → Bool) (answer : JobResult → Option A) (results : List JobResult)
    (place : ℕ) (result : JobResult) →
    place < length results → result ≡ get_or results place result →
    first_of answer (filter test (take place results)) ≡ None → answer result ≡ None →
    first_of answer (filter test (take (place + 1) results)) ≡ None
unfolding passed
passed_more {A} test answer results place result within is none here =
    first_of-passed test answer (take (place + 1) results)
    ∙ first_more (passed test answer) results place result within is
    (sym (first_of-passed test answer (take place results)) ∙ none) (go (test result))
  where
    go : (passes : Bool) → cond passes (answer result) None ≡ None
    go true = here
    go false = refl

pub passed_without : {A : Type 0} (test : JobResult → Bool) (answer : JobResult → Option A) (results : List JobResult)
    (place : ℕ) (result : JobResult) →
    place < length results → result ≡ get_or results place result →
    first_of answer (filter test (take place results)) ≡ None → test result ≡ false →
    first_of answer (filter test (take (place + 1) results)) ≡ None
unfolding passed
passed_without test answer results place result within is none fails =
    first_of-passed test answer (take (place + 1) results)
    ∙ first_more (passed test answer) results place result within is
    (sym (first_of-passed test answer (take place results)) ∙ none) (rw fails refl)
