-- The first answer of a list as a function, and as a result with those before it.
use Rattle.std.proofs.Common.{◌≡◌, List, [], ◌∷◌, slice_get, Option, Some, None, refl, ap, ◌∙◌}
use Rattle.std.specs.Prelude.{◌↔◌}
use Rattle.std.specs.List.{AllByRecursion, cons_option, filter_map}
use Rattle.std.proofs.lemmas.List.Elements.{All-cons, All-nil, recursion_from_All}
use Rattle.race_verdict.specs.declared.result.JobResult.{JobResult}
use Rattle.race_verdict.specs.Verdict.{first_of}
use Rattle.race_verdict.specs.VerdictLaws.{IsFirst, NoneGives}
use Rattle.race_verdict.proofs.Firsts.{first_of-after, first_of-here, first_of-none}

first-from_some : {A : Type 0} (answer : JobResult → Option A) (results : List JobResult) (value : A) →
    first_of answer results ≡ Some value → IsFirst answer results value
first-from_some answer [] value some = absurd (let h : ⊥ = cc in h)
first-from_some {A} answer (result ∷ rest) value some =
    go (answer result) refl some (first-from_some answer rest value)
  where
    go : (here : Option A) → answer result ≡ here →
        slice_get (cons_option here (filter_map answer rest)) 0 ≡ Some value →
        (first_of answer rest ≡ Some value → IsFirst answer rest value) → IsFirst answer (result ∷ rest) value
    go None none some later =
        let first : IsFirst answer rest value = later some in
        record {
          front = result ∷ first.front;
          result = first.result;
          rest = first.rest;
          parts = ap (λ rest. result ∷ rest) first.parts;
          before = All-cons (λ earlier. answer earlier ≡ None) result first.front none first.before;
          says = first.says;
        }
    go (Some found) is some later = record {
      front = [];
      result = result;
      rest = rest;
      parts = refl;
      before = All-nil (λ earlier. answer earlier ≡ None);
      says = is ∙ some;
    }

none-by_recursion : {A : Type 0} (answer : JobResult → Option A) (results : List JobResult) →
    AllByRecursion (λ result. answer result ≡ None) results → first_of answer results ≡ None
none-by_recursion answer [] none = refl
none-by_recursion answer (result ∷ rest) none =
    first_of-none answer result rest none.0 ∙ none-by_recursion answer rest none.1

none-from_all : {A : Type 0} (answer : JobResult → Option A) (results : List JobResult) →
    NoneGives answer results → first_of answer results ≡ None
none-from_all answer results none =
    none-by_recursion answer results (recursion_from_All (λ result. answer result ≡ None) results none)

all-from_none : {A : Type 0} (answer : JobResult → Option A) (results : List JobResult) →
    first_of answer results ≡ None → NoneGives answer results
all-from_none answer [] none = All-nil (λ result. answer result ≡ None)
all-from_none {A} answer (result ∷ rest) none = go (answer result) refl none (all-from_none answer rest)
  where
    go : (here : Option A) → answer result ≡ here → slice_get (cons_option here (filter_map answer rest)) 0 ≡ None →
        (first_of answer rest ≡ None → NoneGives answer rest) → NoneGives answer (result ∷ rest)
    go None is none later = All-cons (λ result. answer result ≡ None) result rest is (later none)
    go (Some found) is none later = absurd (let h : ⊥ = cc in h)

some-from_first : {A : Type 0} (answer : JobResult → Option A) (results : List JobResult) (value : A) →
    IsFirst answer results value → first_of answer results ≡ Some value
some-from_first answer results value first =
    ap (first_of answer) first.parts
    ∙ first_of-after answer first.front (first.result ∷ first.rest) (none-from_all answer first.front first.before)
    ∙ first_of-here answer first.result first.rest value first.says

-- a first answer is some result's, and there is none exactly where no result gives one
pub some-is_first : {A : Type 0} (answer : JobResult → Option A) (results : List JobResult) (value : A) →
    (first_of answer results ≡ Some value) ↔ IsFirst answer results value
some-is_first answer results value = (first-from_some answer results value, some-from_first answer results value)

pub none-is_all : {A : Type 0} (answer : JobResult → Option A) (results : List JobResult) →
    (first_of answer results ≡ None) ↔ NoneGives answer results
none-is_all answer results = (all-from_none answer results, none-from_all answer results)
