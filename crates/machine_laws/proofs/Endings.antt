-- Lists of which something holds of each element, and another thing of the last one where there is reason for that.
use Rattle.std.proofs.Common.{◌≡◌, List, [], ◌∷◌, ◌++◌, refl, ap}
use Rattle.std.specs.Prelude.{All}
use Rattle.std.proofs.lemmas.List.Elements.{All-cons, All-nil}

-- the list has a last element, and this holds of it
pub record EndsIn {A : Type 0} (Last : A → Type 0) (list : List A) : Type 0 where
  pub front : List A
  pub last : A
  pub is : list ≡ front ++ last ∷ []
  pub holds : Last last

pub record EachAndLast {A : Type 0} (Each Last : A → Type 0) (Reason : Type 0) (list : List A) : Type 0 where
  pub each : All Each list
  pub last : Reason → EndsIn Last list

module _ {A : Type 0} {Each Last : A → Type 0} {Reason : Type 0} where
  pub each-none : ¬ Reason → EachAndLast Each Last Reason []
  each-none never = record { each = All-nil Each; last = λ reason. absurd (never reason) }

  pub each-last : (first : A) → Each first → Last first → EachAndLast Each Last Reason (first ∷ [])
  each-last first holds last = record {
    each = All-cons Each first [] holds (All-nil Each);
    last = λ reason. record { front = []; last = first; is = refl; holds = last };
  }

  pub each-cons : (first : A) (list : List A) → Each first → EachAndLast Each Last Reason list → EachAndLast Each Last Reason (first ∷ list)
  each-cons first list holds rest = record {
    each = All-cons Each first list holds rest.each;
    last = λ reason.
        let end = rest.last reason in
        record { front = first ∷ end.front; last = end.last; is = ap (λ (list : List A). first ∷ list) end.is; holds = end.holds };
  }
