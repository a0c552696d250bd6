-- What equal constructors say.
use Rattle.std.proofs.Common.{◌≡◌, List, ◌∷◌, Option, Some, Result, Ok, ap, subst}

pub ok_is : {A E : Type 0} {x y : A} → ◌≡◌ {A = Result A E} (Ok x) (Ok y) → x ≡ y
ok_is is = cc

pub some_is : {A : Type 0} {x y : A} → ◌≡◌ {A = Option A} (Some x) (Some y) → x ≡ y
some_is is = cc

pub head_is : {A : Type 0} {x y : A} {xs ys : List A} → x ∷ xs ≡ y ∷ ys → x ≡ y
head_is is = cc

pub tail_is : {A : Type 0} {x y : A} {xs ys : List A} → x ∷ xs ≡ y ∷ ys → xs ≡ ys
tail_is is = cc

pub first_is : {A B : Type 0} {a c : A} {b d : B} → ◌≡◌ {A = A × B} (a, b) (c, d) → a ≡ c
first_is {A = A} {B = B} is = ap (λ (p : A × B). p.0) is

pub second_is : {A B : Type 0} {a c : A} {b d : B} → ◌≡◌ {A = A × B} (a, b) (c, d) → b ≡ d
second_is {A = A} {B = B} is = ap (λ (p : A × B). p.1) is

-- what holds of the parts of one answer holds of those of an equal one
pub carry : {A B E : Type 0} {a c : A} {b d : B} (P : A → B → Type 0) → ◌≡◌ {A = Result (A × B) E} (Ok (a, b)) (Ok (c, d)) → P a b → P c d
carry {A = A} {B = B} P is holds = subst (λ (p : A × B). P p.0 p.1) (ok_is is) holds
