-- The clauses that a hint may name.
use Rattle.std.proofs.Common.{◌≡◌, ℕ, zero, suc, ◌-◌, ◌<◌, ◌≤◌, List, [], ◌∷◌, ◌++◌, length, take, None, refl, ap, ◌∙◌, arith}
use Rattle.std.specs.Prelude.{slice_get}

pub slice_get-front : {X : Type 0} (xs ys : List X) (i : ℕ) → i < length xs → slice_get (xs ++ ys) i ≡ slice_get xs i
slice_get-front [] ys i h = absurd (omega (arith, h))
slice_get-front (x ∷ xs) ys zero h = refl
slice_get-front (x ∷ xs) ys (suc i) h = slice_get-front xs ys i (omega (arith, h))

pub slice_get-back : {X : Type 0} (xs ys : List X) (i : ℕ) → length xs ≤ i → slice_get (xs ++ ys) i ≡ slice_get ys (i - length xs)
slice_get-back [] ys i h = ap (slice_get ys) (omega arith)
slice_get-back (x ∷ xs) ys zero h = absurd (omega (arith, h))
slice_get-back (x ∷ xs) ys (suc i) h =
    slice_get-back xs ys i (omega (arith, h)) ∙ ap (slice_get ys) (omega arith)

pub slice_get-within : {X : Type 0} (xs : List X) (n i : ℕ) → i < n → slice_get (take n xs) i ≡ slice_get xs i
slice_get-within xs zero i h = absurd (omega (arith, h))
slice_get-within [] (suc n) i h = refl
slice_get-within (x ∷ xs) (suc n) zero h = refl
slice_get-within (x ∷ xs) (suc n) (suc i) h = slice_get-within xs n i (omega (arith, h))

pub slice_get-outside : {X : Type 0} (xs : List X) (n i : ℕ) → n ≤ i → slice_get (take n xs) i ≡ None
slice_get-outside xs zero i h = refl
slice_get-outside [] (suc n) i h = refl
slice_get-outside (x ∷ xs) (suc n) zero h = absurd (omega (arith, h))
slice_get-outside (x ∷ xs) (suc n) (suc i) h = slice_get-outside xs n i (omega (arith, h))

pub ruleset known_places = (slice_get-front, slice_get-back, slice_get-within, slice_get-outside)
