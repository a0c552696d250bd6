-- What a list has at a place, also after a write.
use Rattle.std.proofs.Common.{◌≡◌, ◌≢◌, ℕ, zero, suc, ◌<◌, List, [], ◌∷◌, length, Some, refl, ap, subst, arith}
use Rattle.std.specs.Prelude.{All, slice_get, slice_set}
use Rattle.std.proofs.lemmas.Option.{get_or_from_slice_get, slice_get_within}

-- a write at another place
pub slice_get-other : {X : Type 0} (xs : List X) (i j : ℕ) (x : X) → j ≢ i → slice_get (slice_set xs i x) j ≡ slice_get xs j
slice_get-other [] i j x other = refl
slice_get-other (first ∷ xs) zero zero x other = absurd (other refl)
slice_get-other (first ∷ xs) zero (suc j) x other = refl
slice_get-other (first ∷ xs) (suc i) zero x other = refl
slice_get-other (first ∷ xs) (suc i) (suc j) x other = slice_get-other xs i j x (λ same. other (ap suc same))

-- and at its own
pub slice_get-own : {X : Type 0} (xs : List X) (i : ℕ) (x old : X) → slice_get xs i ≡ Some old →
    slice_get (slice_set xs i x) i ≡ Some x
slice_get-own [] i x old is = absurd (let h : ⊥ = cc in h)
slice_get-own (first ∷ xs) zero x old is = refl
slice_get-own (first ∷ xs) (suc i) x old is = slice_get-own xs i x old is

pub slice_get-some : {X : Type 0} (xs : List X) (i : ℕ) → i < length xs → (x : X) × (slice_get xs i ≡ Some x)
slice_get-some [] i within = absurd (omega arith)
slice_get-some (first ∷ xs) zero within = (first, refl)
slice_get-some (first ∷ xs) (suc i) within = slice_get-some xs i (omega arith)

-- what holds of each element, holds of the one at a place
pub All-slice_get : {X : Type 0} (P : X → Type 0) (xs : List X) (i : ℕ) (x : X) → All P xs → slice_get xs i ≡ Some x → P x
All-slice_get P xs i x all is = subst P (get_or_from_slice_get xs i x x is) (all i x (slice_get_within xs i x is))
