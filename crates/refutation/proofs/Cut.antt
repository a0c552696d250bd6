-- Lists in one list.
use Rattle.std.proofs.Common.{◌≡◌, ◌∙◌, ℕ, zero, suc, ◌+◌, ◌-◌, ◌<◌, ◌≤◌, List, [], ◌∷◌, ◌++◌, length, take, drop, Some, Bool, true, false, cond, nat_lt, refl, ap, sym, subst, arith, length-append}
use Rattle.std.specs.Prelude.{slice_get, slice_index}
use Rattle.std.proofs.lemmas.List.{drop-append-le, take-append-le, take_all, length-drop, length-take-le}
use Rattle.std.proofs.lemmas.Bool.Decides.{nat_tests}
use borrow.Author.Tests.{ltb-true}
use Rattle.std.proofs.Math.Seq.{drop-append_seam, take-length}
use Rattle.refutation.specs.Rows.{AreCut, cut, start}

pub length-cut : {T : Type 0} (from : ℕ) (ends : List ℕ) (items : List T) → length (cut from ends items) ≡ length ends
length-cut from [] items = refl
length-cut from (end ∷ ends) items = ap (λ n. suc n) (length-cut end ends items)

pub cut-below : (from total : ℕ) (ends : List ℕ) → AreCut from ends total → from ≤ total
cut-below from total [] e = omega (arith, e)
cut-below from total (end ∷ ends) are = let rest = cut-below end total ends are.1 in omega (arith, are.0, rest)

pub bounds : (from total : ℕ) (ends : List ℕ) (i : ℕ) → AreCut from ends total → i < length ends → (start from ends i ≤ slice_index ends i) × (slice_index ends i ≤ total)
unfolding start
bounds from total [] i are h = absurd (omega (arith, h))
bounds from total (end ∷ ends) zero are h = (are.0, cut-below end total ends are.1)
bounds from total (end ∷ ends) (suc zero) are h = bounds end total ends zero are.1 (omega (arith, h))
bounds from total (end ∷ ends) (suc (suc i)) are h = bounds end total ends (suc i) are.1 (omega (arith, h))

pub cut-at : {T : Type 0} (from : ℕ) (ends : List ℕ) (items : List T) (i : ℕ) → i < length ends →
    slice_get (cut from ends items) i ≡ Some (take (slice_index ends i - start from ends i) (drop (start from ends i) items))
unfolding start
cut-at from [] items i h = absurd (omega (arith, h))
cut-at from (end ∷ ends) items zero h = refl
cut-at from (end ∷ ends) items (suc zero) h = cut-at end ends items zero (omega (arith, h))
cut-at from (end ∷ ends) items (suc (suc i)) h = cut-at end ends items (suc i) (omega (arith, h))

cut-push : {T : Type 0} (from : ℕ) (ends : List ℕ) (items row : List T) → AreCut from ends (length items) →
    cut from (ends ++ (length items + length row) ∷ []) (items ++ row) ≡ cut from ends items ++ row ∷ []
cut-push from [] items row e =
    ap (λ one. one ∷ []) (ap (λ k. take (length items + length row - k) (drop k (items ++ row))) e
    ∙ ap (λ n. take n (drop (length items) (items ++ row))) (let n : length items + length row - length items ≡ length row = omega arith in n)
    ∙ ap (take (length row)) (drop-append_seam items row) ∙ take-length row)
cut-push from (end ∷ ends) items row are =
    let below = cut-below end (length items) ends are.1 in
    let first = ap (take (end - from)) (drop-append-le from items row (omega (arith, are.0, below)))
    ∙ take-append-le (end - from) (drop from items) row (omega (arith, below, length-drop from items)) in
    ap (λ one. one ∷ cut end (ends ++ (length items + length row) ∷ []) (items ++ row)) first
    ∙ ap (λ rest. take (end - from) (drop from items) ∷ rest) (cut-push end ends items row are.1)

are-push : (from total more : ℕ) (ends : List ℕ) → AreCut from ends total → total ≤ more → AreCut from (ends ++ more ∷ []) more
are-push from total more [] e h = (omega (arith, e, h), refl)
are-push from total more (end ∷ ends) are h = (are.0, are-push end total more ends are.1 h)

pub start-zero : (from : ℕ) (ends : List ℕ) → from ≡ start from ends 0
unfolding start
start-zero from ends = refl

pub start-later : (from : ℕ) (ends : List ℕ) (i : ℕ) → 0 < i → slice_index ends (i - 1) ≡ start from ends i
unfolding start
start-later from ends zero h = absurd (omega (arith, h))
start-later from ends (suc i) h = ap (λ k. slice_index ends k) (omega arith)

take-in : {T : Type 0} (k s : ℕ) (xs : List T) → k ≤ s → take k (take s xs) ≡ take k xs
take-in zero s xs h = refl
take-in (suc k) zero xs h = absurd (omega (arith, h))
take-in (suc k) (suc s) [] h = refl
take-in (suc k) (suc s) (x ∷ xs) h = ap (λ rest. x ∷ rest) (take-in k s xs (omega (arith, h)))

window : {T : Type 0} (k from s : ℕ) (xs : List T) → from + k ≤ s → take k (drop from (take s xs)) ≡ take k (drop from xs)
window k zero s xs h = take-in k s xs (omega (arith, h))
window k (suc from) zero xs h = absurd (omega (arith, h))
window k (suc from) (suc s) [] h = refl
window k (suc from) (suc s) (x ∷ xs) h = window k from s xs (omega (arith, h))

cut-front : {T : Type 0} (from s : ℕ) (ends : List ℕ) (items : List T) → AreCut from ends s → cut from ends (take s items) ≡ cut from ends items
cut-front from s [] items are = refl
cut-front from s (end ∷ ends) items are =
    ap (λ row. row ∷ cut end ends (take s items)) (window (end - from) from s items (omega (arith, are.0, cut-below end s ends are.1)))
    ∙ ap (λ rest. take (end - from) (drop from items) ∷ rest) (cut-front end s ends items are.1)

cut-ends : {T : Type 0} (from n : ℕ) (ends : List ℕ) (items : List T) → cut from (take n ends) items ≡ take n (cut from ends items)
cut-ends from zero ends items = refl
cut-ends from (suc n) [] items = refl
cut-ends from (suc n) (end ∷ ends) items = ap (λ rest. take (end - from) (drop from items) ∷ rest) (cut-ends end n ends items)

are-take : (from total n : ℕ) (ends : List ℕ) → AreCut from ends total → n < length ends → AreCut from (take n ends) (start from ends n)
unfolding start
are-take from total zero ends are h = refl
are-take from total (suc n) [] are h = absurd (omega (arith, h))
are-take from total (suc zero) (end ∷ ends) are h = (are.0, refl)
are-take from total (suc (suc n)) (end ∷ ends) are h = (are.0, are-take end total (suc n) ends are.1 (omega (arith, h)))

-- the rows before a place
are-front : {T : Type 0} (n : ℕ) (ends : List ℕ) (items : List T) → AreCut 0 ends (length items) →
    AreCut 0 (take n ends) (length (cond (nat_lt n (length ends)) (take (start 0 ends n) items) items))
are-front n ends items are = by (nat_lt n (length ends)) refl
  where
    by : (t : Bool) → nat_lt n (length ends) ≡ t → AreCut 0 (take n ends) (length (cond t (take (start 0 ends n) items) items))
    by true e =
        let within : n < length ends = ltb-true n (length ends) e in
        let b = bounds 0 (length items) ends n are within in
        subst (AreCut 0 (take n ends)) (sym (length-take-le (start 0 ends n) items (omega (arith, b.0, b.1))))
        (are-take 0 (length items) n ends are within)
    by false e = subst (λ es. AreCut 0 es (length items)) (sym (take_all n ends (grind (arith, nat_tests, e)))) are

cut-take : {T : Type 0} (n : ℕ) (ends : List ℕ) (items : List T) → AreCut 0 ends (length items) →
    cut 0 (take n ends) (cond (nat_lt n (length ends)) (take (start 0 ends n) items) items) ≡ take n (cut 0 ends items)
cut-take n ends items are = by (nat_lt n (length ends)) refl
  where
    by : (t : Bool) → nat_lt n (length ends) ≡ t → cut 0 (take n ends) (cond t (take (start 0 ends n) items) items) ≡ take n (cut 0 ends items)
    by true e = cut-front 0 (start 0 ends n) (take n ends) items (are-take 0 (length items) n ends are (ltb-true n (length ends) e))
        ∙ cut-ends 0 n ends items
    by false e = cut-ends 0 n ends items

pub are-cut_back : {T : Type 0} (n : ℕ) (ends left : List ℕ) (items few : List T) → AreCut 0 ends (length items) → left ≡ take n ends →
    few ≡ cond (nat_lt n (length ends)) (take (start 0 ends n) items) items → AreCut 0 left (length few)
are-cut_back n ends left items few are e f =
    subst (λ xs. AreCut 0 left (length xs)) (sym f)
    (subst (λ es. AreCut 0 es (length (cond (nat_lt n (length ends)) (take (start 0 ends n) items) items))) (sym e) (are-front n ends items are))

pub cut-cut_back : {T : Type 0} (n : ℕ) (ends left : List ℕ) (items few : List T) → AreCut 0 ends (length items) → left ≡ take n ends →
    few ≡ cond (nat_lt n (length ends)) (take (start 0 ends n) items) items → cut 0 left few ≡ take n (cut 0 ends items)
cut-cut_back n ends left items few are e f =
    ap (cut 0 left) f ∙ ap (λ es. cut 0 es (cond (nat_lt n (length ends)) (take (start 0 ends n) items) items)) e ∙ cut-take n ends items are

-- one row more
pub are-pushed : {T : Type 0} (ends more : List ℕ) (items row all : List T) → AreCut 0 ends (length items) → all ≡ items ++ row →
    more ≡ ends ++ (length items + length row) ∷ [] → AreCut 0 more (length all)
are-pushed ends more items row all are e f =
    subst (λ es. AreCut 0 es (length all)) (sym f)
    (subst (AreCut 0 (ends ++ (length items + length row) ∷ [])) (sym (ap length e ∙ length-append items row))
    (are-push 0 (length items) (length items + length row) ends are (omega arith)))

pub cut-pushed : {T : Type 0} (ends more : List ℕ) (items row all : List T) → AreCut 0 ends (length items) → all ≡ items ++ row →
    more ≡ ends ++ (length items + length row) ∷ [] → cut 0 more all ≡ cut 0 ends items ++ row ∷ []
cut-pushed ends more items row all are e f =
    ap (cut 0 more) e ∙ ap (λ es. cut 0 es (items ++ row)) f ∙ cut-push 0 ends items row are
