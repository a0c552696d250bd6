-- Texts parted at a byte: the first part and the others.
use Rattle.std.proofs.Common.{◌≡◌, ℕ, ◌+◌, ◌≤◌, Bool, true, false, cond, ltb, eqb, List, [], ◌∷◌, length, take, drop, position, Option, Some, None, refl, ap, arith, ltb-true, ltb-false}
use Rattle.std.specs.List.{slice_split, onto_first, position_or_len}
use Rattle.std.proofs.lemmas.List.Splits.{slice_split_first}
use Rattle.text_lines.specs.Part.{parts_of}

whole_more : (p : ℕ → Bool) (x : ℕ) (xs : List ℕ) (passes : Bool) → p x ≡ passes → length (x ∷ xs) ≤ position_or_len p (x ∷ xs) →
    (length xs ≤ position_or_len p xs → slice_split p xs ≡ xs ∷ []) → slice_split p (x ∷ xs) ≡ (x ∷ xs) ∷ []
whole_more p x xs true is past rest = absurd (let at_front = rw is at past in omega (arith, at_front))
whole_more p x xs false is past rest =
    rw is (ap (onto_first x) (rest (let behind = rw is at past in omega (arith, behind))))

-- where no element passes, the list is the one part
whole : (p : ℕ → Bool) (xs : List ℕ) → length xs ≤ position_or_len p xs → slice_split p xs ≡ xs ∷ []
whole p [] past = refl
whole p (x ∷ xs) past = whole_more p x xs (p x) refl past (whole p xs)

-- what stands before a place and behind it, or the whole
abbrev pub parts_at : ℕ → List ℕ → Option ℕ → List (List ℕ)
parts_at byte text None = text ∷ []
parts_at byte text (Some place) = take place text ∷ parts_of byte (drop (place + 1) text)

by_test : (byte : ℕ) (text : List ℕ) (found : Bool) → ltb (position_or_len (λ b. eqb b byte) text) (length text) ≡ found →
    parts_of byte text ≡ parts_at byte text (cond found (Some (position_or_len (λ b. eqb b byte) text)) None)
by_test byte text true found = slice_split_first (λ b. eqb b byte) text 0 (ltb-true _ _ found)
by_test byte text false found = whole (λ b. eqb b byte) text (ltb-false _ _ found)

pub first_part : (byte : ℕ) (text : List ℕ) → parts_of byte text ≡ parts_at byte text (position (λ b. eqb b byte) text)
first_part byte text = by_test byte text _ refl

-- there is a first part
abbrev pub HasFirst : List (List ℕ) → Type 0
HasFirst parts = (first : List ℕ) × (others : List (List ℕ)) × (parts ≡ first ∷ others)

onto_first_has : (x : ℕ) (parts : List (List ℕ)) → HasFirst (onto_first x parts)
onto_first_has x [] = (x ∷ [], [], refl)
onto_first_has x (part ∷ parts) = (x ∷ part, parts, refl)

pub parts_have_first : (byte : ℕ) (text : List ℕ) → HasFirst (parts_of byte text)
parts_have_first byte [] = ([], [], refl)
parts_have_first byte (x ∷ text) =
    elim (eqb x byte) as (λ v. HasFirst (cond v ([] ∷ parts_of byte text) (onto_first x (parts_of byte text)))) [
      | true ↦ ([], parts_of byte text, refl)
      | false ↦ onto_first_has x (parts_of byte text)
    ]

pub nothing_left : (byte : ℕ) (text : List ℕ) → parts_of byte text ≡ [] → ⊥
nothing_left byte text none = let (first, others, is) = parts_have_first byte text in cc
