-- Numbers in lists, and what a struct reaches.
use Rattle.std.proofs.Common.{◌≡◌, ◌⊎◌, inl, inr, ℕ, zero, suc, ◌+◌, ◌-◌, ◌≤◌, Bool, true, false, ◌&&◌, ◌||◌, not, nat_eq, List, [], ◌∷◌, ◌++◌, length, refl, ap, subst, arith}
use Rattle.std.proofs.lemmas.Bool.{eq-eqb, eqb-true, false≢true}
use Rattle.struct_table.specs.Graph.{has, held, held_by, holds_itself, reached}

-- ---- numbers in lists

abbrev pub Among : List ℕ → ℕ → Type 0
Among numbers number = has numbers number ≡ true

pub or_cases : (one other : Bool) → (one || other) ≡ true → (one ≡ true) ⊎ (other ≡ true)
or_cases true other is = inl refl
or_cases false other is = inr is

pub or_left : (one other : Bool) → one ≡ true → (one || other) ≡ true
or_left one other is = rw is refl

pub or_right : (one other : Bool) → other ≡ true → (one || other) ≡ true
or_right true other is = refl
or_right false other is = is

pub and_cases : (one other : Bool) → (one && other) ≡ true → (one ≡ true) × (other ≡ true)
and_cases true other is = (refl, is)
and_cases false other is = absurd (false≢true is)

pub not_true : (one : Bool) → not one ≡ true → one ≡ false
not_true true is = absurd (false≢true is)
not_true false is = refl

pub none_among : (number : ℕ) → Among [] number → ⊥
none_among number is = false≢true is

pub among_split : (front back : List ℕ) (number : ℕ) → Among (front ++ back) number → Among front number ⊎ Among back number
among_split [] back number is = inr is
among_split (one ∷ front) back number is = elim (or_cases (nat_eq number one) (has (front ++ back) number) is) [
  | inl here ↦ inl (or_left (nat_eq number one) (has front number) here)
  | inr there ↦ elim (among_split front back number there) [
    | inl first ↦ inl (or_right (nat_eq number one) (has front number) first)
    | inr second ↦ inr second
  ]
]

pub among_front : (front back : List ℕ) (number : ℕ) → Among front number → Among (front ++ back) number
among_front [] back number is = absurd (none_among number is)
among_front (one ∷ front) back number is = elim (or_cases (nat_eq number one) (has front number) is) [
  | inl here ↦ or_left (nat_eq number one) (has (front ++ back) number) here
  | inr there ↦ or_right (nat_eq number one) (has (front ++ back) number) (among_front front back number there)
]

pub among_back : (front back : List ℕ) (number : ℕ) → Among back number → Among (front ++ back) number
among_back [] back number is = is
among_back (one ∷ front) back number is = or_right (nat_eq number one) (has (front ++ back) number) (among_back front back number is)

pub among_first : (number : ℕ) (numbers : List ℕ) → Among (number ∷ numbers) number
among_first number numbers = or_left (nat_eq number number) (has numbers number) (eq-eqb number number refl)

-- ---- what is reached

-- one of the numbers holds it
pub record Held (holds : List (List ℕ)) (numbers : List ℕ) (number : ℕ) : Type 0 where
  pub by : ℕ
  pub among : Among numbers by
  pub directly : Among (held holds by) number

pub held_from : (holds : List (List ℕ)) (numbers : List ℕ) (number : ℕ) → Among (held_by holds numbers) number → Held holds numbers number
held_from holds [] number is = absurd (none_among number is)
held_from holds (one ∷ numbers) number is = elim (among_split (held holds one) (held_by holds numbers) number is) [
  | inl here ↦ record { by = one; among = among_first one numbers; directly = here }
  | inr there ↦
      let found = held_from holds numbers number there in
      record { by = found.by; among = or_right (nat_eq found.by one) (has numbers found.by) found.among; directly = found.directly }
]

pub held_to : (holds : List (List ℕ)) (numbers : List ℕ) (by number : ℕ) → Among numbers by → Among (held holds by) number → Among (held_by holds numbers) number
held_to holds [] by number among directly = absurd (none_among by among)
held_to holds (one ∷ numbers) by number among directly = elim (or_cases (nat_eq by one) (has numbers by) among) [
  | inl here ↦ among_front (held holds one) (held_by holds numbers) number (subst (λ it. Among (held holds it) number) (eqb-true by one here) directly)
  | inr there ↦ among_back (held holds one) (held_by holds numbers) number (held_to holds numbers by number there directly)
]

pub reached_first : (holds : List (List ℕ)) (start depth number : ℕ) → Among (held holds start) number → Among (reached holds start (suc depth)) number
reached_first holds start depth number is = among_front (held holds start) (held_by holds (reached holds start depth)) number is

pub reached_next : (holds : List (List ℕ)) (start depth by number : ℕ) → Among (reached holds start depth) by → Among (held holds by) number →
    Among (reached holds start (suc depth)) number
reached_next holds start depth by number among directly =
    among_back (held holds start) (held_by holds (reached holds start depth)) number (held_to holds (reached holds start depth) by number among directly)

pub reached_more : (holds : List (List ℕ)) (start depth number : ℕ) → Among (reached holds start depth) number → Among (reached holds start (suc depth)) number
reached_more holds start zero number is = absurd (none_among number is)
reached_more holds start (suc depth) number is = elim (among_split (held holds start) (held_by holds (reached holds start depth)) number is) [
  | inl here ↦ reached_first holds start (suc depth) number here
  | inr there ↦
      let found = held_from holds (reached holds start depth) number there in
      reached_next holds start (suc depth) found.by number (reached_more holds start depth found.by found.among) found.directly
]

reached_by : (holds : List (List ℕ)) (start depth more number : ℕ) → Among (reached holds start depth) number → Among (reached holds start (more + depth)) number
reached_by holds start depth zero number is =
    let same : depth ≡ 0 + depth = omega arith in
    subst (λ end. Among (reached holds start end) number) same is
reached_by holds start depth (suc more) number is =
    let last : suc (more + depth) ≡ suc more + depth = omega arith in
    subst (λ end. Among (reached holds start end) number) last (reached_more holds start (more + depth) number (reached_by holds start depth more number is))

pub reached_within : (holds : List (List ℕ)) (start depth end number : ℕ) → depth ≤ end → Among (reached holds start depth) number → Among (reached holds start end) number
reached_within holds start depth end number within is =
    let last : end - depth + depth ≡ end = omega (arith, within) in
    subst (λ end. Among (reached holds start end) number) last (reached_by holds start depth (end - depth) number is)

pub bare_reaches : (holds : List (List ℕ)) (start depth : ℕ) → held holds start ≡ [] → reached holds start depth ≡ []
bare_reaches holds start zero is = refl
bare_reaches holds start (suc depth) is = rw (is, bare_reaches holds start depth is) refl

pub bare_is_free : (holds : List (List ℕ)) (start : ℕ) → held holds start ≡ [] → holds_itself holds start ≡ false
bare_is_free holds start is = ap (λ numbers. has numbers start) (bare_reaches holds start (length holds) is)
