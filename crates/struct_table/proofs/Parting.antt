-- A circle stays within its part, where no struct holds one of a higher part.
use Rattle.std.proofs.Common.{◌≡◌, ◌⊎◌, inl, inr, ◌∙◌, ℕ, zero, suc, ◌≤◌, ◌<◌, Bool, true, false, ◌&&◌, nat_eq, nat_le, nat_lt, List, [], ◌∷◌, ◌++◌, length, get_or, Option, Some, None, refl, ap, sym, subst, arith, if◌then◌else◌, length-append}
use Rattle.std.proofs.lemmas.Bool.{cases_Bool, eq-eqb, eqb-true, false≢true, leb-true, ltb-false, ltb-true}
use Rattle.std.proofs.lemmas.List.{get_or_append_left}
use Rattle.std.proofs.Math.ListN.{get_or-eq_default}
use Rattle.std.proofs.Math.Seq.{get_or-append_seam}
use Rattle.struct_table.specs.Graph.{circle_below, first_circle, has, held, held_by, holds_itself, or_circle, reached}
use Rattle.struct_table.specs.Parts.{and_inside, falls_below, falls_from, inside, inside_below, inside_from, never_rises, part}
use Rattle.struct_table.proofs.Reaching.{Among, among_back, among_first, among_front, among_split, and_cases, held_from, none_among, or_cases, or_right, reached_first, reached_next}
use Rattle.struct_table.proofs.Searches.{alike}

falls_done : (parts : List ℕ) (by : ℕ) (done : Bool) (numbers : List ℕ) → falls_from parts by done numbers ≡ true → done ≡ true
falls_done parts by done [] is = is
falls_done parts by done (number ∷ numbers) is =
    (and_cases done (nat_le (part parts number) (part parts by)) (falls_done parts by (done && nat_le (part parts number) (part parts by)) numbers is)).0

falls_each : (parts : List ℕ) (by : ℕ) (done : Bool) (numbers : List ℕ) → falls_from parts by done numbers ≡ true → (number : ℕ) → Among numbers number →
    part parts number ≤ part parts by
falls_each parts by done [] is number among = absurd (none_among number among)
falls_each parts by done (one ∷ numbers) is number among = elim (or_cases (nat_eq number one) (has numbers number) among) [
  | inl here ↦
      let lower = (and_cases done (nat_le (part parts one) (part parts by)) (falls_done parts by (done && nat_le (part parts one) (part parts by)) numbers is)).1 in
      subst (λ it. part parts it ≤ part parts by) (sym (eqb-true number one here)) (leb-true (part parts one) (part parts by) lower)
  | inr there ↦ falls_each parts by (done && nat_le (part parts one) (part parts by)) numbers is number there
]

falls_all : (parts : List ℕ) (holds : List (List ℕ)) (count : ℕ) → falls_below parts holds count ≡ true → (by number : ℕ) → by < count → Among (held holds by) number →
    part parts number ≤ part parts by
falls_all parts holds zero is by number within among = absurd (omega (arith, within))
falls_all parts holds (suc count) is by number within among = elim (cases_Bool (nat_lt by count)) [
  | inl below ↦ falls_all parts holds count (falls_done parts count (falls_below parts holds count) (held holds count) is) by number (ltb-true by count below) among
  | inr behind ↦
      let above = ltb-false by count behind in
      let last : by ≡ count = omega (arith, above, within) in
      falls_each parts by (falls_below parts holds count) (held holds by) (subst (λ it. falls_from parts it (falls_below parts holds count) (held holds it) ≡ true) (sym last) is) number among
]

held_within : (holds : List (List ℕ)) (by number : ℕ) → Among (held holds by) number → by < length holds
held_within holds by number is = elim (cases_Bool (nat_lt by (length holds))) [
  | inl within ↦ ltb-true by (length holds) within
  | inr outside ↦ absurd (none_among number (subst (λ numbers. Among numbers number) (get_or-eq_default holds [] (ltb-false by (length holds) outside)) is))
]

falls : (parts : List ℕ) (holds : List (List ℕ)) → never_rises parts holds ≡ true → (by number : ℕ) → Among (held holds by) number → part parts number ≤ part parts by
falls parts holds is by number among = falls_all parts holds (length holds) is by number (held_within holds by number among) among

-- ---- what is held within a part

and_in : (parts : List ℕ) (by : ℕ) (done : List ℕ) (one number : ℕ) → Among (and_inside parts by done one) number → Among done number ⊎ (number ≡ one)
and_in parts by done one number is = elim (cases_Bool (nat_eq (part parts one) (part parts by))) [
  | inl same ↦ elim (among_split done (one ∷ []) number (subst (λ test. Among (if test then done ++ one ∷ [] else done) number) same is)) [
    | inl had ↦ inl had
    | inr new ↦ elim (or_cases (nat_eq number one) false new) [
      | inl here ↦ inr (eqb-true number one here)
      | inr never ↦ absurd (false≢true never)
    ]
  ]
  | inr differs ↦ inl (subst (λ test. Among (if test then done ++ one ∷ [] else done) number) differs is)
]

and_keeps : (parts : List ℕ) (by : ℕ) (done : List ℕ) (one number : ℕ) → Among done number → Among (and_inside parts by done one) number
and_keeps parts by done one number is = elim (cases_Bool (nat_eq (part parts one) (part parts by))) [
  | inl same ↦ subst (λ test. Among (if test then done ++ one ∷ [] else done) number) (sym same) (among_front done (one ∷ []) number is)
  | inr differs ↦ subst (λ test. Among (if test then done ++ one ∷ [] else done) number) (sym differs) is
]

and_puts : (parts : List ℕ) (by : ℕ) (done : List ℕ) (one : ℕ) → part parts one ≡ part parts by → Among (and_inside parts by done one) one
and_puts parts by done one same =
    subst (λ test. Among (if test then done ++ one ∷ [] else done) one) (sym (eq-eqb (part parts one) (part parts by) same)) (among_back done (one ∷ []) one (among_first one []))

inside_in : (parts : List ℕ) (by : ℕ) (done numbers : List ℕ) (number : ℕ) → Among (inside_from parts by done numbers) number → Among done number ⊎ Among numbers number
inside_in parts by done [] number is = inl is
inside_in parts by done (one ∷ numbers) number is = elim (inside_in parts by (and_inside parts by done one) numbers number is) [
  | inl had ↦ elim (and_in parts by done one number had) [
    | inl before ↦ inl before
    | inr same ↦ inr (subst (λ it. Among (one ∷ numbers) it) (sym same) (among_first one numbers))
  ]
  | inr there ↦ inr (or_right (nat_eq number one) (has numbers number) there)
]

inside_keeps : (parts : List ℕ) (by : ℕ) (done numbers : List ℕ) (number : ℕ) → Among done number → Among (inside_from parts by done numbers) number
inside_keeps parts by done [] number is = is
inside_keeps parts by done (one ∷ numbers) number is = inside_keeps parts by (and_inside parts by done one) numbers number (and_keeps parts by done one number is)

inside_puts : (parts : List ℕ) (by : ℕ) (done numbers : List ℕ) (number : ℕ) → Among numbers number → part parts number ≡ part parts by →
    Among (inside_from parts by done numbers) number
inside_puts parts by done [] number is same = absurd (none_among number is)
inside_puts parts by done (one ∷ numbers) number is same = elim (or_cases (nat_eq number one) (has numbers number) is) [
  | inl here ↦
      let one_is = eqb-true number one here in
      inside_keeps parts by (and_inside parts by done one) numbers number
      (subst (λ it. Among (and_inside parts by done one) it) (sym one_is) (and_puts parts by done one (subst (λ it. part parts it ≡ part parts by) one_is same)))
  | inr there ↦ inside_puts parts by (and_inside parts by done one) numbers number there same
]

length_inside : (parts : List ℕ) (holds : List (List ℕ)) (count : ℕ) → length (inside_below parts holds count) ≡ count
length_inside parts holds zero = refl
length_inside parts holds (suc count) =
    let front = length_inside parts holds count in
    let whole = length-append (inside_below parts holds count) (inside_from parts count [] (held holds count) ∷ []) in
    omega (arith, front, whole)

get_inside : (parts : List ℕ) (holds : List (List ℕ)) (count by : ℕ) → by < count →
    get_or (inside_below parts holds count) by [] ≡ inside_from parts by [] (held holds by)
get_inside parts holds zero by within = absurd (omega (arith, within))
get_inside parts holds (suc count) by within = elim (cases_Bool (nat_lt by count)) [
  | inl below ↦
      get_or_append_left (inside_below parts holds count) (inside_from parts count [] (held holds count) ∷ []) [] by (subst (λ len. by < len) (sym (length_inside parts holds count)) (ltb-true by count below))
      ∙ get_inside parts holds count by (ltb-true by count below)
  | inr behind ↦
      let above = ltb-false by count behind in
      let last : by ≡ count = omega (arith, above, within) in
      ap (λ place. get_or (inside_below parts holds (suc count)) place []) (last ∙ sym (length_inside parts holds count))
      ∙ get_or-append_seam (inside_below parts holds count) (inside_from parts count [] (held holds count)) [] []
      ∙ ap (λ it. inside_from parts it [] (held holds it)) (sym last)
]

held_inside : (parts : List ℕ) (holds : List (List ℕ)) (by : ℕ) → held (inside parts holds) by ≡ inside_from parts by [] (held holds by)
held_inside parts holds by = elim (cases_Bool (nat_lt by (length holds))) [
  | inl within ↦ get_inside parts holds (length holds) by (ltb-true by (length holds) within)
  | inr outside ↦
      let behind = ltb-false by (length holds) outside in
      get_or-eq_default (inside parts holds) [] (subst (λ len. len ≤ by) (sym (length_inside parts holds (length holds))) behind)
      ∙ sym (ap (inside_from parts by []) (get_or-eq_default holds [] behind))
]

inside_held : (parts : List ℕ) (holds : List (List ℕ)) (by number : ℕ) → Among (held (inside parts holds) by) number → Among (held holds by) number
inside_held parts holds by number is =
    elim (inside_in parts by [] (held holds by) number (subst (λ numbers. Among numbers number) (held_inside parts holds by) is)) [
      | inl never ↦ absurd (none_among number never)
      | inr there ↦ there
    ]

held_in_part : (parts : List ℕ) (holds : List (List ℕ)) (by number : ℕ) → Among (held holds by) number → part parts number ≡ part parts by →
    Among (held (inside parts holds) by) number
held_in_part parts holds by number is same =
    subst (λ numbers. Among numbers number) (sym (held_inside parts holds by)) (inside_puts parts by [] (held holds by) number is same)

-- ---- circles

reached_out : (parts : List ℕ) (holds : List (List ℕ)) (start depth number : ℕ) → Among (reached (inside parts holds) start depth) number →
    Among (reached holds start depth) number
reached_out parts holds start zero number is = absurd (none_among number is)
reached_out parts holds start (suc depth) number is =
    let within = inside parts holds in
    elim (among_split (held within start) (held_by within (reached within start depth)) number is) [
      | inl here ↦ reached_first holds start depth number (inside_held parts holds start number here)
      | inr there ↦
          let found = held_from within (reached within start depth) number there in
          reached_next holds start depth found.by number (reached_out parts holds start depth found.by found.among) (inside_held parts holds found.by number found.directly)
    ]

-- what is reached has no higher part, and is reached within the part where it has no lower one
record IsReached (parts : List ℕ) (holds : List (List ℕ)) (start depth number : ℕ) : Type 0 where
  pub lower : part parts number ≤ part parts start
  pub within : part parts start ≤ part parts number → Among (reached (inside parts holds) start depth) number

reached_in : (parts : List ℕ) (holds : List (List ℕ)) → never_rises parts holds ≡ true → (start depth number : ℕ) → Among (reached holds start depth) number →
    IsReached parts holds start depth number
reached_in parts holds never start zero number is = absurd (none_among number is)
reached_in parts holds never start (suc depth) number is =
    let inner = inside parts holds in
    elim (among_split (held holds start) (held_by holds (reached holds start depth)) number is) [
      | inl here ↦
          let lower = falls parts holds never start number here in
          record {
            lower = lower;
            within = λ above.
                let same : part parts number ≡ part parts start = omega (arith, lower, above) in
                reached_first inner start depth number (held_in_part parts holds start number here same);
          }
      | inr there ↦
          let found = held_from holds (reached holds start depth) number there in
          let before = reached_in parts holds never start depth found.by found.among in
          let first = before.lower in
          let second = falls parts holds never found.by number found.directly in
          record {
            lower = omega (arith, first, second);
            within = λ above.
                let same : part parts number ≡ part parts found.by = omega (arith, first, second, above) in
                let level : part parts start ≤ part parts found.by = omega (arith, second, above) in
                reached_next inner start depth found.by number (before.within level) (held_in_part parts holds found.by number found.directly same);
          }
    ]

itself_inside : (parts : List ℕ) (holds : List (List ℕ)) → never_rises parts holds ≡ true → (number : ℕ) →
    holds_itself (inside parts holds) number ≡ holds_itself holds number
itself_inside parts holds never number =
    let level : part parts number ≤ part parts number = omega arith in
    ap (λ depth. has (reached (inside parts holds) number depth) number) (length_inside parts holds (length holds))
    ∙ alike (has (reached (inside parts holds) number (length holds)) number) (holds_itself holds number)
    (λ is. reached_out parts holds number (length holds) number is)
    (λ is. (reached_in parts holds never number (length holds) number is).within level)

or_same : (circle : Option ℕ) (one other : List (List ℕ)) (number : ℕ) → holds_itself one number ≡ holds_itself other number →
    or_circle circle one number ≡ or_circle circle other number
or_same None one other number same = ap (λ itself. if itself then Some number else None) same
or_same (Some circle) one other number same = refl

circle_inside : (parts : List ℕ) (holds : List (List ℕ)) → never_rises parts holds ≡ true → (count : ℕ) →
    circle_below (inside parts holds) count ≡ circle_below holds count
circle_inside parts holds never zero = refl
circle_inside parts holds never (suc count) =
    rw (circle_inside parts holds never count) (or_same (circle_below holds count) (inside parts holds) holds count (itself_inside parts holds never count))

pub first_inside : (parts : List ℕ) (holds : List (List ℕ)) → never_rises parts holds ≡ true → first_circle (inside parts holds) ≡ first_circle holds
first_inside parts holds never =
    ap (circle_below (inside parts holds)) (length_inside parts holds (length holds)) ∙ circle_inside parts holds never (length holds)
