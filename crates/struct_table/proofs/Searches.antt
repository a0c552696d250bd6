-- What the search marks is what a struct holds, directly or through others.
use Rattle.std.proofs.Common.{◌≡◌, ◌⊎◌, inl, inr, ◌∙◌, ℕ, zero, suc, ◌+◌, ◌≤◌, ◌<◌, Bool, true, false, not, nat_eq, nat_lt, List, [], ◌∷◌, length, get_or, set, replicate, refl, ap, sym, subst, arith, if◌then◌else◌}
use Rattle.std.proofs.lemmas.Bool.{cases_Bool, eq-eqb, eqb-false, eqb-true, false≢true, lt-ltb, ltb-false, ltb-true}
use Rattle.std.proofs.lemmas.List.{get_or-set_same, get_or-set_other, length-set}
use Rattle.std.proofs.Math.ListN.{get_or-eq_default}
use Rattle.struct_table.specs.Graph.{has, held, held_by, holds_itself, reached}
use Rattle.struct_table.specs.Search.{Search, begun, is_unmarked, with_mark, with_marks}
use Rattle.struct_table.proofs.Reaching.{Among, among_first, among_split, among_split, and_cases, bare_is_free, held_from, none_among, not_true, or_cases, or_left, or_right, reached_first, reached_more, reached_next, reached_within}

-- ---- marks

abbrev pub Marked : List Bool → ℕ → Type 0
Marked marks number = get_or marks number false ≡ true

abbrev one_unmarked : Bool → ℕ
one_unmarked true = 0
one_unmarked false = 1

abbrev pub unmarked : List Bool → ℕ
unmarked [] = 0
unmarked (mark ∷ marks) = one_unmarked mark + unmarked marks

pub unmarked_set : (marks : List Bool) (number : ℕ) → number < length marks → get_or marks number false ≡ false →
    suc (unmarked (set marks number true)) ≡ unmarked marks
unmarked_set [] number within is = absurd (omega (arith, within))
unmarked_set (mark ∷ marks) zero within is = rw is (omega arith)
unmarked_set (mark ∷ marks) (suc number) within is = let rest = unmarked_set marks number (omega (arith, within)) is in omega (arith, rest)

pub unmarked_none : (count : ℕ) → unmarked (replicate count false) ≡ count
unmarked_none zero = refl
unmarked_none (suc count) = let rest = unmarked_none count in omega (arith, rest)

pub none_marked : (count number : ℕ) → Marked (replicate count false) number → ⊥
none_marked zero number is = false≢true is
none_marked (suc count) zero is = false≢true is
none_marked (suc count) (suc number) is = none_marked count number is

pub length_replicate : {A : Type 0} (count : ℕ) (one : A) → length (replicate count one) ≡ count
length_replicate zero one = refl
length_replicate (suc count) one = ap suc (length_replicate count one)

-- how the search goes on
pub record Grows (before after : Search) : Type 0 where
  pub len : length after.marks ≡ length before.marks
  pub marks : (number : ℕ) → Marked before.marks number → Marked after.marks number
  pub pending : (number : ℕ) → Among before.pending number → Among after.pending number
  pub new : (number : ℕ) → Marked after.marks number → Marked before.marks number ⊎ Among after.pending number
  pub weight : unmarked after.marks + length after.pending ≡ unmarked before.marks + length before.pending

pub grows_none : (search : Search) → Grows search search
grows_none search = record {
  len = refl;
  marks = λ number is. is;
  pending = λ number is. is;
  new = λ number is. inl is;
  weight = refl;
}

pub grows_more : (first second third : Search) → Grows first second → Grows second third → Grows first third
grows_more first second third one other = record {
  len = other.len ∙ one.len;
  marks = λ number is. other.marks number (one.marks number is);
  pending = λ number is. other.pending number (one.pending number is);
  new = λ number is. elim (other.new number is) [
    | inl had ↦ elim (one.new number had) [
      | inl first_had ↦ inl first_had
      | inr waits ↦ inr (other.pending number waits)
    ]
    | inr waits ↦ inr waits
  ];
  weight = other.weight ∙ one.weight;
}

abbrev marked_one : Search → ℕ → Search
marked_one search number = record { marks = set search.marks number true; pending = number ∷ search.pending }

set_marks : (marks : List Bool) (number other : ℕ) → number < length marks → Marked marks other → Marked (set marks number true) other
set_marks marks number other within is = elim (cases_Bool (nat_eq other number)) [
  | inl same ↦ subst (λ it. Marked (set marks number true) it) (sym (eqb-true other number same)) (get_or-set_same marks number true false within)
  | inr differs ↦ get_or-set_other marks number other true false (λ same. eqb-false other number differs same) ∙ is
]

pub set_new : (marks : List Bool) (number other : ℕ) → Marked (set marks number true) other → (Marked marks other) ⊎ (other ≡ number)
set_new marks number other is = elim (cases_Bool (nat_eq other number)) [
  | inl same ↦ inr (eqb-true other number same)
  | inr differs ↦ inl (sym (get_or-set_other marks number other true false (λ same. eqb-false other number differs same)) ∙ is)
]

one_grows : (search : Search) (number : ℕ) → number < length search.marks → get_or search.marks number false ≡ false → Grows search (marked_one search number)
one_grows search number within free =
    let count = unmarked_set search.marks number within free in
    record {
      len = length-set search.marks number true;
      marks = λ other is. set_marks search.marks number other within is;
      pending = λ other is. or_right (nat_eq other number) (has search.pending other) is;
      new = λ other is. elim (set_new search.marks number other is) [
        | inl had ↦ inl had
        | inr same ↦ inr (or_left (nat_eq other number) (has search.pending other) (eq-eqb other number same))
      ];
      weight = omega (arith, count);
    }

unmarked_is : (marks : List Bool) (number : ℕ) → is_unmarked marks number ≡ true → (number < length marks) × (get_or marks number false ≡ false)
unmarked_is marks number is =
    let parts = and_cases (nat_lt number (length marks)) (not (get_or marks number false)) is in
    (ltb-true number (length marks) parts.0, not_true (get_or marks number false) parts.1)

pub mark_grows : (search : Search) (number : ℕ) → Grows search (with_mark search number)
mark_grows search number = elim (cases_Bool (is_unmarked search.marks number)) [
  | inl is ↦
      let parts = unmarked_is search.marks number is in
      subst (λ free. Grows search (if free then marked_one search number else search)) (sym is) (one_grows search number parts.0 parts.1)
  | inr is ↦ subst (λ free. Grows search (if free then marked_one search number else search)) (sym is) (grows_none search)
]

pub marks_grow : (search : Search) (numbers : List ℕ) → Grows search (with_marks search numbers)
marks_grow search [] = grows_none search
marks_grow search (number ∷ numbers) =
    grows_more search (with_mark search number) (with_marks (with_mark search number) numbers) (mark_grows search number) (marks_grow (with_mark search number) numbers)

marked_by : (marks : List Bool) (number : ℕ) → is_unmarked marks number ≡ false → number < length marks → Marked marks number
marked_by marks number is within = elim (cases_Bool (get_or marks number false)) [
  | inl marked ↦ marked
  | inr free ↦ absurd (false≢true (sym is ∙ rw (lt-ltb number (length marks) within, free) refl))
]

mark_marks : (search : Search) (number : ℕ) → number < length search.marks → Marked (with_mark search number).marks number
mark_marks search number within = elim (cases_Bool (is_unmarked search.marks number)) [
  | inl is ↦ subst (λ free. Marked (if free then marked_one search number else search).marks number) (sym is) (get_or-set_same search.marks number true false within)
  | inr is ↦ subst (λ free. Marked (if free then marked_one search number else search).marks number) (sym is) (marked_by search.marks number is within)
]

-- each of the numbers that a struct has
abbrev pub AllMarked : List Bool → List ℕ → Type 0
AllMarked marks numbers = (number : ℕ) → Among numbers number → number < length marks → Marked marks number

pub marks_all : (search : Search) (numbers : List ℕ) → AllMarked (with_marks search numbers).marks numbers
marks_all search [] number is within = absurd (none_among number is)
marks_all search (one ∷ numbers) number is within = elim (or_cases (nat_eq number one) (has numbers number) is) [
  | inl here ↦
      let same = eqb-true number one here in
      let grows = marks_grow (with_mark search one) numbers in
      let before : number < length search.marks = subst (λ count. number < count) (grows.len ∙ (mark_grows search one).len) within in
      grows.marks number (subst (λ it. Marked (with_mark search one).marks it) (sym same) (mark_marks search one (subst (λ it. it < length search.marks) same before)))
  | inr there ↦ marks_all (with_mark search one) numbers number there within
]

pub all_more : (before after : Search) (numbers : List ℕ) → Grows before after → AllMarked before.marks numbers → AllMarked after.marks numbers
all_more before after numbers grows all number is within =
    grows.marks number (all number is (subst (λ count. number < count) grows.len within))

-- ---- the search from a struct

-- what is marked is reached, no deeper than so many are marked
pub record IsSound (holds : List (List ℕ)) (start : ℕ) (search : Search) : Type 0 where
  pub len : length search.marks ≡ length holds
  pub depth : ℕ
  pub counted : depth + unmarked search.marks ≡ length holds
  pub sound : (number : ℕ) → Marked search.marks number → Among (reached holds start depth) number
  pub waiting : (number : ℕ) → Among search.pending number → Marked search.marks number

-- what is marked waits, or all that it holds is marked
pub record IsSearched (holds : List (List ℕ)) (start : ℕ) (search : Search) : Type 0 where
  pub sound : IsSound holds start search
  pub closed : (number : ℕ) → Marked search.marks number → Among search.pending number ⊎ AllMarked search.marks (held holds number)
  pub first : AllMarked search.marks (held holds start)

abbrev Leads : List (List ℕ) → ℕ → ℕ → List ℕ → Type 0
Leads holds start depth numbers = (number : ℕ) → Among numbers number → Among (reached holds start (suc depth)) number

pub record IsDeeper (holds : List (List ℕ)) (start depth : ℕ) (search : Search) : Type 0 where
  pub sound : IsSound holds start search
  pub within : depth ≤ sound.depth

one_sound : (holds : List (List ℕ)) (start depth : ℕ) (search : Search) (number : ℕ) → number < length search.marks → get_or search.marks number false ≡ false →
    IsDeeper holds start depth search → Among (reached holds start (suc depth)) number → IsDeeper holds start depth (marked_one search number)
one_sound holds start depth search number within free before among =
    let had = before.sound in
    let count = unmarked_set search.marks number within free in
    let counted = had.counted in
    let deeper = before.within in
    record {
      sound = record {
        len = length-set search.marks number true ∙ had.len;
        depth = suc had.depth;
        counted = omega (arith, counted, count);
        sound = λ other is. elim (set_new search.marks number other is) [
          | inl was ↦ reached_more holds start had.depth other (had.sound other was)
          | inr same ↦
              subst (λ it. Among (reached holds start (suc had.depth)) it) (sym same)
              (reached_within holds start (suc depth) (suc had.depth) number (omega (arith, deeper)) among)
        ];
        waiting = λ other is. elim (or_cases (nat_eq other number) (has search.pending other) is) [
          | inl same ↦ subst (λ it. Marked (set search.marks number true) it) (sym (eqb-true other number same)) (get_or-set_same search.marks number true false within)
          | inr waits ↦ set_marks search.marks number other within (had.waiting other waits)
        ];
      };
      within = omega (arith, deeper);
    }

mark_sound : (holds : List (List ℕ)) (start depth : ℕ) (search : Search) (number : ℕ) → IsDeeper holds start depth search →
    Among (reached holds start (suc depth)) number → IsDeeper holds start depth (with_mark search number)
mark_sound holds start depth search number before among = elim (cases_Bool (is_unmarked search.marks number)) [
  | inl is ↦
      let parts = unmarked_is search.marks number is in
      subst (λ free. IsDeeper holds start depth (if free then marked_one search number else search)) (sym is)
      (one_sound holds start depth search number parts.0 parts.1 before among)
  | inr is ↦ subst (λ free. IsDeeper holds start depth (if free then marked_one search number else search)) (sym is) before
]

marks_sound : (holds : List (List ℕ)) (start depth : ℕ) (search : Search) (numbers : List ℕ) → IsDeeper holds start depth search →
    Leads holds start depth numbers → IsDeeper holds start depth (with_marks search numbers)
marks_sound holds start depth search [] before leads = before
marks_sound holds start depth search (number ∷ numbers) before leads =
    marks_sound holds start depth (with_mark search number) numbers
    (mark_sound holds start depth search number before (leads number (among_first number numbers)))
    (λ other is. leads other (or_right (nat_eq other number) (has numbers other) is))

begun_sound : (holds : List (List ℕ)) (start : ℕ) → IsSound holds start (begun (length holds))
begun_sound holds start = record {
  len = length_replicate (length holds) false;
  depth = 0;
  counted = let count = unmarked_none (length holds) in omega (arith, count);
  sound = λ number is. absurd (none_marked (length holds) number is);
  waiting = λ number is. absurd (none_among number is);
}

pub first_searched : (holds : List (List ℕ)) (start : ℕ) (before after : Search) → before ≡ begun (length holds) →
    after ≡ with_marks before (held holds start) → IsSearched holds start after
first_searched holds start before after before_is after_is =
    let begin = begun (length holds) in
    let end = with_marks begin (held holds start) in
    subst (IsSearched holds start) (sym (after_is ∙ ap (λ it. with_marks it (held holds start)) before_is)) (record {
      sound = (marks_sound holds start 0 begin (held holds start) (record { sound = begun_sound holds start; within = omega arith }) (λ number is. reached_first holds start 0 number is)).sound;
      closed = λ number is. elim ((marks_grow begin (held holds start)).new number is) [
        | inl had ↦ absurd (none_marked (length holds) number had)
        | inr waits ↦ inl waits
      ];
      first = marks_all begin (held holds start);
    })

taken_sound : (holds : List (List ℕ)) (start : ℕ) (before taken : Search) (next : ℕ) → taken.marks ≡ before.marks → before.pending ≡ next ∷ taken.pending →
    IsSound holds start before → IsSound holds start taken
taken_sound holds start before taken next marks_are pending_is had =
    let counted = had.counted in
    let count = ap unmarked marks_are in
    record {
      len = ap length marks_are ∙ had.len;
      depth = had.depth;
      counted = omega (arith, counted, count);
      sound = λ number is. had.sound number (subst (λ marks. Marked marks number) marks_are is);
      waiting = λ number is. subst (λ marks. Marked marks number) (sym marks_are)
          (had.waiting number (subst (λ pending. Among pending number) (sym pending_is) (or_right (nat_eq number next) (has taken.pending number) is)));
    }

next_closed : (holds : List (List ℕ)) (before taken : Search) (next : ℕ) → taken.marks ≡ before.marks → before.pending ≡ next ∷ taken.pending → (number : ℕ) →
    Among before.pending number ⊎ AllMarked before.marks (held holds number) →
    Among (with_marks taken (held holds next)).pending number ⊎ AllMarked (with_marks taken (held holds next)).marks (held holds number)
next_closed holds before taken next marks_are pending_is number (inl waits) =
    elim (or_cases (nat_eq number next) (has taken.pending number) (subst (λ pending. Among pending number) pending_is waits)) [
      | inl same ↦ inr (subst (λ it. AllMarked (with_marks taken (held holds next)).marks (held holds it)) (sym (eqb-true number next same)) (marks_all taken (held holds next)))
      | inr still ↦ inl ((marks_grow taken (held holds next)).pending number still)
    ]
next_closed holds before taken next marks_are pending_is number (inr all) =
    inr (all_more taken (with_marks taken (held holds next)) (held holds number) (marks_grow taken (held holds next))
    (subst (λ marks. AllMarked marks (held holds number)) (sym marks_are) all))

pub next_searched : (holds : List (List ℕ)) (start : ℕ) (before taken after : Search) (next : ℕ) → before.pending ≡ next ∷ taken.pending →
    taken.marks ≡ before.marks → after ≡ with_marks taken (held holds next) → IsSearched holds start before → IsSearched holds start after
unfolding taken_sound
next_searched holds start before taken after next pending_is marks_are after_is searched =
    let sound = taken_sound holds start before taken next marks_are pending_is searched.sound in
    let reached_it = searched.sound.sound next (searched.sound.waiting next (subst (λ pending. Among pending next) (sym pending_is) (among_first next taken.pending))) in
    let grows = marks_grow taken (held holds next) in
    let within : searched.sound.depth ≤ searched.sound.depth = omega arith in
    subst (IsSearched holds start) (sym after_is) (record {
      sound = (marks_sound holds start searched.sound.depth taken (held holds next) (record { sound = sound; within = within })
          (λ number is. reached_next holds start searched.sound.depth next number reached_it is)).sound;
      closed = λ number is. elim (grows.new number is) [
        | inl had ↦ next_closed holds before taken next marks_are pending_is number (searched.closed number (subst (λ marks. Marked marks number) marks_are had))
        | inr waits ↦ inl waits
      ];
      first = all_more taken (with_marks taken (held holds next)) (held holds start) grows (subst (λ marks. AllMarked marks (held holds start)) (sym marks_are) searched.first);
    })

-- one less waits
pub next_smaller : (holds : List (List ℕ)) (before taken after : Search) (next : ℕ) → before.pending ≡ next ∷ taken.pending →
    taken.marks ≡ before.marks → after ≡ with_marks taken (held holds next) →
    unmarked after.marks + length after.pending < unmarked before.marks + length before.pending
next_smaller holds before taken after next pending_is marks_are after_is =
    let weight = (marks_grow taken (held holds next)).weight in
    let same = ap (λ it. unmarked it.marks + length it.pending) after_is in
    let count = ap unmarked marks_are in
    let len = ap length pending_is in
    omega (arith, weight, same, count, len)

-- ---- the end

held_within : (holds : List (List ℕ)) (by number : ℕ) → Among (held holds by) number → by < length holds
held_within holds by number is = elim (cases_Bool (nat_lt by (length holds))) [
  | inl within ↦ ltb-true by (length holds) within
  | inr outside ↦ absurd (none_among number (subst (λ numbers. Among numbers number) (get_or-eq_default holds [] (ltb-false by (length holds) outside)) is))
]

all_reached : (holds : List (List ℕ)) (start : ℕ) (search : Search) → search.pending ≡ [] → IsSearched holds start search → (depth number : ℕ) →
    Among (reached holds start depth) number → number < length search.marks → Marked search.marks number
all_reached holds start search done searched zero number is within = absurd (none_among number is)
all_reached holds start search done searched (suc depth) number is within =
    elim (among_split (held holds start) (held_by holds (reached holds start depth)) number is) [
      | inl here ↦ searched.first number here within
      | inr there ↦
          let found = held_from holds (reached holds start depth) number there in
          let by_within = subst (λ count. found.by < count) (sym searched.sound.len) (held_within holds found.by number found.directly) in
          elim (searched.closed found.by (all_reached holds start search done searched depth found.by found.among by_within)) [
            | inl waits ↦ absurd (none_among found.by (subst (λ pending. Among pending found.by) done waits))
            | inr all ↦ all number found.directly within
          ]
    ]

pub alike : (one other : Bool) → (one ≡ true → other ≡ true) → (other ≡ true → one ≡ true) → one ≡ other
alike true other there back = sym (there refl)
alike false true there back = back refl
alike false false there back = refl

first_within : (holds : List (List ℕ)) (start : ℕ) → holds_itself holds start ≡ true → start < length holds
first_within holds start is = elim (cases_Bool (nat_lt start (length holds))) [
  | inl within ↦ ltb-true start (length holds) within
  | inr outside ↦
      absurd (false≢true (sym (bare_is_free holds start (get_or-eq_default holds [] (ltb-false start (length holds) outside))) ∙ is))
]

pub searched_all : (holds : List (List ℕ)) (start : ℕ) (before after : Search) → before.pending ≡ [] → after.marks ≡ before.marks → IsSearched holds start before →
    get_or after.marks start false ≡ holds_itself holds start
searched_all holds start before after done marks_are searched =
    let counted = searched.sound.counted in
    ap (λ marks. get_or marks start false) marks_are
    ∙ alike (get_or before.marks start false) (holds_itself holds start)
    (λ marked. reached_within holds start searched.sound.depth (length holds) start (omega (arith, counted)) (searched.sound.sound start marked))
    (λ is. all_reached holds start before done searched (length holds) start is
    (subst (λ count. start < count) (sym searched.sound.len) (first_within holds start is)))
