-- Walks over lists of blocks.
use Rattle.std.proofs.Common.{◌≡◌, ◌∙◌, ℕ, ◌+◌, ◌<◌, Bool, true, false, not, cond, ◌||◌, nat_eq, List, [], ◌∷◌, ◌++◌, length, get_or, drop, drop-cons, add-one, refl, sym, ap, arith}
use Rattle.std.proofs.lemmas.Bool.Decides.{nat_tests}
use Rattle.std.specs.BTreeMap.{is_at}
use Rattle.std.specs.Ordering.{nat_cmp}
use Rattle.module_check.specs.Phis.{has, lacks}
use Rattle.module_check.specs.Predecessors.{no_predecessors}

pub one_more : (blocks : ℕ) → no_predecessors (blocks + 1) ≡ no_predecessors blocks ++ [] ∷ []
one_more blocks = rw (add-one) refl

-- ---- a set of blocks

has_step : (blocks : List ℕ) (i one : ℕ) → i < length blocks →
    has (drop i blocks) one ≡ (nat_eq (get_or blocks i 0) one || has (drop (i + 1) blocks) one)
has_step blocks i one within = rw (add-one, drop-cons blocks i 0) refl

put_in : (before hit rest : Bool) → (before || (hit || rest)) ≡ (cond hit true before || rest)
put_in true true rest = refl
put_in true false rest = refl
put_in false true rest = refl
put_in false false rest = refl

same_test : (block one : ℕ) → is_at (nat_cmp block) one ≡ nat_eq block one
same_test block one = grind (arith, nat_tests)

pub set_more : (blocks : List ℕ) (i one : ℕ) (before after all : Bool) → i < length blocks →
    after ≡ cond (is_at (nat_cmp (get_or blocks i 0)) one) true before →
    (before || has (drop i blocks) one) ≡ all → (after || has (drop (i + 1) blocks) one) ≡ all
set_more blocks i one before after all within is is_all =
    ap (λ has_it. has_it || has (drop (i + 1) blocks) one) (is ∙ ap (λ hit. cond hit true before) (same_test (get_or blocks i 0) one))
    ∙ sym (put_in before (nat_eq (get_or blocks i 0) one) (has (drop (i + 1) blocks) one))
    ∙ ap (λ has_it. before || has_it) (sym (has_step blocks i one within))
    ∙ is_all

-- ---- a block that is lacking

lacks_step : (blocks edges : List ℕ) (i : ℕ) → i < length blocks →
    lacks (drop i blocks) edges ≡ (not (has edges (get_or blocks i 0)) || lacks (drop (i + 1) blocks) edges)
lacks_step blocks edges i within = rw (add-one, drop-cons blocks i 0) refl

lacks_by : (blocks edges : List ℕ) (i : ℕ) (known : Bool) → i < length blocks → known ≡ has edges (get_or blocks i 0) →
    lacks (drop i blocks) edges ≡ (not known || lacks (drop (i + 1) blocks) edges)
lacks_by blocks edges i known within is =
    lacks_step blocks edges i within ∙ ap (λ has_it. not has_it || lacks (drop (i + 1) blocks) edges) (sym is)

pub lacks_none_here : (blocks edges : List ℕ) (i : ℕ) (known all : Bool) → i < length blocks → known ≡ has edges (get_or blocks i 0) →
    known ≡ true → lacks (drop i blocks) edges ≡ all → lacks (drop (i + 1) blocks) edges ≡ all
lacks_none_here blocks edges i known all within is found is_all =
    ap (λ has_it. not has_it || lacks (drop (i + 1) blocks) edges) (sym found) ∙ sym (lacks_by blocks edges i known within is) ∙ is_all

pub lacks_here : (blocks edges : List ℕ) (i : ℕ) (known all : Bool) → i < length blocks → known ≡ has edges (get_or blocks i 0) →
    known ≡ false → lacks (drop i blocks) edges ≡ all → true ≡ all
lacks_here blocks edges i known all within is missed is_all =
    ap (λ has_it. not has_it || lacks (drop (i + 1) blocks) edges) (sym missed) ∙ sym (lacks_by blocks edges i known within is) ∙ is_all
