-- Whose literals can be made false one after the other.
use Rattle.std.proofs.Common.{◌≡◌, ◌≢◌, ℕ, suc, ◌+◌, ◌<◌, ◌==◌, ℤ, unsigned_abs, Bool, true, false, cond, not, List, [], ◌∷◌, length, get_or, set, None, refl, ap, ◌∙◌, sym, arith, get_or-set_same, get_or-set_other, length-set}
use Rattle.std.specs.Prelude.{IsSome}
use Rattle.std.specs.List.{AllByRecursion, IsDistinct}
use Rattle.std.proofs.lemmas.List.{length-replicate}
use Rattle.std.proofs.lemmas.List.Elements.{All-cons, All-nil}
use Rattle.std.proofs.lemmas.Bool.{eqb-true, eq-eqb}
use Rattle.std.proofs.lemmas.Bool.Decides.{nat_tests}
use Rattle.refutation.specs.Literal.{IsClause, IsLiteral, sign, variables}
use Rattle.refutation.specs.Marks.{falsified, is_new, made_false, mark_of, zeros}
use Rattle.refutation.specs.Model.{ClausesAreTested}
use Rattle.refutation.proofs.Soundness.{nothing_known}

-- nothing is known of these variables
abbrev Unset : List ℕ → List ℕ → Type 0
Unset marks ns = AllByRecursion (λ n. get_or marks n 0 ≡ 0) ns

-- none of these variables is that one
abbrev Apart : ℕ → List ℕ → Type 0
Apart at ns = AllByRecursion (λ n. (at == n) ≡ false) ns

differ : (a b : ℕ) → (a == b) ≡ false → b ≢ a
differ a b e same = let t : (a == b) ≡ true = eq-eqb a b (sym same) in absurd (cc)

still-unset : (marks : List ℕ) (at mark : ℕ) (ns : List ℕ) → Apart at ns → Unset marks ns → Unset (set marks at mark) ns
still-unset marks at mark [] apart unset = tt
still-unset marks at mark (n ∷ ns) apart unset =
    (get_or-set_other marks at n mark 0 (differ at n apart.0) ∙ unset.0, still-unset marks at mark ns apart.1 unset.1)

was-unset : (marks : List ℕ) (at mark : ℕ) (ns : List ℕ) → Apart at ns → Unset (set marks at mark) ns → Unset marks ns
was-unset marks at mark [] apart unset = tt
was-unset marks at mark (n ∷ ns) apart unset =
    (sym (get_or-set_other marks at n mark 0 (differ at n apart.0)) ∙ unset.0, was-unset marks at mark ns apart.1 unset.1)

are-apart : (marks : List ℕ) (at mark : ℕ) (ns : List ℕ) → at < length marks → 0 < mark → Unset (set marks at mark) ns → Apart at ns
are-apart marks at mark [] within some unset = tt
are-apart marks at mark (n ∷ ns) within some unset = (by (at == n) refl, are-apart marks at mark ns within some unset.1)
  where
    by : (t : Bool) → (at == n) ≡ t → t ≡ false
    by true e = let here = get_or-set_same marks at mark 0 within in
        let same : at ≡ n = eqb-true at n e in
        let none : mark ≡ 0 = sym here ∙ ap (λ k. get_or (set marks at mark) k 0) same ∙ unset.0 in absurd (omega arith)
    by false e = refl

some_mark : (b : Bool) → 0 < mark_of b
some_mark true = omega arith
some_mark false = omega arith

new-true : (vars : ℕ) (marks : List ℕ) (literal : ℤ) → IsLiteral vars literal → get_or marks (unsigned_abs literal) 0 ≡ 0 →
    is_new vars marks literal ≡ true
new-true vars marks literal is unset = grind (arith, nat_tests, is.0, is.1, unset)

new-parts : (vars : ℕ) (marks : List ℕ) (literal : ℤ) → is_new vars marks literal ≡ true →
    IsLiteral vars literal × (get_or marks (unsigned_abs literal) 0 ≡ 0)
new-parts vars marks literal e = grind (arith, nat_tests, e)

tail : (vars : ℕ) (literal : ℤ) (clause : List ℤ) → IsClause vars (literal ∷ clause) → IsClause vars clause
unfolding IsDistinct
tail vars literal clause is = ((λ k d h. is.0 (suc k) d (omega (arith, h))), is.1.1)

can : (vars : ℕ) (clause : List ℤ) (marks : List ℕ) → IsClause vars clause → Unset marks (variables clause) →
    IsSome (falsified vars clause marks)
unfolding falsified IsDistinct
can vars [] marks is unset = refl
can vars (literal ∷ clause) marks is unset =
    rw (new-true vars marks literal (is.0 0 literal (omega arith)) unset.0)
    (can vars clause (made_false literal marks) (tail vars literal clause is)
    (still-unset marks (unsigned_abs literal) (mark_of (not (sign literal))) (variables clause) is.1.0 unset.1))

are-cons : (vars : ℕ) (literal : ℤ) (clause : List ℤ) (marks : List ℕ) (t : Bool) → length marks ≡ vars + 1 → is_new vars marks literal ≡ t →
    (IsSome (falsified vars clause (made_false literal marks)) → IsClause vars clause × Unset (made_false literal marks) (variables clause)) →
    IsSome (cond t (falsified vars clause (made_false literal marks)) None) → IsClause vars (literal ∷ clause) × Unset marks (variables (literal ∷ clause))
unfolding IsDistinct
are-cons vars literal clause marks true long e next some =
    let new = new-parts vars marks literal e in
    let rest = next some in
    let apart = are-apart marks (unsigned_abs literal) (mark_of (not (sign literal))) (variables clause)
    (omega (arith, new.0.1, long)) (some_mark (not (sign literal))) rest.1 in (
      (All-cons (IsLiteral vars) literal clause new.0 rest.0.0, (apart, rest.0.1)),
      (new.1, was-unset marks (unsigned_abs literal) (mark_of (not (sign literal))) (variables clause) apart rest.1),
    )
are-cons vars literal clause marks false long e next some = absurd (cc)

are : (vars : ℕ) (clause : List ℤ) (marks : List ℕ) → length marks ≡ vars + 1 → IsSome (falsified vars clause marks) →
    IsClause vars clause × Unset marks (variables clause)
unfolding falsified IsDistinct
are vars [] marks long some = ((All-nil (IsLiteral vars), tt), tt)
are vars (literal ∷ clause) marks long some =
    are-cons vars literal clause marks (is_new vars marks literal) long refl
    (are vars clause (made_false literal marks) (length-set marks (unsigned_abs literal) (mark_of (not (sign literal))) ∙ long)) some

all-unset : (vars : ℕ) (ns : List ℕ) → Unset (zeros vars) ns
all-unset vars [] = tt
all-unset vars (n ∷ ns) = (nothing_known vars n, all-unset vars ns)

pub clauses-tested : ClausesAreTested
clauses-tested vars clause = (
  (λ some. (are vars clause (zeros vars) (length-replicate {A = ℕ} (vars + 1) 0) some).0),
  (λ is. can vars clause (zeros vars) is (all-unset vars (variables clause))),
)
