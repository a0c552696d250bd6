-- The list of the threads that are enabled, thread by thread.
use Rattle.std.proofs.Common.{◌≡◌, ℕ, zero, suc, ◌+◌, Bool, cond, [], ◌∷◌, ◌++◌, sym, ap, ◌∙◌, add-one, add-zero, zero-add, arith}
use Rattle.std.specs.List.{filter, range_with_len}
use Rattle.std.proofs.lemmas.List.Elements.{filter-append}

range_more : (a n : ℕ) → range_with_len a (n + 1) ≡ range_with_len a n ++ (a + n) ∷ []
range_more a zero = rw add-zero
range_more a (suc n) =
    let rest = range_more (a + 1) n in
    let last : a + 1 + n ≡ a + suc n = omega arith in
    rw (add-one (suc n)) (ap (λ list. a ∷ list) (ap (range_with_len (a + 1)) (sym (add-one n)) ∙ rest ∙ ap (λ k. range_with_len (a + 1) n ++ k ∷ []) last))

-- one more number is looked at
pub filter_more : (p : ℕ → Bool) (n : ℕ) →
    filter p (range_with_len 0 (n + 1)) ≡ filter p (range_with_len 0 n) ++ cond (p n) (n ∷ []) []
filter_more p n =
    ap (filter p) (range_more 0 n) ∙ filter-append p (range_with_len 0 n) ((0 + n) ∷ []) ∙ rw zero-add
