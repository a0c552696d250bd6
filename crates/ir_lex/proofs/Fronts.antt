-- Bytes of a class at the front of a list, and what follows them.
use Rattle.std.proofs.Common.{◌≡◌, ℕ, zero, suc, ◌+◌, ◌≤◌, Bool, true, false, cond, List, [], ◌∷◌, ◌++◌, length, take, drop, slice_index, inl, inr, refl, sym, ap, arith}
use Rattle.std.proofs.Math.Numerals.{one-add}
use Rattle.std.specs.Prelude.{◌==◌, ◌⊎◌}
use Rattle.std.specs.List.{prefix_len, list_all}
use Rattle.std.proofs.lemmas.Bool.{and_parts, eqb-true, eq-eqb}
use Rattle.ir_lex.specs.Token.{ends}

-- all that pass are counted, however the list goes on
pub run_at_least : (p : ℕ → Bool) (xs back : List ℕ) → list_all p xs ≡ true → length xs ≤ prefix_len p (xs ++ back)
run_at_least p [] back all = omega arith
run_at_least p (first ∷ xs) back all =
    let parts = and_parts (p first) (list_all p xs) all in
    let rest = run_at_least p xs back parts.1 in
    rw parts.0 (omega arith)

-- and no more where the next one stops them
pub run_stops : (p : ℕ → Bool) (xs : List ℕ) (stop : ℕ) (back : List ℕ) → list_all p xs ≡ true → p stop ≡ false → prefix_len p (xs ++ stop ∷ back) ≡ length xs
run_stops p [] stop back all stops = rw stops refl
run_stops p (first ∷ xs) stop back all stops =
    let parts = and_parts (p first) (list_all p xs) all in
    let rest = run_stops p xs stop back parts.1 stops in
    rw parts.0 (omega arith)

pub at_stop : (xs : List ℕ) (stop : ℕ) (back : List ℕ) → slice_index (xs ++ stop ∷ back) (length xs) ≡ stop
at_stop [] stop back = refl
at_stop (first ∷ xs) stop back = at_stop xs stop back

pub at_next : (xs : List ℕ) (stop byte : ℕ) (back : List ℕ) → slice_index (xs ++ stop ∷ byte ∷ back) (suc (length xs)) ≡ byte
at_next [] stop byte back = refl
at_next (first ∷ xs) stop byte back = at_next xs stop byte back

pub all_weaken : (p q : ℕ → Bool) (xs : List ℕ) → ((x : ℕ) → p x ≡ true → q x ≡ true) → list_all p xs ≡ true → list_all q xs ≡ true
all_weaken p q [] weaker all = refl
all_weaken p q (first ∷ xs) weaker all =
    let parts = and_parts (p first) (list_all p xs) all in rw (weaker first parts.0) (all_weaken p q xs weaker parts.1)

pub all_end : (p : ℕ → Bool) (xs : List ℕ) (last : ℕ) → list_all p xs ≡ true → p last ≡ true → list_all p (xs ++ last ∷ []) ≡ true
all_end p [] last all passes = rw passes refl
all_end p (first ∷ xs) last all passes =
    let parts = and_parts (p first) (list_all p xs) all in rw (parts.0) (all_end p xs last parts.1 passes)

-- those that are counted pass
pub run_passes : (p : ℕ → Bool) (xs : List ℕ) → list_all p (take (prefix_len p xs) xs) ≡ true
run_passes p [] = refl
run_passes p (first ∷ xs) =
    elim (p first) as (λ b. p first ≡ b → list_all p (take (cond b (1 + prefix_len p xs) 0) (first ∷ xs)) ≡ true) [
      | true ↦ λ yes. rw (one-add, yes) (run_passes p xs)
      | false ↦ λ _. refl
    ] refl

-- and no more stand behind them
pub run_ends : (p : ℕ → Bool) (xs : List ℕ) → prefix_len p (drop (prefix_len p xs) xs) ≡ 0
run_ends p [] = refl
run_ends p (first ∷ xs) =
    elim (p first) as (λ b. p first ≡ b → prefix_len p (drop (cond b (1 + prefix_len p xs) 0) (first ∷ xs)) ≡ 0) [
      | true ↦ λ _. rw one-add (run_ends p xs)
      | false ↦ λ stops. rw stops refl
    ] refl

-- a list that is too short to take so many has none left
pub taken : (xs : List ℕ) (n : ℕ) → (length (take n xs) ≡ n) ⊎ (drop n xs ≡ [])
taken [] zero = inl refl
taken [] (suc n) = inr refl
taken (first ∷ xs) zero = inl refl
taken (first ∷ xs) (suc n) = elim (taken xs n) [ inl whole ↦ inl (ap (λ (k : ℕ). suc k) whole) | inr none ↦ inr none ]

-- a text that passes and a last byte
pub ends_split : (byte : ℕ) (passes : List ℕ → Bool) (text : List ℕ) → ends byte passes text ≡ true
    → (front : List ℕ) × (text ≡ front ++ byte ∷ []) × (passes front ≡ true)
ends_split byte passes [] never = absurd (cc)
ends_split byte passes (first ∷ []) both =
    let parts = and_parts (passes []) (first == byte) both in
    ([], ap (λ (b : ℕ). b ∷ []) (eqb-true first byte parts.1), parts.0)
ends_split byte passes (first ∷ second ∷ rest) more =
    let split = ends_split byte (λ front. passes (first ∷ front)) (second ∷ rest) more in
    (first ∷ split.0, ap (λ (text : List ℕ). first ∷ text) split.1, split.2)

pub ends_joined : (byte : ℕ) (passes : List ℕ → Bool) (front : List ℕ) → passes front ≡ true → ends byte passes (front ++ byte ∷ []) ≡ true
ends_joined byte passes [] passing = rw (passing, eq-eqb byte byte refl) refl
ends_joined byte passes (first ∷ []) passing = ends_joined byte (λ front. passes (first ∷ front)) [] passing
ends_joined byte passes (first ∷ second ∷ rest) passing = ends_joined byte (λ front. passes (first ∷ front)) (second ∷ rest) passing

-- the byte at an index, behind those before it
pub take_next : (xs : List ℕ) (n byte : ℕ) → (byte ≡ 0 → ⊥) → slice_index xs n ≡ byte → take (suc n) xs ≡ take n xs ++ byte ∷ []
take_next [] n byte some is = absurd (some (sym is))
take_next (first ∷ xs) zero byte some is = ap (λ (b : ℕ). b ∷ []) is
take_next (first ∷ xs) (suc n) byte some is = ap (λ (text : List ℕ). first ∷ text) (take_next xs n byte some is)
