-- Extents by their first byte, and runs of bytes one behind the other.
use Rattle.std.proofs.Common.{◌≡◌, ℕ, suc, zero, ◌+◌, ◌≤◌, Bool, true, false, cond, List, [], ◌∷◌, drop, Some, refl, ◌-◌, length, arith}
use Rattle.std.specs.Prelude.{◌==◌, ◌&&◌, not}
use Rattle.std.specs.Char.{is_ascii_digit}
use Rattle.std.specs.List.{prefix_len}
use Rattle.std.proofs.lemmas.Bool.{and_parts, not-true}
use Rattle.std.proofs.lemmas.List.Sums.{prefix_len-le-length}
use Rattle.ir_lex.specs.declared.token.TokenKind.TheVariants as kinds
use Rattle.ir_lex.specs.Bytes.{is_mark, is_word_byte, is_name_byte}
use Rattle.ir_lex.specs.Extent.{plain_extent, extent_of}
use Rattle.ir_lex.proofs.Longest.{apart}

-- a run is some bytes of it that were passed, and the run behind them
pub run_from : (bytes : List ℕ) (passed : ℕ) → passed ≤ prefix_len is_name_byte bytes
    → prefix_len is_name_byte bytes ≡ passed + prefix_len is_name_byte (drop passed bytes)
run_from bytes zero within = omega arith
run_from [] (suc passed) within = absurd (omega arith)
run_from (first ∷ rest) (suc passed) within =
    elim (is_name_byte first) as (λ b. suc passed ≤ cond b (1 + prefix_len is_name_byte rest) 0
    → cond b (1 + prefix_len is_name_byte rest) 0 ≡ suc passed + prefix_len is_name_byte (drop passed rest)) [
      | true ↦ λ some.
          let less : passed ≤ prefix_len is_name_byte rest = omega arith in
          let same : prefix_len is_name_byte rest ≡ passed + prefix_len is_name_byte (drop passed rest) = run_from rest passed less in
          omega arith
      | false ↦ λ none. absurd (omega arith)
    ] within

-- fewer bytes pass a test that is stricter
weaker : (p q : ℕ → Bool) → ((byte : ℕ) → p byte ≡ true → q byte ≡ true) → (bytes : List ℕ) → prefix_len p bytes ≤ prefix_len q bytes
weaker p q implied [] = omega arith
weaker p q implied (first ∷ rest) =
    elim (p first) as (λ b. p first ≡ b → cond b (1 + prefix_len p rest) 0 ≤ cond (q first) (1 + prefix_len q rest) 0) [
      | true ↦ λ passes.
          let less : prefix_len p rest ≤ prefix_len q rest = weaker p q implied rest in
          rw (implied first passes) (omega arith)
      | false ↦ λ _. omega arith
    ] refl

pub word_in_name : (bytes : List ℕ) → prefix_len is_word_byte bytes ≤ prefix_len is_name_byte bytes
word_in_name bytes = weaker is_word_byte is_name_byte (λ byte word. rw word refl) bytes

pub digits_in_name : (bytes : List ℕ) → prefix_len is_ascii_digit bytes ≤ prefix_len is_name_byte bytes
digits_in_name bytes = weaker is_ascii_digit is_name_byte (λ byte digit. rw digit refl) bytes

pub name_extent : (first : ℕ) (rest : List ℕ) → is_name_byte first ≡ true → extent_of first rest ≡ plain_extent first rest
unfolding extent_of
name_extent first rest name = rw name refl

pub mark_extent : (first : ℕ) (rest : List ℕ) → is_name_byte first ≡ false → (is_mark first && not (first == 33)) ≡ true
    → extent_of first rest ≡ Some (kinds.Mark, 0)
unfolding extent_of
mark_extent first rest no_name lone =
    let parts = and_parts (is_mark first) (not (first == 33)) lone in
    let no : (other : ℕ) → is_mark other ≡ false → (first == other) ≡ false = λ other. apart is_mark first other parts.0 in
    rw (parts.0, no_name, no 34 refl, no 37 refl, no 64 refl, not-true (first == 33) parts.1, no 35 refl) refl

-- the run behind some bytes of it
pub run_behind : (bytes : List ℕ) (passed : ℕ) → passed ≤ prefix_len is_name_byte bytes
    → prefix_len is_name_byte bytes - passed ≡ prefix_len is_name_byte (drop passed bytes)
run_behind bytes passed within =
    let whole : prefix_len is_name_byte bytes ≡ passed + prefix_len is_name_byte (drop passed bytes) = run_from bytes passed within in
    omega arith

pub run_within : (bytes : List ℕ) → prefix_len is_name_byte bytes ≤ length bytes
run_within = prefix_len-le-length is_name_byte
