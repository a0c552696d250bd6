-- Bytes that are written are there, spell the number that they are the bytes of, and leave all others.
use Rattle.std.proofs.Common.{◌≡◌, ◌≢◌, ℕ, zero, suc, ◌+◌, ◌*◌, ◌/◌, ◌%◌, ◌^◌, ◌<◌, ◌≤◌, max, Bool, true, false, leb, eqb, List, [], ◌∷◌, ◌++◌, length, take, drop, refl, sym, ap, ◌∙◌, arith, length-append, length-drop, append_assoc, add-zero}
use Rattle.std.proofs.Math.Arith.{mod-mul}
use Rattle.std.proofs.Math.Nat.{mod-one, pow-suc}
use Rattle.std.proofs.Math.Seq.{drop-append_seam, take-append_seam}
use Rattle.std.proofs.lemmas.Bool.{eqb-false, eqb-true, leb-false, leb-true}
use Rattle.std.proofs.lemmas.List.{append-nil, drop-drop, drop-take, length-take-le, take-append-drop, take-append-le, take-take}
use Rattle.std.proofs.lemmas.Slice.{drop-put_mid}
use Rattle.machine_model.specs.Memory.{bytes_of, number_of, overwritten}

pub length-bytes_of : (len number : ℕ) → length (bytes_of len number) ≡ len
unfolding bytes_of
length-bytes_of zero number = refl
length-bytes_of (suc len) number = ap suc (length-bytes_of len (number / 256))

power-positive : (len : ℕ) → 0 < 256 ^ len
power-positive zero = omega arith
power-positive (suc len) = let more = pow-suc 256 len in let some = power-positive len in omega arith

digits-swap : (digits low number : ℕ) → number ≡ digits * 256 + low → low + 256 * digits ≡ number
digits-swap digits low number is = omega arith

-- the digits of a number to the base 256 spell its lowest bytes
pub number_of-bytes_of : (len number : ℕ) → number_of (bytes_of len number) ≡ number % 256 ^ len
unfolding bytes_of
number_of-bytes_of zero number = sym (mod-one number)
number_of-bytes_of (suc len) number =
    let some = power-positive len in
    let rest = number_of-bytes_of len (number / 256) in
    let split = mod-mul number {m = 256 ^ len} {c = 256} some (omega arith) in
    ap (λ digits. number % 256 + 256 * digits) rest
    ∙ digits-swap (number / 256 % 256 ^ len) (number % 256) (number % 256 ^ suc len)
    (ap (λ bound. number % bound) (pow-suc 256 len) ∙ split)

-- the bytes that were written are there
pub taken-overwritten : (bytes others : List ℕ) (at : ℕ) → at ≤ length bytes →
    take (length others) (drop at (overwritten bytes at others)) ≡ others
taken-overwritten bytes others at within =
    let tail = drop (at + length others) bytes in
    let long : length (take at bytes) ≡ at = length-take-le at bytes within in
    let parts : overwritten bytes at others ≡ take at bytes ++ (others ++ tail) = append_assoc (take at bytes) others tail in
    ap (λ all. take (length others) (drop at all)) parts
    ∙ ap (λ n. take (length others) (drop n (take at bytes ++ (others ++ tail)))) (sym long)
    ∙ ap (take (length others)) (drop-append_seam (take at bytes) (others ++ tail))
    ∙ take-append_seam others tail

pub length-overwritten : (bytes others : List ℕ) (at : ℕ) → at + length others ≤ length bytes →
    length (overwritten bytes at others) ≡ length bytes
length-overwritten bytes others at within =
    let long : length (take at bytes) ≡ at = length-take-le at bytes (omega arith) in
    rw (length-append (take at bytes ++ others) (drop (at + length others) bytes), length-append (take at bytes) others, length-drop, long) (omega arith)

-- the bytes of a range that has no place in common with the written one stay
module _ (bytes others : List ℕ) (at from count : ℕ) where
  kept-before : at ≤ length bytes → from + count ≤ at →
      take count (drop from (overwritten bytes at others)) ≡ take count (drop from bytes)
  kept-before within before =
      let tail = drop (at + length others) bytes in
      let long : length (take at bytes) ≡ at = length-take-le at bytes within in
      sym (drop-take from count (overwritten bytes at others))
      ∙ ap (λ all. drop from (take (from + count) all)) (append_assoc (take at bytes) others tail)
      ∙ ap (drop from) (take-append-le (from + count) (take at bytes) (others ++ tail) (omega arith) ∙ take-take (from + count) at bytes before)
      ∙ drop-take from count bytes

  kept-behind : at ≤ length bytes → at + length others ≤ from →
      take count (drop from (overwritten bytes at others)) ≡ take count (drop from bytes)
  kept-behind within behind =
      let tail = drop (at + length others) bytes in
      let put = drop-put_mid at (length others) bytes others from behind within refl in
      ap (λ all. take count (drop from all)) (append_assoc (take at bytes) others tail)
      ∙ ap (λ last. take count (drop from (take at bytes ++ (others ++ last)))) (sym (drop-drop (length others) at bytes))
      ∙ ap (take count) put

  kept-with_none : length others ≡ 0 →
      take count (drop from (overwritten bytes at others)) ≡ take count (drop from bytes)
  kept-with_none none = of_others others none
    where
      of_others : (list : List ℕ) → length list ≡ 0 →
          take count (drop from (overwritten bytes at list)) ≡ take count (drop from bytes)
      of_others [] none = simp (append-nil, add-zero, take-append-drop)
      of_others (byte ∷ list) none = absurd (omega arith)

pub kept-overwritten : (bytes others : List ℕ) (at from count : ℕ) → at ≤ length bytes →
    ((place : ℕ) → from ≤ place → place < from + count → at ≤ place → place < at + length others → ⊥) →
    take count (drop from (overwritten bytes at others)) ≡ take count (drop from bytes)
kept-overwritten bytes others at from zero within apart = refl
kept-overwritten bytes others at from (suc count) within apart =
    of_tests (leb (from + suc count) at) (leb (at + length others) from) (eqb (length others) 0) refl refl refl
  where
    of_tests : (before behind none : Bool) → leb (from + suc count) at ≡ before → leb (at + length others) from ≡ behind →
        eqb (length others) 0 ≡ none →
        take (suc count) (drop from (overwritten bytes at others)) ≡ take (suc count) (drop from bytes)
    of_tests true behind none h i j = kept-before bytes others at from (suc count) within (leb-true (from + suc count) at h)
    of_tests false true none h i j = kept-behind bytes others at from (suc count) within (leb-true (at + length others) from i)
    of_tests false false true h i j = kept-with_none bytes others at from (suc count) (eqb-true (length others) 0 j)
    of_tests false false false h i j =
        let early : at < from + suc count = leb-false (from + suc count) at h in
        let late : from < at + length others = leb-false (at + length others) from i in
        let some : length others ≢ 0 = eqb-false (length others) 0 j in
        absurd (apart (max at from) (omega arith) (omega arith) (omega arith) (omega arith))
