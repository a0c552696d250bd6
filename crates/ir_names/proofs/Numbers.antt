-- The number that digits spell, digit by digit.
use Rattle.std.proofs.Common.{⊎_elim, cond, ◌≡◌, ℕ, ◌+◌, ◌-◌, ◌*◌, ◌^◌, ◌<◌, ◌≤◌, List, [], ◌∷◌, ◌++◌, length, min, take, get_or, ap, sym, ◌∙◌, arith, zero, suc}
use Rattle.std.proofs.Math.Seq.{take-length}
use Rattle.std.proofs.lemmas.Bool.{cases_lt, le-ltb, lt-ltb}
use Rattle.std.proofs.lemmas.Bool.Decides.{nat_tests}
use Rattle.std.proofs.lemmas.List.{take_more}
use Rattle.std.proofs.lemmas.List.Sums.{fold-append}
use Rattle.std.specs.Ordering.{nat_cmp}
use Rattle.ir_names.specs.Number.{digit_at, digit_of, front_of, lead_of, value_of}

-- one more digit
pub value_push : (digits : List ℕ) (byte : ℕ) → value_of (digits ++ byte ∷ []) ≡ 10 * value_of digits + digit_of byte
value_push digits byte = fold-append (λ number b. 10 * number + digit_of b) 0 digits (byte ∷ [])

front_within : (digits : List ℕ) (behind : ℕ) → behind < length digits →
    front_of digits behind ≡ 10 * front_of digits (behind + 1) + digit_of (get_or digits (length digits - 1 - behind) 0)
front_within digits behind within =
    let first : length digits - behind ≡ (length digits - (behind + 1)) + 1 = omega arith in
    let inside : length digits - (behind + 1) < length digits = omega arith in
    let same : length digits - (behind + 1) ≡ length digits - 1 - behind = omega arith in
    ap (λ k. value_of (take k digits)) first
    ∙ ap value_of (take_more digits (length digits - (behind + 1)) 0 inside)
    ∙ value_push (take (length digits - (behind + 1)) digits) (get_or digits (length digits - (behind + 1)) 0)
    ∙ ap (λ k. 10 * front_of digits (behind + 1) + digit_of (get_or digits k 0)) same

front_past : (digits : List ℕ) (behind : ℕ) → length digits ≤ behind → front_of digits behind ≡ 10 * front_of digits (behind + 1) + 0
front_past digits behind past =
    let here : length digits - behind ≡ 0 = omega arith in
    let before : length digits - (behind + 1) ≡ 0 = omega arith in
    ap (λ k. value_of (take k digits)) here ∙ ap (λ k. 10 * value_of (take k digits) + 0) (sym before)

pub front_step : (digits : List ℕ) (behind : ℕ) → front_of digits behind ≡ 10 * front_of digits (behind + 1) + digit_at digits behind
front_step digits behind = ⊎_elim
    (λ within. front_within digits behind within ∙ ap (λ b. 10 * front_of digits (behind + 1) + cond b (digit_of (get_or digits (length digits - 1 - behind) 0)) 0) (sym (lt-ltb _ _ within)))
    (λ past. front_past digits behind past ∙ ap (λ b. 10 * front_of digits (behind + 1) + cond b (digit_of (get_or digits (length digits - 1 - behind) 0)) 0) (sym (le-ltb _ _ past)))
    (cases_lt behind (length digits))

pub lead_step : (m n x y : ℕ) → x ≤ 9 → y ≤ 9 → min (10 * lead_of m n + x - (y + 9 * 2 ^ 64)) (2 ^ 65) ≡ lead_of (10 * m + x) (10 * n + y)
lead_step m n x y small_x small_y = omega arith

-- a lead that is the least or the most stays so, whatever digits follow
low_stays : (m n x y : ℕ) → x ≤ 9 → lead_of m n ≡ 0 → lead_of (10 * m + x) (10 * n + y) ≡ 0
low_stays m n x y small low = omega arith

high_stays : (m n x y : ℕ) → y ≤ 9 → lead_of m n ≡ 2 ^ 65 → lead_of (10 * m + x) (10 * n + y) ≡ 2 ^ 65
high_stays m n x y small high = omega arith

pub digit_small : (digits : List ℕ) (behind : ℕ) → digit_at digits behind ≤ 9
digit_small digits behind = grind (arith, nat_tests)

whole : (digits : List ℕ) → front_of digits 0 ≡ value_of digits
whole digits =
    let all : length digits - 0 ≡ length digits = omega arith in
    ap (λ k. value_of (take k digits)) all ∙ ap value_of (take-length digits)

front_suc : (digits : List ℕ) (behind : ℕ) → front_of digits behind ≡ 10 * front_of digits (suc behind) + digit_at digits behind
front_suc digits behind =
    let more : behind + 1 ≡ suc behind = omega arith in
    front_step digits behind ∙ ap (λ k. 10 * front_of digits k + digit_at digits behind) more

low_lasts : (digits others : List ℕ) (behind : ℕ) → lead_of (front_of digits behind) (front_of others behind) ≡ 0 →
    lead_of (front_of digits 0) (front_of others 0) ≡ 0
low_lasts digits others zero low = low
low_lasts digits others (suc behind) low =
    let next = low_stays (front_of digits (suc behind)) (front_of others (suc behind)) (digit_at digits behind) (digit_at others behind) (digit_small digits behind) low in
    low_lasts digits others behind (ap (λ k. lead_of k (front_of others behind)) (front_suc digits behind) ∙ ap (lead_of (10 * front_of digits (suc behind) + digit_at digits behind)) (front_suc others behind) ∙ next)

high_lasts : (digits others : List ℕ) (behind : ℕ) → lead_of (front_of digits behind) (front_of others behind) ≡ 2 ^ 65 →
    lead_of (front_of digits 0) (front_of others 0) ≡ 2 ^ 65
high_lasts digits others zero high = high
high_lasts digits others (suc behind) high =
    let next = high_stays (front_of digits (suc behind)) (front_of others (suc behind)) (digit_at digits behind) (digit_at others behind) (digit_small others behind) high in
    high_lasts digits others behind (ap (λ k. lead_of k (front_of others behind)) (front_suc digits behind) ∙ ap (lead_of (10 * front_of digits (suc behind) + digit_at digits behind)) (front_suc others behind) ∙ next)

pub lead_low : (digits others : List ℕ) (lead behind : ℕ) → lead ≤ 0 → lead ≡ lead_of (front_of digits behind) (front_of others behind) →
    lead ≡ lead_of (value_of digits) (value_of others)
lead_low digits others lead behind least is =
    let none : lead ≡ 0 = omega arith in
    none ∙ sym (low_lasts digits others behind (sym is ∙ none))
    ∙ ap (λ k. lead_of k (front_of others 0)) (whole digits) ∙ ap (lead_of (value_of digits)) (whole others)

pub lead_high : (digits others : List ℕ) (lead behind : ℕ) → 2 ^ 65 ≤ lead → lead ≡ lead_of (front_of digits behind) (front_of others behind) →
    lead ≡ lead_of (value_of digits) (value_of others)
lead_high digits others lead behind greatest is =
    let most : lead ≡ 2 ^ 65 = omega arith in
    most ∙ sym (high_lasts digits others behind (sym is ∙ most))
    ∙ ap (λ k. lead_of k (front_of others 0)) (whole digits) ∙ ap (lead_of (value_of digits)) (whole others)

pub lead_next : (digits others : List ℕ) (behind lead x y next : ℕ) → 0 < behind →
    lead ≡ lead_of (front_of digits behind) (front_of others behind) →
    x ≡ digit_at digits (behind - 1) → y ≡ digit_at others (behind - 1) → x ≤ 9 → y ≤ 9 →
    next ≡ min (10 * lead + x - (y + 9 * 2 ^ 64)) (2 ^ 65) → next ≡ lead_of (front_of digits (behind - 1)) (front_of others (behind - 1))
lead_next digits others behind lead x y next some before is_x is_y small_x small_y is_next =
    let back : behind - 1 + 1 ≡ behind = omega arith in
    let digits_step : front_of digits (behind - 1) ≡ 10 * front_of digits behind + x = front_step digits (behind - 1) ∙ ap (λ k. 10 * front_of digits k + digit_at digits (behind - 1)) back ∙ ap (λ k. 10 * front_of digits behind + k) (sym is_x) in
    let others_step : front_of others (behind - 1) ≡ 10 * front_of others behind + y = front_step others (behind - 1) ∙ ap (λ k. 10 * front_of others k + digit_at others (behind - 1)) back ∙ ap (λ k. 10 * front_of others behind + k) (sym is_y) in
    is_next ∙ ap (λ k. min (10 * k + x - (y + 9 * 2 ^ 64)) (2 ^ 65)) before
    ∙ lead_step (front_of digits behind) (front_of others behind) x y small_x small_y
    ∙ ap (λ k. lead_of k (10 * front_of others behind + y)) (sym digits_step)
    ∙ ap (lead_of (front_of digits (behind - 1))) (sym others_step)

pub lead_tells : (m n a b : ℕ) → a < 2 ^ 64 → b < 2 ^ 64 → nat_cmp (lead_of m n + a) (2 ^ 64 + b) ≡ nat_cmp (m + a) (n + b)
lead_tells m n a b small_a small_b = grind (arith, nat_tests)
