-- What 64 bits hold of sums, products and padded sizes.
use Rattle.std.proofs.Common.{◌≡◌, ℕ, zero, suc, ◌+◌, ◌-◌, ◌*◌, ◌%◌, ◌<◌, ◌≤◌, Bool, true, false, refl, ap, ◌∙◌, sym, arith, min, max, leb-true, leb-false}
use Rattle.std.specs.Prelude.{if◌then◌else◌, nat_le}
use Rattle.std.proofs.lemmas.Nat.{mul-mod_second}
use Rattle.std.proofs.Math.Nat.{min-eq_left, min-eq_right, suc-mul}
use Rattle.ir_layout.specs.declared.extent.Overflow.{Overflow}
use Rattle.ir_layout.specs.declared.extent.Overflow.TheVariants as o
use Rattle.ir_layout.specs.Extent.{bytes_of, kept, padding}
use Rattle.ir_layout.specs.Laws.{IsAlignment, One, Two, Four, Eight, IsNext}

pub kept_sum : (overflow : Overflow) (a b : ℕ) → kept overflow (kept overflow a + kept overflow b) ≡ kept overflow (a + b)
kept_sum o.Saturating a b = omega arith
kept_sum o.Wrapping a b = omega arith

saturated_by : (test : Bool) (count size most : ℕ) → nat_le size most ≡ test → min (suc count * min size most) most ≡ min (suc count * size) most
saturated_by true count size most is = rw (min-eq_left (leb-true size most is)) refl
saturated_by false count size most is =
    let above : most < size = leb-false size most is in
    let small : most ≤ size = omega arith in
    rw (min-eq_right small, suc-mul count most, suc-mul count size) (omega arith)

saturated_product : (count size most : ℕ) → min (count * min size most) most ≡ min (count * size) most
saturated_product zero size most = omega arith
saturated_product (suc count) size most = saturated_by (nat_le size most) count size most refl

pub kept_product : (overflow : Overflow) (count size : ℕ) → kept overflow (count * kept overflow size) ≡ kept overflow (count * size)
kept_product o.Saturating count size = saturated_product count size _
kept_product o.Wrapping count size = mul-mod_second count size _

pub kept_padded : (overflow : Overflow) (size align : ℕ) → IsAlignment align →
    kept overflow (kept overflow size + padding (kept overflow size) align) ≡ kept overflow (size + padding size align)
kept_padded o.Saturating size _ One = omega arith
kept_padded o.Saturating size _ Two = omega arith
kept_padded o.Saturating size _ Four = omega arith
kept_padded o.Saturating size _ Eight = omega arith
kept_padded o.Wrapping size _ One = omega arith
kept_padded o.Wrapping size _ Two = omega arith
kept_padded o.Wrapping size _ Four = omega arith
kept_padded o.Wrapping size _ Eight = omega arith

pub kept_alignment : (overflow : Overflow) (align : ℕ) → IsAlignment align → kept overflow align ≡ align
kept_alignment o.Saturating _ One = refl
kept_alignment o.Saturating _ Two = refl
kept_alignment o.Saturating _ Four = refl
kept_alignment o.Saturating _ Eight = refl
kept_alignment o.Wrapping _ One = refl
kept_alignment o.Wrapping _ Two = refl
kept_alignment o.Wrapping _ Four = refl
kept_alignment o.Wrapping _ Eight = refl

pub kept_zero : (overflow : Overflow) → kept overflow 0 ≡ 0
kept_zero o.Saturating = refl
kept_zero o.Wrapping = refl

-- ---- alignments

pub max_alignment : (a b : ℕ) → IsAlignment a → IsAlignment b → IsAlignment (max a b)
max_alignment _ _ One One = One
max_alignment _ _ One Two = Two
max_alignment _ _ One Four = Four
max_alignment _ _ One Eight = Eight
max_alignment _ _ Two One = Two
max_alignment _ _ Two Two = Two
max_alignment _ _ Two Four = Four
max_alignment _ _ Two Eight = Eight
max_alignment _ _ Four One = Four
max_alignment _ _ Four Two = Four
max_alignment _ _ Four Four = Four
max_alignment _ _ Four Eight = Eight
max_alignment _ _ Eight One = Eight
max_alignment _ _ Eight Two = Eight
max_alignment _ _ Eight Four = Eight
max_alignment _ _ Eight Eight = Eight

either : (test : Bool) (a b : ℕ) → IsAlignment a → IsAlignment b → IsAlignment (if test then a else b)
either true a b first second = first
either false a b first second = second

pub bytes_alignment : (bits : ℕ) → IsAlignment (bytes_of bits)
bytes_alignment bits = either _ _ _ Two (either _ _ _ Four (either _ _ _ Eight One))

pub next_place : (end align : ℕ) → IsAlignment align → IsNext false end (end + padding end align) align
next_place end _ One = (omega arith, omega arith, omega arith)
next_place end _ Two = (omega arith, omega arith, omega arith)
next_place end _ Four = (omega arith, omega arith, omega arith)
next_place end _ Eight = (omega arith, omega arith, omega arith)

pub repeated_multiple : (count size align : ℕ) → size % align ≡ 0 → (count * size) % align ≡ 0
repeated_multiple count size align is = sym (mul-mod_second count size align) ∙ rw is (omega arith)
