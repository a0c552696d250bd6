use Rattle.std.proofs.Common.{◌≡◌, ℕ, ◌^◌, ◌<◌, true, min, List, Result, Err, inl, inr, arith, rules}
use Rattle.std.specs.Str.Parse.{ParsesUnsigned, digits_value}
use Rattle.std.proofs.lemmas.Bool.{cases_lt}
use Rattle.std.proofs.lemmas.Fmt.{IsAscii-from_digits}
use Rattle.std.proofs.lemmas.Str.{IsUtf8-from_ascii}
use Rattle.std.proofs.lemmas.Str.Parse.{parse_digits}
use Rattle.text_lines.specs.Number.{cut, is_numeral}
use Rattle.text_lines.proofs.Decimals.{numeral_parts, own}
use Rattle.text_lines.proofs.number.cut_value.Goals as goal

past_cut : (value : ℕ) → (value < 2 ^ 64 → ⊥) → cut ≡ min value cut
past_cut value large = elim (cases_lt value (2 ^ 64)) [ inl low ↦ absurd (large low) | inr high ↦ omega arith ]

unread : {E : Type 0} (digits text : List ℕ) (r : Result ℕ E) (error : E) → is_numeral digits ≡ true → text ≡ digits →
    ParsesUnsigned 64 10 text r → r ≡ Err error → cut ≡ min (digits_value 10 digits) cut
unread digits text r error numeral same parses is =
    let parts = numeral_parts digits numeral in
    past_cut (digits_value 10 digits)
    (λ low. (rw is at (parse_digits own 64 digits r (rw same at parses) parts.0)) (parts.1, low))

pub returns-in_default : goal.returns-in_default
returns-in_default c =
    let digits = (numeral_parts c.args.digits.now (search rules)).0 in
    absurd ((c.in_default.ensures.cases).0 (IsUtf8-from_ascii c.args.digits.now (IsAscii-from_digits c.args.digits.now (own.to c.args.digits.now digits))))

pub returns-in-Err : goal.returns-in-Err
returns-in-Err c =
    unread c.args.digits.now c.in-Ok.text.now c.parse.result c.in-Err.field-0 (search rules) (c.in-Ok.ensures.cases).0 (c.parse.ensures.value).0 c.in-Err.is
