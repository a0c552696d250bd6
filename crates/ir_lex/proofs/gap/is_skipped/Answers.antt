use Rattle.std.proofs.Common.{refl, sym, ◌∙◌}
use Rattle.ir_lex.proofs.Gaps.{skipped_metadata, skipped_source, skipped_target, skipped_attributes, skipped_record, skipped_call, skipped_declare}
use Rattle.ir_lex.proofs.gap.is_skipped.Goals as goal

pub returns-in-33 : goal.returns-in-33
returns-in-33 c = sym (skipped_metadata _ _ _ c.in-Some.ensures.cases.0 c.in-33.is)

pub returns-in-115 : goal.returns-in-115
returns-in-115 c = c.begins_with.ensures ∙ sym (skipped_source _ _ _ c.in-Some.ensures.cases.0 c.in-115.is)

pub returns-then-begins_with : goal.returns-then-begins_with
returns-then-begins_with c = let whole = skipped_target _ _ _ c.in-Some.ensures.cases.0 c.in-116.is in rw (whole, ← c.begins_with-in-116.ensures, c.if-begins_with.true) refl

pub returns-else-begins_with : goal.returns-else-begins_with
returns-else-begins_with c = let whole = skipped_target _ _ _ c.in-Some.ensures.cases.0 c.in-116.is in rw (whole, ← c.begins_with-in-116.ensures, c.if-begins_with.false) c.is_debug_line.ensures

pub returns-in-97 : goal.returns-in-97
returns-in-97 c = c.begins_with-in-97.ensures ∙ sym (skipped_attributes _ _ _ c.in-Some.ensures.cases.0 c.in-97.is)

pub returns-in-35 : goal.returns-in-35
returns-in-35 c = c.begins_with-in-35.ensures ∙ sym (skipped_record _ _ _ c.in-Some.ensures.cases.0 c.in-35.is)

pub returns-in-99 : goal.returns-in-99
returns-in-99 c = c.is_debug_line-in-99.ensures ∙ sym (skipped_call _ _ _ c.in-Some.ensures.cases.0 c.in-99.is)

pub returns-in-100 : goal.returns-in-100
returns-in-100 c = c.is_debug_line-in-100.ensures ∙ sym (skipped_declare _ _ _ c.in-Some.ensures.cases.0 c.in-100.is)
