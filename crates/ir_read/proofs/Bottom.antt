-- The items of a module are wanted last, so that nothing is wanted behind the end of a text.
use Rattle.std.proofs.Common.{◌≡◌, ℕ, zero, suc, Bool, true, false, List, [], ◌∷◌, ◌++◌, Option, Some, None, Result, Ok, Err, refl, ap, ◌∙◌, sym, subst}
use Rattle.std.specs.Prelude.{not, ◌&&◌, if◌then◌else◌}
use Rattle.std.proofs.lemmas.List.{append-nil}
use Rattle.ir_read.specs.declared.grammar.Rule.{Rule}
use Rattle.ir_read.specs.declared.grammar.Rule.TheVariants as r
use Rattle.ir_read.specs.declared.skip.Mode.{Mode}
use Rattle.ir_read.specs.declared.skip.Mode.TheVariants as m
use Rattle.ir_read.specs.declared.terminal.Terminal.{Terminal}
use Rattle.ir_read.specs.declared.terminal.Terminal.TheVariants as t
use Rattle.ir_read.specs.Grammar.{otherwise, row}
use Rattle.ir_read.specs.Laws.{IsText, is_final}
use Rattle.ir_read.specs.Machine.{State, done, dropped_or_not, fed, fed_behind_comma, fed_free, fed_in_form, formed, held_or_not, skipped_or_taken, state, taken_by, with_comma}
use Rattle.ir_read.specs.Node.{Lexeme, Told}
use Rattle.ir_read.specs.Skip.{drops_comma, is_comma, skip_of, skip_row}
use Rattle.ir_read.specs.Wants.{advance, chosen, is_nothing}
use Rattle.ir_read.proofs.Equations.{carry, first_is, ok_is, second_is, some_is}
use Rattle.ir_read.proofs.Runs.{runs, stepped}

-- ---- rules

abbrev is_items : Rule → Bool
is_items r.Items = true
is_items _ = false

abbrev no_items : List Rule → Bool
no_items [] = true
no_items (rule ∷ more) = not (is_items rule) && no_items more

-- where the items are wanted, nothing is wanted behind them
abbrev pub is_stack : List Rule → Bool
is_stack [] = true
is_stack (rule ∷ rest) = if is_items rule then is_nothing rest else is_stack rest

abbrev keeps : Rule → Option (List Rule) → Bool
keeps rule None = true
keeps rule (Some more) = if is_items rule then is_stack more else no_items more

rows_keep : (rule : Rule) (terminal : Terminal) → keeps rule (row rule terminal) ≡ true
unfolding row
rows_keep r.Items t.End = refl
rows_keep _ t.End = refl
rows_keep _ _ = refl

others_keep : (rule : Rule) → keeps rule (otherwise rule) ≡ true
unfolding otherwise
others_keep r.Items = refl
others_keep _ = refl

both : (a b : Bool) → (a && b) ≡ true → (a ≡ true) × (b ≡ true)
both true true is = (refl, refl)
both _ _ is = cc

stack_append : (more wants : List Rule) → no_items more ≡ true → is_stack wants ≡ true → is_stack (more ++ wants) ≡ true
stack_append [] wants none stack = stack
stack_append (rule ∷ more) wants none stack =
    let parts = both (not (is_items rule)) (no_items more) none in
    by (is_items rule) parts.0 (stack_append more wants parts.1 stack)
  where
    by : (items : Bool) → not items ≡ true → is_stack (more ++ wants) ≡ true →
        (if items then is_nothing (more ++ wants) else is_stack (more ++ wants)) ≡ true
    by true is stack = cc
    by false is stack = stack

stack_more : (rule : Rule) (wants more : List Rule) (found : Option (List Rule)) → keeps rule found ≡ true → found ≡ Some more →
    is_stack (rule ∷ wants) ≡ true → is_stack (more ++ wants) ≡ true
stack_more rule wants more found keep is stack =
    by (is_items rule) wants (subst (λ (other : Option (List Rule)). keeps rule other ≡ true) is keep) stack
  where
    by : (items : Bool) (wants : List Rule) → (if items then is_stack more else no_items more) ≡ true →
        (if items then is_nothing wants else is_stack wants) ≡ true → is_stack (more ++ wants) ≡ true
    by true [] keep stack = rw (append-nil more) keep
    by true (rule ∷ wants) keep stack = cc
    by false wants keep stack = stack_append more wants keep stack

-- ---- the rule that takes a token

record TakenAt (terminal : Terminal) (rule : Rule) (left : List Rule) : Type 0 where
  pub under : List Rule
  pub more : List Rule
  pub stack : is_stack (rule ∷ under) ≡ true
  pub row_is : row rule terminal ≡ Some more
  pub left_is : more ++ under ≡ left

chosen_at : (first : Rule) (wants : List Rule) (terminal : Terminal) (rule : Rule) (left : List Rule) (found other : Option (List Rule))
    (next : List Rule → Result (Rule × List Rule) Rule) → row first terminal ≡ found → is_stack (first ∷ wants) ≡ true →
    ((more : List Rule) → other ≡ Some more → next more ≡ Ok (rule, left) → TakenAt terminal rule left) →
    chosen first wants found other next ≡ Ok (rule, left) → TakenAt terminal rule left
chosen_at first wants terminal rule left (Some more) other next found stack deeper is =
    let pair = ok_is is in
    record {
      under = wants;
      more = more;
      stack = subst (λ (by : Rule). is_stack (by ∷ wants) ≡ true) (first_is pair) stack;
      row_is = subst (λ (by : Rule). row by terminal ≡ Some more) (first_is pair) found;
      left_is = second_is pair;
    }
chosen_at first wants terminal rule left None None next found stack deeper is = cc
chosen_at first wants terminal rule left None (Some more) next found stack deeper is = deeper more refl is

advance_at : (depth : ℕ) (wants : List Rule) (terminal : Terminal) (rule : Rule) (left : List Rule) → is_stack wants ≡ true →
    advance depth wants terminal ≡ Ok (rule, left) → TakenAt terminal rule left
unfolding advance
advance_at depth [] terminal rule left stack is = cc
advance_at zero (first ∷ wants) terminal rule left stack is =
    chosen_at first wants terminal rule left (row first terminal) None (λ more. Err first) refl stack (λ more other found. cc) is
advance_at (suc depth) (first ∷ wants) terminal rule left stack is =
    chosen_at first wants terminal rule left (row first terminal) (otherwise first)
    (λ more. advance depth (more ++ wants) terminal) refl stack
    (λ more other found. advance_at depth (more ++ wants) terminal rule left
    (stack_more first wants more (otherwise first) (others_keep first) other stack) found) is

advance_stack : (wants : List Rule) (terminal : Terminal) (rule : Rule) (left : List Rule) → is_stack wants ≡ true →
    advance 3 wants terminal ≡ Ok (rule, left) → is_stack left ≡ true
advance_stack wants terminal rule left stack is =
    let at = advance_at 3 wants terminal rule left stack is in
    subst (λ (all : List Rule). is_stack all ≡ true) at.left_is
    (stack_more rule at.under at.more (row rule terminal) (rows_keep rule terminal) at.row_is at.stack)

abbrev ends_all : Rule → Option (List Rule) → Bool
ends_all rule None = true
ends_all rule (Some more) = is_items rule && is_nothing more

end_rows : (rule : Rule) → ends_all rule (row rule t.End) ≡ true
unfolding row
end_rows r.Items = refl
end_rows _ = refl

bad_rows : (rule : Rule) → ends_all rule (row rule t.Bad) ≡ true
unfolding row
bad_rows r.Items = refl
bad_rows _ = refl

final_rows : (rule : Rule) (terminal : Terminal) → is_final terminal ≡ true → ends_all rule (row rule terminal) ≡ true
final_rows rule t.End final = end_rows rule
final_rows rule t.Bad final = bad_rows rule
final_rows rule _ final = cc

final_left : (rule : Rule) (under more left : List Rule) → ends_all rule (Some more) ≡ true → is_stack (rule ∷ under) ≡ true →
    more ++ under ≡ left → left ≡ []
final_left rule under more left ends stack is =
    let parts = both (is_items rule) (is_nothing more) ends in
    by (is_items rule) more under parts.0 parts.1 stack is
  where
    by : (items : Bool) (more under : List Rule) → items ≡ true → is_nothing more ≡ true →
        (if items then is_nothing under else is_stack under) ≡ true → more ++ under ≡ left → left ≡ []
    by true [] [] is none stack left_is = sym left_is
    by true [] (rule ∷ under) is none stack left_is = cc
    by true (rule ∷ more) under is none stack left_is = cc
    by false more under is none stack left_is = cc

advance_final : (wants : List Rule) (terminal : Terminal) (rule : Rule) (left : List Rule) → is_final terminal ≡ true →
    is_stack wants ≡ true → advance 3 wants terminal ≡ Ok (rule, left) → left ≡ []
advance_final wants terminal rule left final stack is =
    let at = advance_at 3 wants terminal rule left stack is in
    final_left rule at.under at.more left
    (subst (λ (found : Option (List Rule)). ends_all rule found ≡ true) at.row_is (final_rows rule terminal final)) at.stack at.left_is

-- ---- the machine

-- what a token leaves: the items are wanted last, and nothing is wanted behind what ends a text
abbrev Leaves : Terminal → Option Rule → State → Type 0
Leaves terminal taken next = (is_stack next.wants ≡ true) × (is_final terminal ≡ true → next ≡ done)

leaves_taken : (wants : List Rule) (terminal : Terminal) (taken : Option Rule) (next : State) (found : Result (Rule × List Rule) Rule) →
    is_stack wants ≡ true → advance 3 wants terminal ≡ found → taken_by found ≡ Ok (taken, next) → Leaves terminal taken next
leaves_taken wants terminal taken next (Err rule) stack is answer = cc
leaves_taken wants terminal taken next (Ok (rule, left)) stack is answer =
    carry (Leaves terminal) answer (
      advance_stack wants terminal rule left stack is,
      λ final. ap (λ (all : List Rule). state m.Free all) (advance_final wants terminal rule left final stack is),
    )

skip_not_final : (terminal : Terminal) (mode : Mode) → skip_of terminal ≡ Some mode → is_final terminal ≡ true → ⊥
unfolding skip_of
skip_not_final t.End mode is final = cc
skip_not_final t.Bad mode is final = cc
skip_not_final _ mode is final = cc

leaves_skipped : (wants : List Rule) (terminal : Terminal) (taken : Option Rule) (next : State) (found : Option Mode) →
    is_stack wants ≡ true → skip_of terminal ≡ found → skipped_or_taken found wants terminal ≡ Ok (taken, next) →
    Leaves terminal taken next
leaves_skipped wants terminal taken next None stack is answer =
    leaves_taken wants terminal taken next (advance 3 wants terminal) stack refl answer
leaves_skipped wants terminal taken next (Some mode) stack is answer =
    carry (Leaves terminal) answer (stack, λ final. absurd (skip_not_final terminal mode is final))

comma_not_final : (terminal : Terminal) → is_comma terminal ≡ true → is_final terminal ≡ true → ⊥
unfolding is_comma
comma_not_final t.Comma is final = cc
comma_not_final _ is final = cc

leaves_held : (wants : List Rule) (terminal : Terminal) (taken : Option Rule) (next : State) (comma : Bool) → is_stack wants ≡ true →
    is_comma terminal ≡ comma → held_or_not comma wants terminal ≡ Ok (taken, next) → Leaves terminal taken next
leaves_held wants terminal taken next false stack is answer =
    leaves_skipped wants terminal taken next (skip_of terminal) stack refl answer
leaves_held wants terminal taken next true stack is answer =
    carry (Leaves terminal) answer (stack, λ final. absurd (comma_not_final terminal is final))

leaves_free : (wants : List Rule) (terminal : Terminal) (taken : Option Rule) (next : State) → is_stack wants ≡ true →
    fed_free wants terminal ≡ Ok (taken, next) → Leaves terminal taken next
unfolding fed_free
leaves_free wants terminal taken next stack answer = leaves_held wants terminal taken next (is_comma terminal) stack refl answer

leaves_given : (wants : List Rule) (terminal : Terminal) (taken : Option Rule) (next : State) (found : Result (Rule × List Rule) Rule) →
    is_stack wants ≡ true → advance 3 wants t.Comma ≡ found → with_comma found terminal ≡ Ok (taken, next) → Leaves terminal taken next
leaves_given wants terminal taken next (Err rule) stack is answer = cc
leaves_given wants terminal taken next (Ok (rule, left)) stack is answer =
    leaves_free left terminal taken next (advance_stack wants t.Comma rule left stack is) answer

leaves_dropped : (wants : List Rule) (terminal : Terminal) (taken : Option Rule) (next : State) (drops : Bool) → is_stack wants ≡ true →
    dropped_or_not drops wants terminal ≡ Ok (taken, next) → Leaves terminal taken next
leaves_dropped wants terminal taken next true stack answer = leaves_free wants terminal taken next stack answer
leaves_dropped wants terminal taken next false stack answer =
    leaves_given wants terminal taken next (advance 3 wants t.Comma) stack refl answer

row_not_final : (mode behind : Mode) (terminal : Terminal) → skip_row mode terminal ≡ Some behind → is_final terminal ≡ true → ⊥
unfolding skip_row
row_not_final m.Free behind t.End is final = cc
row_not_final _ behind t.End is final = cc
row_not_final _ behind t.Bad is final = cc
row_not_final _ behind _ is final = cc

leaves_formed : (mode : Mode) (wants : List Rule) (terminal : Terminal) (taken : Option Rule) (next : State) (found : Option Mode) →
    is_stack wants ≡ true → skip_row mode terminal ≡ found → formed mode wants found ≡ Ok (taken, next) → Leaves terminal taken next
leaves_formed mode wants terminal taken next None stack is answer = cc
leaves_formed mode wants terminal taken next (Some behind) stack is answer =
    carry (Leaves terminal) answer (stack, λ final. absurd (row_not_final mode behind terminal is final))

leaves_fed : (mode : Mode) (wants : List Rule) (terminal : Terminal) (taken : Option Rule) (next : State) → is_stack wants ≡ true →
    fed (state mode wants) terminal ≡ Ok (taken, next) → Leaves terminal taken next
unfolding fed fed_behind_comma fed_in_form
leaves_fed m.Free wants terminal taken next stack answer = leaves_free wants terminal taken next stack answer
leaves_fed m.Comma wants terminal taken next stack answer =
    leaves_dropped wants terminal taken next (drops_comma terminal) stack answer
leaves_fed mode wants terminal taken next stack answer =
    leaves_formed mode wants terminal taken next (skip_row mode terminal) stack refl answer

-- ---- texts

-- a text that can be read up to its end is read whole
pub text_done : (tokens : List Lexeme) (from end : State) (kept : List Told) → IsText tokens → is_stack from.wants ≡ true →
    runs from tokens ≡ Some (kept, end) → end ≡ done
unfolding runs
text_done [] from end kept text stack is = absurd text
text_done (last ∷ []) from end kept text stack is =
    let step = stepped from end last [] kept is in
    let left = leaves_fed from.mode from.wants last.terminal step.taken step.next stack step.fed_is in
    sym (second_is (some_is step.runs_is)) ∙ left.1 text
text_done (token ∷ next ∷ tokens) from end kept text stack is =
    let step = stepped from end token (next ∷ tokens) kept is in
    let left = leaves_fed from.mode from.wants token.terminal step.taken step.next stack step.fed_is in
    text_done (next ∷ tokens) step.next end step.rest text left.0 step.runs_is
