use Rattle.std.proofs.Common.{rules, tests, Option, Some, None, refl, ℕ, ◌≡◌, ◌∙◌, sym}
use Rattle.std.specs.Prelude.{◌&&◌, not, option_map}
use Rattle.std.proofs.lemmas.Iterator.Search.{find_from_yields_List}
use Rattle.std.proofs.lemmas.Iterator.Consumers.{YieldsList-at, YieldsList-from_copied}
use Rattle.std.proofs.lemmas.Iterator.{YieldsList-from_slice}
use Rattle.machine_model.specs.Follow.{is_above}
use Rattle.turn_policy.specs.Policy.{is_held}
use Rattle.turn_policy.proofs.Turns.{find-free}
use Rattle.turn_policy.proofs.follow.next_above.Goals as goal

map-id : (found : Option ℕ) → option_map (λ x. x) found ≡ found
map-id None = refl
map-id (Some thread) = refl

pub returns : goal.returns
returns c =
    rw (find-free c.args.held (is_above c.args.last) c.args.enabled.now)
    (sym (map-id c.find.result) ∙ find_from_yields_List (λ thread. not (is_held c.args.held thread) && is_above c.args.last thread) _ _
    c.find.result c.find.ensures.ran (YieldsList-from_copied (YieldsList-at c.copied.ensures.source (YieldsList-from_slice c.args.enabled.now c.iter.ensures.rest)))
    (λ x b q k. search (rules, tests)))
