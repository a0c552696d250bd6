-- A call that is found by a name has that name.
use Rattle.std.proofs.Common.{◌≡◌, ◌∙◌, ℕ, List, [], ◌∷◌, Option, Some, ap}
use Rattle.std.specs.Str.{bytes_eq}
use Rattle.std.proofs.lemmas.Bool.{cond_both}
use Rattle.std.proofs.lemmas.Option.{same_Some}
use Rattle.std.proofs.lemmas.Slice.Eq.{bytes_eq-Decides}
use Rattle.external_calls.specs.declared.call.ExternalCall.{ExternalCall}
use Rattle.external_calls.specs.Prototype.{find, name_of}

pub found_has_name : (calls : List ExternalCall) (name : List ℕ) (call : ExternalCall) → find calls name ≡ Some call → name ≡ name_of call
found_has_name [] name call found = cc
found_has_name (first ∷ calls) name call found =
    cond_both (bytes_eq name (name_of first)) (Some first) (find calls name)
    (λ (one : Option ExternalCall). one ≡ Some call → name ≡ name_of call)
    (λ same is. (bytes_eq-Decides name (name_of first)).0 same ∙ ap name_of (same_Some _ _ is))
    (λ _ is. found_has_name calls name call is) found
