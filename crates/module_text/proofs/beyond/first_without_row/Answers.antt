use Rattle.std.proofs.Common.{◌∙◌, ap, rules, tests}
use Rattle.std.proofs.lemmas.Iterator.{YieldsList-from_slice, YieldsList-from_zip}
use Rattle.std.proofs.lemmas.Iterator.Adapters.{YieldsList-from_flat_map}
use Rattle.std.proofs.lemmas.Iterator.Search.{find_from_yields_List}
use Rattle.module_text.specs.Beyond.{is_beyond}
use Rattle.module_text.proofs.beyond.first_without_row.Goals as goal

pub returns : goal.returns
returns c =
    let whole = c.zip.ensures.first in
    let outer = ap (λ s. s.iter.iter) whole ∙ c.flat_map-2.ensures.source in
    let inner = ap (λ s. s.iter.iter) outer ∙ c.flat_map.ensures.source in
    find_from_yields_List (is_beyond c.args.code.now) c.find.new.self _ c.find.result c.find.ensures.ran
    (YieldsList-from_zip
    (YieldsList-from_flat_map _ _ _ (λ inst. inst.now) (λ block. block.insts) _
    (λ x u q k. (search rules, λ j b. YieldsList-from_slice x.now.insts (search rules)))
    (YieldsList-from_flat_map _ _ _ (λ block. block.now) (λ function. function.blocks) _
    (λ x u q k. (search rules, λ j b. YieldsList-from_slice x.now.blocks (search rules)))
    (YieldsList-from_slice c.args.code.now.functions (ap (λ s. s.rest.now) inner ∙ c.iter.ensures.rest ∙ c.as_slice-functions.ensures))
    (ap (λ s. s.iter.f) outer ∙ c.flat_map.ensures.closure) (ap (λ s. s.front) outer ∙ c.flat_map.ensures.front)
    (ap (λ s. s.back) outer ∙ c.flat_map.ensures.back) (ap (λ s. s.done) outer ∙ c.flat_map.ensures.done))
    (ap (λ s. s.iter.f) whole ∙ c.flat_map-2.ensures.closure) (ap (λ s. s.front) whole ∙ c.flat_map-2.ensures.front)
    (ap (λ s. s.back) whole ∙ c.flat_map-2.ensures.back) (ap (λ s. s.done) whole ∙ c.flat_map-2.ensures.done))
    (YieldsList-from_slice c.args.lines.now (ap (λ s. s.rest.now) c.zip.ensures.second ∙ c.iter-2.ensures.rest)))
    (λ x b q k. search (rules, tests))
