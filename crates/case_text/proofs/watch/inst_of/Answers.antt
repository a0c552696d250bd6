use Rattle.std.proofs.Common.{rules}
use Rattle.std.proofs.lemmas.Iterator.{YieldsList-from_slice}
use Rattle.std.proofs.lemmas.Iterator.Adapters.{YieldsList-from_flat_map}
use Rattle.std.proofs.lemmas.Iterator.Consumers.{nth_from_yields_List}
use Rattle.case_text.proofs.watch.inst_of.Goals as goal

pub returns : goal.returns
returns c =
    nth_from_yields_List c.nth.result c.nth.new.self c.args.number c.nth.ensures.ran
    (YieldsList-from_flat_map _ _ _ (λ inst. inst.now) (λ block. block.insts) _
    (λ x u q k. (search rules, λ j b. YieldsList-from_slice x.now.insts (search rules)))
    (YieldsList-from_slice c.args.blocks.now (cc)) c.flat_map.ensures.closure c.flat_map.ensures.front c.flat_map.ensures.back c.flat_map.ensures.done)
