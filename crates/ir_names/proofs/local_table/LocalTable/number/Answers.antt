use Rattle.std.proofs.Common.{◌∙◌, ap, position}
use Rattle.ir_names.specs.LocalName.{local_eq}
use Rattle.ir_names.specs.declared.local_name.LocalName.TheVariants.{Plain}
use Rattle.ir_names.proofs.Tables.{within_some}
use Rattle.ir_names.proofs.local_table.LocalTable.number.Goals as goal

pub returns-in-Plain-clause-within : goal.returns-in-Plain-clause-within
returns-in-Plain-clause-within c =
    let name = c.text.result.now in
    within_some (local_eq (Plain name)) c.args.self.now c.copied.result
    (c.copied.ensures ∙ c.get.ensures.value ∙ c.self.invariant.plain_at name ∙ ap (position (local_eq (Plain name))) c.self.view_is)
