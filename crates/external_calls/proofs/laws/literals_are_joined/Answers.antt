use Rattle.external_calls.specs.declared.format.Mode.TheVariants as modes
use Rattle.external_calls.specs.Format.{pieces_of}
use Rattle.external_calls.proofs.Formats.{read_begins, spelled_joined}
use Rattle.external_calls.proofs.laws.literals_are_joined.Goals as goal

pub returns : goal.returns
unfolding pieces_of
returns c bytes found is =
    let begins = read_begins bytes modes.Ordinary found is in
    spelled_joined begins.format found begins.spells
