use Rattle.external_calls.specs.declared.format.Mode.TheVariants as modes
use Rattle.external_calls.specs.Format.{pieces_of}
use Rattle.external_calls.proofs.Formats.{begins_reads, read_begins}
use Rattle.external_calls.proofs.laws.formats_are_spelled.Goals as goal

pub returns-clause-read : goal.returns-clause-read
unfolding pieces_of
returns-clause-read c bytes found = read_begins bytes modes.Ordinary found

pub returns-clause-spelled : goal.returns-clause-spelled
returns-clause-spelled c = begins_reads
