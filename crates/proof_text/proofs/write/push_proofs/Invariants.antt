use Rattle.std.proofs.Common.{◌≡◌, ◌++◌, map, take}
use Rattle.proof_text.specs.Entry.{entry_of}
use Rattle.std.specs.List.{flat_map}
use Rattle.text_lines.specs.Part.{lines_text}
use Rattle.proof_text.specs.Text.{entry_lines}
use Rattle.proof_text.proofs.write.push_proofs.Given as goal

abbrev pub invariant-loop-proof : goal.invariant-loop-proof
invariant-loop-proof l = l.text.items ≡ l.fn.text.items ++ lines_text (flat_map entry_lines (map entry_of (take l.proof-index l.proofs)))
