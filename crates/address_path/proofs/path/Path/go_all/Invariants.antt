use Rattle.std.proofs.Common.{◌≡◌, drop}
use Rattle.address_path.specs.Path as spec
use Rattle.address_path.proofs.path.Path.go_all.Given as goal

abbrev pub invariant-loop-index : goal.invariant-loop-index
invariant-loop-index l =
    spec.path_from l.structs l.self (drop l.index-index l.indices) ≡ spec.path_from l.structs l.fn.self l.indices
