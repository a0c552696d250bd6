use Rattle.std.proofs.Common.{◌≡◌, ◌<◌, All}
use Rattle.std.specs.List.{filter, range_with_len}
use Rattle.machine_model.specs.Enabled.{is_enabled}
use Rattle.concrete_machine.proofs.machine.Machine.list_enabled.Given as goal

-- the threads before the number have been looked at
abbrev pub invariant-loop-thread : goal.invariant-loop-thread
invariant-loop-thread l =
    (l.list.items ≡ filter (is_enabled l.code l.self.state) (range_with_len 0 l.thread))
    × All (λ thread. thread < 16) l.list.items
