use Rattle.std.proofs.Common.{refl}
use Rattle.ir_layout.specs.Extent.{with_field}
use Rattle.ir_layout.proofs.extent.with_field.Goals as goal

pub returns-else-packed : goal.returns-else-packed
unfolding with_field
returns-else-packed c = rw (c.if-packed.false, c.max.ensures, c.sum-else-packed.ensures, c.place-at.ensures) refl
