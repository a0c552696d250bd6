use Rattle.machine_laws.proofs.CallShapes.{calls-have_shapes, waits-have_shapes}
use Rattle.machine_laws.proofs.Shapes.{instructions-have_shapes}
use Rattle.machine_laws.proofs.shapes_are_decided.Goals as goal

pub returns : goal.returns
returns c = record { instructions = instructions-have_shapes; calls = calls-have_shapes; waits = waits-have_shapes }
