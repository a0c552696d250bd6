-- The phis of a body, each of which wants an edge from each block that leads to its own.
use Rattle.std.specs.Prelude.{ℕ, Bool, false, not, nat_eq, List, [], ◌∷◌, slice_get, Option, Some, None, if◌then◌else◌}
use Rattle.std.specs.List.{list_any}
use Rattle.ir_read.specs.Node.{Told}
use Rattle.ir_items.specs.Item.{body_of}
use Rattle.ir_items.specs.Segment.{Segment}
use Rattle.ir_items.specs.Statement.{Statement, is_label, statements_of}
use Rattle.module_fault.specs.declared.cause.Cause.TheVariants.{BadShape}
use Rattle.instruction_check.specs.declared.scope.BodyNames.{BodyNames}
use Rattle.module_fault.specs.Cause.{unless}
use Rattle.module_fault.specs.declared.fault.Fault.{Fault}
use Rattle.module_check.specs.declared.phis.Phis.{Phis}
use Rattle.module_check.specs.BlockPlace.{at_label, first_place}
use Rattle.module_check.specs.BodyNames.{begins_with_label}
use Rattle.module_fault.specs.Fault.{note}
use Rattle.module_check.specs.Predecessors.{named_blocks, predecessors_of}
use Rattle.module_check.specs.Shape.{is_phi}

abbrev pub has : List ℕ → ℕ → Bool
has blocks block = list_any (λ one. nat_eq one block) blocks

-- whether one of the blocks is none of those of the edges
abbrev pub lacks : List ℕ → List ℕ → Bool
lacks blocks edges = list_any (λ block. not (has edges block)) blocks

abbrev pub lacks_any : Option (List ℕ) → List ℕ → Bool
lacks_any None edges = false
lacks_any (Some blocks) edges = lacks blocks edges

-- the blocks that lead to the open one
abbrev pub leading : Phis → Option (List ℕ)
leading done = slice_get done.predecessors done.place.block

abbrev pub with_phi : BodyNames → Phis → Statement → Phis
with_phi names done phi = record {
  predecessors = done.predecessors;
  place = done.place;
  first =
      note done.first phi.line (unless (not (lacks_any (leading done) (named_blocks names phi.operands))) BadShape);
}

abbrev pub behind_label : Phis → Phis
behind_label done = record { predecessors = done.predecessors; place = at_label done.place; first = done.first }

abbrev pub with_statement : BodyNames → Phis → Statement → Phis
with_statement names done statement =
    if is_label statement then behind_label done
    else if is_phi statement then with_phi names done statement
    else done

abbrev pub phis_from : BodyNames → Phis → List Statement → Phis
phis_from names done [] = done
phis_from names done (statement ∷ statements) = phis_from names (with_statement names done statement) statements

abbrev pub no_phis : BodyNames → ℕ → List Told → Phis
no_phis names blocks body = record {
  predecessors = predecessors_of names blocks body;
  place = first_place (begins_with_label body);
  first = None;
}

-- the first phi of a body, of so many blocks, that lacks an edge from a block that leads to its own
abbrev pub phi_fault : BodyNames → ℕ → Segment → Option Fault
phi_fault names blocks item = (phis_from names (no_phis names blocks (body_of item)) (statements_of (body_of item))).first
