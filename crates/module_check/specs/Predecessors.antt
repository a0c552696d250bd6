-- The blocks from which a block is reached.
use Rattle.std.specs.Prelude.{ℕ, zero, suc, ◌-◌, Bool, ◌&&◌, ◌==◌, nat_lt, List, [], ◌∷◌, ◌++◌, length, slice_index, slice_get, slice_set, Option, Some, None, if◌then◌else◌}
use Rattle.ir_read.specs.declared.grammar.Rule.{Rule}
use Rattle.ir_read.specs.declared.grammar.Rule.TheVariants as r
use Rattle.ir_read.specs.declared.terminal.Terminal.{Terminal}
use Rattle.ir_read.specs.declared.terminal.Terminal.TheVariants as t
use Rattle.ir_read.specs.Node.{Told}
use Rattle.ir_items.specs.Statement.{Statement, is_label, statements_of}
use Rattle.instruction_check.specs.declared.roles.LocalRole.{LocalRole}
use Rattle.instruction_check.specs.declared.roles.LocalRole.TheVariants as locals
use Rattle.instruction_check.specs.declared.scope.BodyNames.{BodyNames}
use Rattle.instruction_check.specs.Scope.{local_role}
use Rattle.module_check.specs.declared.predecessors.Flow.{Flow}
use Rattle.module_check.specs.BlockPlace.{at_label, first_place}
use Rattle.module_check.specs.BodyNames.{begins_with_label}

-- ---- the blocks that an instruction names

abbrev pub block_of : Option LocalRole → Option ℕ
block_of (Some (locals.Block number)) = Some number
block_of _ = None

abbrev pub block_by : Rule → BodyNames → Told → Option ℕ
block_by r.LocalName names node = block_of (local_role names node)
block_by _ names node = None

-- the block that a node names, where the grammar takes it as a block's name
abbrev pub block_at : BodyNames → Told → Option ℕ
block_at names node = block_by node.rule names node

abbrev pub and_block : List ℕ → Option ℕ → List ℕ
and_block done None = done
and_block done (Some block) = done ++ block ∷ []

abbrev pub blocks_from : BodyNames → List ℕ → List Told → List ℕ
blocks_from names done [] = done
blocks_from names done (node ∷ nodes) = blocks_from names (and_block done (block_at names node)) nodes

-- those that nodes name, in order
abbrev pub named_blocks : BodyNames → List Told → List ℕ
named_blocks names nodes = blocks_from names [] nodes

abbrev pub targets_by : Terminal → BodyNames → List Told → List ℕ
targets_by t.Br names operands = named_blocks names operands
targets_by t.Switch names operands = named_blocks names operands
targets_by _ names operands = []

-- those to which an instruction leads
abbrev pub targets_of : BodyNames → Statement → List ℕ
targets_of names statement = targets_by statement.operation.terminal names statement.operands

-- ---- from block to block

abbrev pub ends_with : List ℕ → ℕ → Bool
ends_with list block = nat_lt 0 (length list) && (slice_index list (length list - 1) == block)

-- a block that leads to another by several ways is there once
abbrev pub and_from : ℕ → List ℕ → List ℕ
and_from from list = if ends_with list from then list else list ++ from ∷ []

abbrev pub with_list : ℕ → List (List ℕ) → ℕ → Option (List ℕ) → List (List ℕ)
with_list from lists target None = lists
with_list from lists target (Some list) = slice_set lists target (and_from from list)

abbrev pub with_target : ℕ → List (List ℕ) → ℕ → List (List ℕ)
with_target from lists target = with_list from lists target (slice_get lists target)

abbrev pub with_targets : ℕ → List (List ℕ) → List ℕ → List (List ℕ)
with_targets from lists [] = lists
with_targets from lists (target ∷ targets) = with_targets from (with_target from lists target) targets

-- the open block leads to the targets of its last instruction
abbrev pub closed : Flow → Flow
closed done = record {
  predecessors = with_targets done.place.block done.predecessors done.targets;
  place = done.place;
  targets = done.targets;
}

abbrev pub opened : Flow → Flow
opened done = record { predecessors = done.predecessors; place = at_label done.place; targets = [] }

abbrev pub with_instruction : BodyNames → Flow → Statement → Flow
with_instruction names done instruction =
    record { predecessors = done.predecessors; place = done.place; targets = targets_of names instruction }

abbrev pub with_statement : BodyNames → Flow → Statement → Flow
with_statement names done statement =
    if is_label statement then opened (closed done) else with_instruction names done statement

abbrev pub flow_from : BodyNames → Flow → List Statement → Flow
flow_from names done [] = done
flow_from names done (statement ∷ statements) = flow_from names (with_statement names done statement) statements

abbrev pub no_predecessors : ℕ → List (List ℕ)
no_predecessors zero = []
no_predecessors (suc blocks) = no_predecessors blocks ++ [] ∷ []

abbrev pub no_flow : ℕ → Bool → Flow
no_flow blocks is_labelled =
    record { predecessors = no_predecessors blocks; place = first_place is_labelled; targets = [] }

-- for each of so many blocks of a body, those whose last instruction leads to it
abbrev pub predecessors_of : BodyNames → ℕ → List Told → List (List ℕ)
predecessors_of names blocks body =
    (closed (flow_from names (no_flow blocks (begins_with_label body)) (statements_of body))).predecessors
