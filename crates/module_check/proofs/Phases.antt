-- A block is whole exactly where its phase is that of one ended.
use Rattle.std.proofs.Common.{◌≡◌, Bool, true, false, List, [], ◌∷◌, refl}
use Rattle.ir_items.specs.Statement.{Statement}
use Rattle.module_check.specs.declared.shape.Phase.TheVariants.{Open, Broken}
use Rattle.module_check.specs.Laws.{is_ended}
use Rattle.module_check.specs.Shape.{ends_block, is_whole, phase_behind, phase_from}

broken : (instructions : List Statement) → is_ended (phase_from Broken instructions) ≡ false
broken [] = refl
broken (instruction ∷ instructions) = broken instructions

-- an instruction, and those behind it
whole_by : (ends : Bool) (instruction : Statement) (instructions : List Statement) → ends_block instruction ≡ ends →
    is_ended (phase_from Open instructions) ≡ is_whole instructions →
    is_ended (phase_from (phase_behind Open ends) instructions) ≡ is_whole (instruction ∷ instructions)
whole_by true instruction [] is behind = rw is refl
whole_by true instruction (next ∷ instructions) is behind = rw is (broken instructions)
whole_by false instruction [] is behind = rw is refl
whole_by false instruction (next ∷ instructions) is behind = rw is behind

pub whole : (instructions : List Statement) → is_ended (phase_from Open instructions) ≡ is_whole instructions
whole [] = refl
whole (instruction ∷ instructions) =
    whole_by (ends_block instruction) instruction instructions refl (whole instructions)
