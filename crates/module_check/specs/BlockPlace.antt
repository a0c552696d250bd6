-- The number of the block in which a statement stands.
use Rattle.std.specs.Prelude.{Bool, if◌then◌else◌}
use Rattle.module_check.specs.declared.block_place.BlockPlace.{BlockPlace}
use Rattle.module_check.specs.ItemNames.{counted, numbered}

-- a first block without a label is the block 0
abbrev pub first_place : Bool → BlockPlace
first_place is_labelled = if is_labelled then record { block = 0; next = 0 } else record { block = 0; next = 1 }

-- a label begins the next block
abbrev pub at_label : BlockPlace → BlockPlace
at_label place = record { block = numbered place.next; next = counted place.next }
