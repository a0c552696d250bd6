-- What the concrete machine needs of the frame that runs.
use Rattle.std.specs.Prelude.{◌+◌, ◌<◌, ◌^◌, Option, IsSome, IfSome}
use Rattle.machine_model.specs.declared.state.Frame.{Frame}

-- the place after the frame's is a number of 32 bits
abbrev pub HasNext : Frame → Type 0
HasNext frame = frame.place + 1 < 2 ^ 32

-- there is a frame, and it can go on
abbrev pub HasRoom : Option Frame → Type 0
HasRoom frame = IsSome frame × IfSome frame HasNext
