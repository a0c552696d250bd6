-- The names that tokens have.
use Rattle.std.specs.Prelude.{ℕ, ◌-◌, Bool, List, length, take, drop, slice_index, ◌==◌, if◌then◌else◌}
use Rattle.std.specs.Char.{is_ascii_digit}
use Rattle.std.specs.List.{list_all}
use Rattle.ir_read.specs.declared.terminal.Terminal.{Terminal}
use Rattle.ir_read.specs.declared.terminal.Terminal.TheVariants as t

abbrev pub before_last : List ℕ → List ℕ
before_last text = take (length text - 1) text

-- a label ends with its colon, and other names begin with a sigil
abbrev pub bare_name : Terminal → List ℕ → List ℕ
bare_name t.Label text = before_last text
bare_name _ text = drop 1 text

-- what stands between the quotes, where there are some
abbrev pub unquoted : List ℕ → List ℕ
unquoted name = if slice_index name 0 == 34 then before_last (drop 1 name) else name

abbrev pub name_of : Terminal → List ℕ → List ℕ
name_of terminal text = unquoted (bare_name terminal text)

-- digits without quotes
abbrev pub is_numbered : Terminal → List ℕ → Bool
is_numbered terminal text = list_all is_ascii_digit (bare_name terminal text)
