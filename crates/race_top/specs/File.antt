-- The files that a command names, by the order of reading.
use Rattle.std.specs.Prelude.{ℕ, ◌+◌}
use Rattle.race_top.specs.declared.file.File.{File}
use Rattle.race_top.specs.declared.file.File.TheVariants as files

-- how many bytes a file may have: 4 MiB for a module, 1 MiB for a case
abbrev pub limit_of : File → ℕ
limit_of files.Module = 4194304
limit_of files.Case = 1048576

-- how many bytes reading up to a file may give, each file up to one byte past its limit
abbrev pub most_given : File → ℕ
most_given files.Module = limit_of files.Module + 1
most_given files.Case = limit_of files.Module + 1 + (limit_of files.Case + 1)

abbrev pub number_of : File → ℕ
number_of files.Module = 1
number_of files.Case = 2
