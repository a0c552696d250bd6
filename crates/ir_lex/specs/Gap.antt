-- Which lines are skipped whole, by what they begin with after blanks.
use Rattle.std.specs.Prelude.{ℕ, Bool, ◌||◌, ◌&&◌, List, drop, length, nat_eq, codes}
use Rattle.std.specs.List.{prefix_len, starts_with}
use Rattle.ir_lex.specs.Bytes.{is_space}

unfoldable pub begins_with : List ℕ → List ℕ → Bool
begins_with bytes word = starts_with nat_eq bytes word

-- a marker's name, after blanks or none
abbrev pub is_marker : List ℕ → Bool
is_marker rest =
    let name = drop (prefix_len is_space rest) rest in
    begins_with name (codes "@llvm.dbg.") || begins_with name (codes "@llvm.lifetime.")

-- the words, and then a marker's name
unfoldable pub is_debug_line : List ℕ → List ℕ → Bool
is_debug_line bytes words = begins_with bytes words && is_marker (drop (length words) bytes)

unfoldable pub is_heading : List ℕ → Bool
is_heading bytes =
    begins_with bytes (codes "source_filename") || begins_with bytes (codes "target") || begins_with bytes (codes "attributes")
    || begins_with bytes (codes "!") || begins_with bytes (codes "#dbg_")

unfoldable pub is_skipped : List ℕ → Bool
is_skipped bytes =
    is_heading bytes || is_debug_line bytes (codes "call void") || is_debug_line bytes (codes "tail call void")
    || is_debug_line bytes (codes "declare void")
