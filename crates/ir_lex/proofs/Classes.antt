-- A table of flags is held against a definition at each of the 256 bytes, by computing.
use Rattle.std.proofs.Common.{◌≡◌, ℕ, ◌<◌, Bool, true, not, nat_eq, bit_and, get_or, List}
use Rattle.std.proofs.lemmas.Bool.{agree_below, agree_below_at}

abbrev pub has_flag : List ℕ → ℕ → ℕ → Bool
has_flag table flag byte = not (nat_eq (bit_and (get_or table byte 0) flag) 0)

pub from_table : (table : List ℕ) (flag : ℕ) (test : ℕ → Bool) (byte : ℕ) → byte < 256 → agree_below (has_flag table flag) test 256 ≡ true → has_flag table flag byte ≡ test byte
from_table table flag test byte within agrees = agree_below_at (has_flag table flag) test 256 byte agrees within
