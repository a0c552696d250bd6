-- What a call that may fail answers, in terms of what is due.
use Rattle.std.specs.Prelude.{◌≡◌, Option, Some, None, Result, Ok, Err}
use Rattle.rc_base.specs.declared.failures.Failure.{Failure}
use Rattle.rc_base.specs.declared.failures.Failure.TheVariants as failures

infixl 10 ◌>>=◌
-- it goes on, up to the first error
abbrev pub ◌>>=◌ : {A B E : Type 0} → Result A E → (A → Result B E) → Result B E
(Ok x) >>= f = f x
(Err error) >>= f = Err error

abbrev pub or_error : {A E : Type 0} → E → Option A → Result A E
or_error error None = Err error
or_error error (Some x) = Ok x

-- what was found, seen by `view`, is what is due, or the error is; nothing is said of want of memory
abbrev pub Gives : {X A E : Type 0} → (X → A) → Result X (Failure E) → Result A E → Type 0
Gives view (Ok found) due = due ≡ Ok (view found)
Gives view (Err (failures.Refused error)) due = due ≡ Err error
Gives view (Err failures.NoMemory) due = Unit {0}
