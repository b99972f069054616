-- Readings one after another, for any kind of error: what one answers goes to the next, and the first error ends them.
use Rattle.std.specs.Prelude.{Option, Result, Ok, Err, ok_or}

infixl 10 ◌>>=◌
abbrev pub ◌>>=◌ : {A B E : Type 0} → Result A E → (A → Result B E) → Result B E
(Ok x) >>= f = f x
(Err error) >>= f = Err error

-- what there is, or this error
abbrev pub wanted : {A E : Type 0} → E → Option A → Result A E
wanted error found = ok_or found error
