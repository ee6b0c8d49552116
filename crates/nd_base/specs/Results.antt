-- Checks in a row, of which the first that fails says why, and what a function returned beside what a reading gives. (The project's own; the
-- bind is that of results in Haskell's Either and Rust's `Result::and_then`.)
use Rattle.std.specs.Prelude.{◌≡◌, ◌≢◌, Bool, true, false, Result, Ok, Err}

infixl 10 ◌>>=◌
abbrev pub ◌>>=◌ : {A B E : Type 0} → Result A E → (A → Result B E) → Result B E
(Ok x) >>= f = f x
(Err e) >>= f = Err e

-- a check, and the refusal where it fails
abbrev pub require : {E : Type 0} → Bool → E → Result (Unit {0}) E
require true e = Ok (tt {0})
require false e = Err e

-- What a function returned, seen by view, is what a reading gives, unless memory ran out: memory is the error that says so.
abbrev pub Gives : {X Y E : Type 0} → E → (X → Y) → Result X E → Result Y E → Type 0
Gives memory view (Ok x) read = read ≡ Ok (view x)
Gives memory view (Err e) read = e ≢ memory → read ≡ Err e
