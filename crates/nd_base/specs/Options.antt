-- Values that may be absent, one behind the other: where one is absent, so is what is made of it. (The bind is that of Haskell's Maybe and
-- Rust's `Option::and_then`.)
use Rattle.std.specs.Prelude.{Option, None, Some}

infixl 10 ◌>>=◌
abbrev pub ◌>>=◌ : {A B : Type 0} → Option A → (A → Option B) → Option B
None >>= f = None
(Some x) >>= f = f x
