-- Steps of reading a word. `None` is no number, or no value.
use Rattle.std.specs.Prelude.{Bool, if◌then◌else◌, Option, Some, None}

infixl 10 ◌>>=◌
abbrev pub ◌>>=◌ : {A B : Type 0} → Option A → (A → Option B) → Option B
None >>= f = None
(Some x) >>= f = f x

abbrev pub guarded : {A : Type 0} → Bool → A → Option A
guarded b x = if b then Some x else None
