-- What is known of a value, where there is one.
use Rattle.std.specs.Prelude.{Option, Some, None, IfSome}

-- what holds of every value
pub of_each : {A : Type 0} {P : A → Type 0} (o : Option A) → ((x : A) → P x) → IfSome o P
of_each None each = tt
of_each (Some x) each = each x

-- what follows of two facts
pub of_both : {A : Type 0} {P Q R : A → Type 0} (o : Option A) → IfSome o P → IfSome o Q → ((x : A) → P x → Q x → R x) → IfSome o R
of_both None p q join = tt
of_both (Some x) p q join = join x p q
