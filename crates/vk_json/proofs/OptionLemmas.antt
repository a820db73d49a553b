-- What an answer that is there came from, and what holds whatever it is.
use Rattle.std.proofs.Common.{◌≡◌, true, false, Option, Some, None, option_map, option_and_then, refl, sym}
use Rattle.std.specs.Prelude.{Result, Ok, Err, IfOk, MatchOption}
use Rattle.std.specs.Option.{is_some}

pub and_then_some : {A B : Type 0} (o : Option A) (f : A → Option B) (y : B) → option_and_then f o ≡ Some y → (x : A) × (o ≡ Some x) × (f x ≡ Some y)
and_then_some None f y e = (cc)
and_then_some (Some x) f y e = (x, refl, e)

pub map_some : {A B : Type 0} (o : Option A) (f : A → B) (y : B) → option_map f o ≡ Some y → (x : A) × (o ≡ Some x) × (y ≡ f x)
map_some None f y e = (cc)
map_some (Some x) f y e = let is : f x ≡ y = (cc) in (x, refl, sym is)

pub if_ok : {A F : Type 0} (r : Result A F) (P : Type 0) → P → IfOk r (λ x. P)
if_ok (Ok x) P holds = holds
if_ok (Err e) P holds = tt

pub if_none : {A : Type 0} (o : Option A) (P : Type 0) (Q : A → Type 0) → false ≡ is_some o → MatchOption o P Q → P
if_none None P Q none holds = holds
if_none (Some x) P Q none holds = let clash : false ≡ true = none in (cc)
