-- Readings of two values that have the same members.
use Rattle.std.proofs.Common.{◌≡◌, ℕ, List, ap, refl, ◌∙◌}
use Rattle.std.specs.Prelude.{Result, Ok, Err}
use Rattle.serde_json.specs.Data.{Data}
use Rattle.serde_json.specs.Find.{get}
use Rattle.vk_spec.specs.Reading.{◌>>=◌, or_fault}
use Rattle.vk_json.specs.declared.faults.Why.TheVariants as why
use Rattle.vk_json.specs.Places.{here, inside, member_step}
use Rattle.vk_json.specs.Readings.{Reading, if_there, read_or, wanted, optional, optional_or}

-- the same first step
pub on_same : {A B F : Type 0} (x : Result A F) {f g : A → Result B F} → ((a : A) → f a ≡ g a) → (x >>= f) ≡ (x >>= g)
on_same (Ok a) same = same a
on_same (Err e) same = refl

-- steps that are the same, one after the other
pub then_same : {A B F : Type 0} {x y : Result A F} {f g : A → Result B F} → x ≡ y → ((a : A) → f a ≡ g a) → (x >>= f) ≡ (y >>= g)
then_same {x = x} {f = f} {g = g} same next = ap (λ r. r >>= f) same ∙ on_same _ next

module _ {A : Type 0} (f : Reading A) (key : List ℕ) (d e : Data) (same : get key d ≡ get key e) where
  pub wanted_same : wanted f key d ≡ wanted f key e
  unfolding wanted
  wanted_same = ap (λ o. inside (member_step key) (or_fault (here why.Missing) o >>= f)) same

  pub optional_same : optional f key d ≡ optional f key e
  unfolding optional
  optional_same = ap (λ o. inside (member_step key) (if_there f o)) same

  pub optional_or_same : (default : A) → optional_or default f key d ≡ optional_or default f key e
  unfolding optional_or
  optional_or_same default = ap (λ o. inside (member_step key) (read_or default f o)) same
