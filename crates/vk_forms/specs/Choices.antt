-- One of two values.
use Rattle.std.specs.Prelude.{◌⊎◌, ℕ, List}
use Rattle.std.proofs.Common.{inl, inr}
use Rattle.vk_forms.specs.declared.choices.Either.{Either}
use Rattle.vk_forms.specs.declared.choices.Either.TheVariants.{One, Other}

abbrev pub either_plain : {A B P Q : Type 0} → (A → P) → (B → Q) → Either A B → P ⊎ Q
either_plain one other (One a) = inl (one a)
either_plain one other (Other b) = inr (other b)

abbrev pub either_text : {P Q : Type 0} → (P → List ℕ) → (Q → List ℕ) → P ⊎ Q → List ℕ
either_text one other (inl p) = one p
either_text one other (inr q) = other q

abbrev pub IsRightEither : {P Q : Type 0} → (P → Type 0) → (Q → Type 0) → P ⊎ Q → Type 0
IsRightEither one other (inl p) = one p
IsRightEither one other (inr q) = other q
