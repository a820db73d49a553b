-- One of two values.
use Rattle.std.proofs.Common.{◌≡◌, ◌⊎◌, inl, inr, ℕ, List}
use Rattle.std.specs.Prelude.{None}
use Rattle.vk_forms.specs.Forms.{ReadsAs}
use Rattle.vk_forms.specs.Choices.{either_text, IsRightEither}

module _ {P Q : Type 0} (one : P → List ℕ) (other : Q → List ℕ) (is_right_one : P → Type 0) (is_right_other : Q → Type 0) (text : List ℕ) where
  neither_of : ReadsAs one is_right_one text None → ReadsAs other is_right_other text None → (x : P ⊎ Q) → IsRightEither is_right_one is_right_other x → text ≡ either_text one other x → ⊥
  neither_of no_one no_other (inl p) right e = no_one p right e
  neither_of no_one no_other (inr q) right e = no_other q right e

  -- where it is neither, it is none
  pub neither_read : ReadsAs one is_right_one text None → ReadsAs other is_right_other text None → ReadsAs (either_text one other) (IsRightEither is_right_one is_right_other) text None
  neither_read no_one no_other = neither_of no_one no_other
