-- Values that are printed as their parts are.
use Rattle.std.proofs.Common.{◌≡◌, ℕ, List, ap, sym, ◌∙◌, subst}
use Rattle.std.specs.Prelude.{Some, None}
use Rattle.vk_forms.specs.Forms.{ReadsAs, TellsApart}

-- right parts make a right value with the same text, and each right value is made of some
pub record AreParts {P Q : Type 0} (prints : P → List ℕ) (is_right : P → Type 0) (shows : Q → List ℕ) (is_fine : Q → Type 0) (make : P → Q) : Type 0 where
  pub made : (p : P) → is_right p → (prints p ≡ shows (make p)) × is_fine (make p)
  pub parts : (q : Q) → is_fine q → (p : P) × (is_right p × (shows q ≡ prints p) × (q ≡ make p))

module _ {P Q : Type 0} {prints : P → List ℕ} {is_right : P → Type 0} {shows : Q → List ℕ} {is_fine : Q → Type 0} {make : P → Q} where
  pub made_read : AreParts prints is_right shows is_fine make → (text : List ℕ) (p : P) (q : Q) → q ≡ make p → ReadsAs prints is_right text (Some p) → ReadsAs shows is_fine text (Some q)
  made_read are text p q made read =
      let it = are.made p read.1 in
      subst (λ x. (text ≡ shows x) × is_fine x) (sym made) (read.0 ∙ it.0, it.1)

  pub none_made : AreParts prints is_right shows is_fine make → (text : List ℕ) → ReadsAs prints is_right text None → ReadsAs shows is_fine text None
  none_made are text none = λ q fine e. let it = are.parts q fine in none it.0 it.1.0 (e ∙ it.1.1)

  -- what tells the parts apart tells the values apart
  pub parts_apart : AreParts prints is_right shows is_fine make → TellsApart prints is_right → TellsApart shows is_fine
  parts_apart are apart x y one other e =
      let p = are.parts x one in
      let q = are.parts y other in
      p.1.2 ∙ ap make (apart p.0 q.0 p.1.0 q.1.0 (sym p.1.1 ∙ e ∙ q.1.1)) ∙ sym q.1.2

  -- what holds of the text of all right parts holds of that of a right value
  pub parts_hold : AreParts prints is_right shows is_fine make → (Holds : List ℕ → Type 0) → ((p : P) → is_right p → Holds (prints p)) → (q : Q) → is_fine q → Holds (shows q)
  parts_hold are Holds all q fine = let it = are.parts q fine in subst Holds (sym it.1.1) (all it.0 it.1.0)
