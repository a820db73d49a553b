-- What a reader of printed values answers, and how two values are printed with a mark between.
use Rattle.std.specs.Prelude.{◌≡◌, ◌++◌, ◌∷◌, ℕ, List, Option, Some, None, Result, Ok, Err}
use Rattle.vk_base.specs.Paths.{Lacks}
use Rattle.vk_base.specs.declared.stops.Unread.{Unread}
use Rattle.vk_base.specs.declared.stops.Unread.TheVariants as unread

-- a right value with this text, or none has it
abbrev pub ReadsAs : {X : Type 0} → (X → List ℕ) → (X → Type 0) → List ℕ → Option X → Type 0
ReadsAs prints is_right text (Some x) = (text ≡ prints x) × is_right x
ReadsAs {X = X} prints is_right text None = (x : X) → is_right x → text ≡ prints x → ⊥

-- no two right values have one text
abbrev pub TellsApart : {X : Type 0} → (X → List ℕ) → (X → Type 0) → Type 0
TellsApart {X = X} prints is_right = (x y : X) → is_right x → is_right y → prints x ≡ prints y → x ≡ y

-- the value that a reading has, or none where it has a fault
abbrev pub FindsOrNot : {X F : Type 0} → Result X (Unread F) → Option X → Type 0
FindsOrNot (Ok x) found = found ≡ Some x
FindsOrNot (Err (unread.Fault fault)) found = found ≡ None
FindsOrNot (Err (unread.Memory memory)) found = ⊥

-- the first text, a mark, and the other text
abbrev pub pair_text : {A B : Type 0} → ℕ → (A → List ℕ) → (B → List ℕ) → A × B → List ℕ
pair_text mark one other p = one p.0 ++ mark ∷ other p.1

abbrev pub pair_plain : {A B P Q : Type 0} → (A → P) → (B → Q) → A × B → P × Q
pair_plain one other p = (one p.0, other p.1)

-- two right values, of which the first is printed without the mark
abbrev pub IsRightPair : {A B : Type 0} → ℕ → (A → List ℕ) → (A → Type 0) → (B → Type 0) → A × B → Type 0
IsRightPair mark one is_right_one is_right_other p = is_right_one p.0 × Lacks mark (one p.0) × is_right_other p.1
