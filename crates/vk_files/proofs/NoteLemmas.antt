-- Notes that are right: more of them, and what is found among them.
use Rattle.std.proofs.Common.{◌≡◌, Bool, true, false, cond, List, [], ◌∷◌, ◌++◌, inl, inr, refl, sym, subst, ◌∙◌, true≢false}
use Rattle.std.specs.List.{Contains, IsDistinct, AllByRecursion}
use Rattle.vk_spec.specs.Lists.{NoRepeats}
use Rattle.vk_spec.proofs.ListLemmas.{contains_nothing, contains_cases}
use Rattle.std.specs.Prelude.{Option, Some}
use Rattle.std.specs.Map.{lookup}
use Rattle.vk_files.specs.Notes.{AreRight}

pub right_more : {K V : Type 0} (P : K → V → Type 0) (es more : List (K × V)) → AreRight P es → AreRight P more → AreRight P (es ++ more)
right_more P [] more one two = two
right_more P (e ∷ es) more one two = (one.0, right_more P es more one.1 two)

right_at : {K V : Type 0} (P : K → V → Type 0) (b : Bool) (key : K) (first : V) (k : K) (v : V) (later : Option V) → (b ≡ true → k ≡ key) → P key first → (later ≡ Some v → P k v) → cond b (Some first) later ≡ Some v → P k v
right_at P true key first k v later same right rest found = subst (λ x. P x v) (sym (same refl)) (subst (P key) (some_inj found) right)
  where
    some_inj : Some first ≡ Some v → first ≡ v
    some_inj e = (cc)
right_at P false key first k v later same right rest found = rest found

-- what is found under a key is right of that key
pub right_found : {K V : Type 0} (P : K → V → Type 0) (eq : K → K → Bool) → ((x y : K) → eq x y ≡ true → x ≡ y)
    → (es : List (K × V)) (k : K) (v : V) → AreRight P es → lookup (eq k) es ≡ Some v → P k v
right_found P eq same [] k v right found = (cc)
right_found P eq same (e ∷ es) k v right found = right_at P (eq k e.0) e.0 e.1 k v (lookup (eq k) es) (same k e.0) right.0 (right_found P eq same es k v right.1) found

by_recursion_contains : {X : Type 0} (P : X → Type 0) (xs : List X) → AllByRecursion P xs → (x : X) → Contains xs x → P x
by_recursion_contains P [] each x there = absurd (contains_nothing x there)
by_recursion_contains P (y ∷ ys) each x there = elim (contains_cases y x ys there) [
  | inl same ↦ subst P same each.0
  | inr later ↦ by_recursion_contains P ys each.1 x later
]

-- keys of which none is equal to another stand once each
pub distinct_once : {K : Type 0} (eq : K → K → Bool) → ((x : K) → eq x x ≡ true) → (ks : List K) → IsDistinct eq ks → NoRepeats ks
unfolding IsDistinct
distinct_once eq own [] each = tt
distinct_once eq own (k ∷ ks) each = ((λ there. true≢false (sym (own k) ∙ by_recursion_contains _ ks each.0 k there)), distinct_once eq own ks each.1)
