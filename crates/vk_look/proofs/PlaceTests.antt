-- The files that a walk found, and the places of an entry.
use Rattle.std.proofs.Common.{◌≡◌, ◌≢◌, ◌⊎◌, inl, inr, not, ◌++◌, ◌∷◌, ℕ, List, Bool, true, false, refl, ap, sym, ◌∙◌, subst}
use Rattle.std.specs.Prelude.{Option, Some, None, IsSome, if◌then◌else◌}
use Rattle.std.specs.List.{Contains}
use Rattle.std.specs.Cmp.Lexicographic.{pointwise}
use Rattle.std.specs.Str.{bytes_eq}
use Rattle.std.proofs.lemmas.Slice.Eq.{bytes_eq-Decides, slice_eq-Decides}
use Rattle.vk_spec.specs.Paths.{Path, Begins}
use Rattle.vk_spec.specs.Standing.{Disk, IsFile}
use Rattle.vk_spec.proofs.ListLemmas.{contains_later, contains_cases}
use Rattle.vk_resolution.proofs.Members.{any_contains, contains_any, contains_map, map_contains, not_true, true_false, true_or_false}
use Rattle.vk_walk.specs.Walks.{IsCalm, AreFiles}
use Rattle.vk_walk.specs.Walked.{walk_limits}
use Rattle.vk_entry.specs.Contents.{Content}
use Rattle.vk_entry.specs.Differences.{has_outside, is_among}
use Rattle.vk_places.specs.Places.{text_at, contents_at, file_at}
use Rattle.vk_look.specs.LookIs.{file_places, places_of, HasExtra, HasMissing, HasAll}

pub if_case : {X : Type 0} (Q : X → Type 0) (b : Bool) (x y : X) → (b ≡ true → Q x) → (b ≡ false → Q y) → Q (if b then x else y)
if_case Q true x y then_it else_it = then_it refl
if_case Q false x y then_it else_it = else_it refl

pub same_bytes : (a b : List ℕ) → bytes_eq a b ≡ true → a ≡ b
same_bytes a b e = (bytes_eq-Decides a b).0 e

pub other_bytes : (a b : List ℕ) → bytes_eq a b ≡ false → a ≢ b
other_bytes a b e same = true_false (bytes_eq a b) ((bytes_eq-Decides a b).1 same) e

pub one_some : {X : Type 0} (x y : X) (o : Option X) → o ≡ Some x → o ≡ Some y → x ≡ y
one_some x y o one other = let e : Some x ≡ Some y = sym one ∙ other in (cc)

pub some_as : {X : Type 0} (x : X) (o : Option X) → o ≡ Some x → IsSome o
some_as x o e = subst IsSome (sym e) refl

some_or_none : {X : Type 0} (o : Option X) → (o ≡ None) ⊎ IsSome o
some_or_none None = inl refl
some_or_none (Some x) = inr refl

-- ---- one path

among_is : (paths : List Path) (q : Path) → is_among paths q ≡ true → Contains paths q
among_is paths q e =
    let p = any_contains (λ p. pointwise bytes_eq p q) paths e in
    subst (Contains paths) ((slice_eq-Decides bytes_eq-Decides p.0 q (pointwise bytes_eq p.0 q) refl).0 p.2) p.1

among_by : (paths : List Path) (q : Path) → Contains paths q → is_among paths q ≡ true
among_by paths q at = contains_any (λ p. pointwise bytes_eq p q) paths q at ((slice_eq-Decides bytes_eq-Decides q q (pointwise bytes_eq q q) refl).1 refl)

-- one of the paths isn't among the others
outside : (paths others : List Path) → has_outside paths others ≡ true → (q : Path) × Contains paths q × (Contains others q → ⊥)
outside paths others e =
    let q = any_contains (λ q. not (is_among others q)) paths e in
    (q.0, q.1, λ at. true_false (is_among others q.0) (among_by others q.0 at) (not_true (is_among others q.0) q.2))

none_outside : (paths others : List Path) → has_outside paths others ≡ false → (q : Path) → Contains paths q → Contains others q
none_outside paths others e q at = elim (true_or_false (is_among others q)) [
  | inl is ↦ among_is others q is
  | inr off ↦ absurd (true_false (has_outside paths others) (contains_any (λ q. not (is_among others q)) paths q at (ap not off)) e)
]

-- ---- all that a walk found

module _ (entry : Path) (cs : List Content) (found : List Path) (d : Disk) (files : AreFiles d entry found) where
  pub some_extra : has_outside found (places_of entry cs) ≡ true → HasExtra entry cs d
  some_extra e =
      let q = outside found (places_of entry cs) e in
      let is = files.sound q.0 q.1 in
      inl (q.0, is.0, is.1, q.2)

  all_placed : has_outside found (places_of entry cs) ≡ false → (q : Path) → IsFile d q → Begins entry q → Contains (places_of entry cs) q
  all_placed e q is below = none_outside found (places_of entry cs) e q (files.all q is below)

  pub no_extra : IsCalm walk_limits d entry → has_outside found (places_of entry cs) ≡ false → HasExtra entry cs d → ⊥
  no_extra calm e (inl q) = q.3 (all_placed e q.0 q.1 q.2)
  no_extra calm e (inr l) = calm l.1.place l.0 l.1.passes

  not_found : (name : List ℕ) (rest q : Path) → entry ++ name ∷ rest ≡ q → (Contains found q → ⊥) → d q ≡ None
  not_found name rest q is out = elim (some_or_none (d q)) [
    | inl none ↦ none
    | inr some ↦ absurd (out (files.all q some (name ∷ rest, sym is)))
  ]

  pub some_missing : IsFile d (text_at entry) → IsFile d (contents_at entry) → has_outside (places_of entry cs) found ≡ true → HasMissing entry cs d
  some_missing text list e =
      let q = outside (places_of entry cs) found e in
      elim (contains_cases (text_at entry) q.0 (contents_at entry ∷ file_places entry cs) q.1) [
        | inl same ↦ absurd (q.2 (files.all q.0 (subst (IsFile d) same text) (_, sym same)))
        | inr more ↦ elim (contains_cases (contents_at entry) q.0 (file_places entry cs) more) [
          | inl same ↦ absurd (q.2 (files.all q.0 (subst (IsFile d) same list) (_, sym same)))
          | inr file ↦ (let c = contains_map (λ c. file_at entry c.path) cs q.0 file in (c.0, c.1, ap d c.2 ∙ not_found _ _ q.0 c.2 q.2))
        ]
      ]

  pub all_there : IsCalm walk_limits d entry → has_outside found (places_of entry cs) ≡ false → has_outside (places_of entry cs) found ≡ false → HasAll entry cs d
  all_there calm no_more none = record {
    calm = calm;
    only = all_placed no_more;
    there = λ c at.
        (let place : Contains (file_places entry cs) (file_at entry c.path) = map_contains (λ x. file_at entry x.path) cs c at in
        (files.sound (file_at entry c.path) (none_outside (places_of entry cs) found none (file_at entry c.path)
        (contains_later (text_at entry) (file_at entry c.path) (contents_at entry ∷ file_places entry cs) (contains_later (contents_at entry) (file_at entry c.path) (file_places entry cs) place)))).0);
  }
