-- Paths that differ have texts that differ, so that sorted paths ascend by their texts.
use Rattle.std.proofs.Common.{◌≡◌, ◌+◌, inl, inr, ℕ, suc, List, [], ◌∷◌, map, get_or, true, false, refl, ap, sym, ◌∙◌, subst, arith}
use Rattle.std.proofs.lemmas.List.Sorted.{sorted_far}
use Rattle.std.proofs.lemmas.List.MinMax.{ranks_by}
use Rattle.std.specs.List.{All, Contains}
use Rattle.std.specs.List.Sorted.{IsSorted}
use Rattle.std.specs.declared.cmp.Ordering.TheVariants.{Less, Equal, Greater}
use Rattle.std.specs.Ordering.{is_lt, nat_cmp, ordering_reverse}
use Rattle.std.specs.Cmp.Lexicographic.{slice_cmp}
use Rattle.vk_spec.specs.Lists.{NoRepeats}
use Rattle.vk_spec.specs.Paths.{Path}
use Rattle.std.specs.FinMap.{slice_cmp-IsAntisymmetric, nat_cmp-IsAntisymmetric}
use Rattle.vk_spec.proofs.ListLemmas.{contains_nothing, contains_first, contains_later, contains_cases}
use Rattle.vk_folder.proofs.MemberLemmas.{contains_mapped, mapped_from}
use Rattle.vk_base.specs.Paths.{IsPart, IsPath, text_of_path}
use Rattle.vk_base.proofs.PathLaws.{segments_joined, text_down}
use Rattle.vk_base.specs.PathReading.{segments}
use Rattle.vk_walk.specs.Walks.{text_order}
use Rattle.vk_tree.proofs.PlaceLemmas.{part_total}
use Rattle.vk_folder.specs.Folders.{File, ByText}

-- a path as it is seen from above
abbrev pub IsBelow : Path → Type 0
IsBelow p = (part : List ℕ) × (rest : Path) × (p ≡ (46 ∷ []) ∷ part ∷ rest)

texts_tied : (a b : List ℕ) → slice_cmp nat_cmp a b ≡ Equal → a ≡ b
texts_tied = slice_cmp-IsAntisymmetric nat_cmp-IsAntisymmetric

pub tails_same : (a b : List ℕ) (x y : Path) → a ∷ x ≡ b ∷ y → x ≡ y
tails_same a b x y e = (cc)

parts_each : (part : List ℕ) (rest : Path) → IsPath ((46 ∷ []) ∷ part ∷ rest) → All IsPart (part ∷ rest)
parts_each part rest path = subst (All IsPart) (sym (tails_same (46 ∷ []) _ (part ∷ rest) path.parts path.key_is)) path.path.each

parts_again : (part : List ℕ) (rest : Path) → IsPath ((46 ∷ []) ∷ part ∷ rest) → segments (text_of_path ((46 ∷ []) ∷ part ∷ rest)) ≡ part ∷ rest
parts_again part rest path = ap segments (text_down 0 part rest) ∙ segments_joined part rest (parts_each part rest path)

text_same : (p q : Path) → IsPath p → IsPath q → IsBelow p → IsBelow q → text_of_path p ≡ text_of_path q → p ≡ q
text_same p q p_path q_path p_below q_below e =
    let one = parts_again p_below.0 p_below.1 (subst IsPath p_below.2 p_path) in
    let other = parts_again q_below.0 q_below.1 (subst IsPath q_below.2 q_path) in
    let parts : p_below.0 ∷ p_below.1 ≡ q_below.0 ∷ q_below.1 = sym one ∙ ap segments (ap text_of_path (sym p_below.2) ∙ e ∙ ap text_of_path q_below.2) ∙ other in
    p_below.2 ∙ ap (λ l. (46 ∷ []) ∷ l) parts ∙ sym q_below.2

not_after : (p q : Path) → text_order p q ≡ Greater → is_lt (text_order q p) ≡ false → ⊥
not_after p q e test =
    let turned : text_order q p ≡ Less = part_total.antisymm (text_of_path q) (text_of_path p) ∙ ap ordering_reverse e in
    let clash : true ≡ false = sym (ap is_lt turned) ∙ test in (cc)

before : (p q : Path) → (text_of_path p ≡ text_of_path q → p ≡ q) → (p ≡ q → ⊥) → is_lt (text_order q p) ≡ false → text_order p q ≡ Less
before p q same other test =
    elim (text_order p q) as (λ o. text_order p q ≡ o → text_order p q ≡ Less) [
      | Less ↦ λ e. e
      | Equal ↦ λ e. absurd (other (same (texts_tied (text_of_path p) (text_of_path q) e)))
      | Greater ↦ λ e. absurd (not_after p q e test)
    ] refl

later_tail : (p : Path) (ps : List Path) → IsSorted text_order (p ∷ ps) → IsSorted text_order ps
later_tail p ps sorted = λ k d low high. subst (λ (n : ℕ). is_lt (text_order (get_or (p ∷ ps) n d) (get_or ps k d)) ≡ false) {x = suc k + 1} {y = suc (k + 1)} (omega arith) (sorted (suc k) d (omega arith) (omega (arith, high)))

not_below : (p q : Path) (ps : List Path) → IsSorted text_order (p ∷ ps) → Contains ps q → is_lt (text_order q p) ≡ false
not_below p q ps sorted at =
    subst (λ r. is_lt (text_order r p) ≡ false) at.2
    (sorted_far (λ x y. is_lt (text_order x y)) (ranks_by part_total text_of_path) (p ∷ ps) sorted 0 (suc at.0) q (omega arith) (omega (arith, at.1)))

-- the files of sorted paths stand in the order of the texts
pub by_text : (fs : List File) → IsSorted text_order (map (λ f. f.path) fs) → NoRepeats (map (λ f. f.path) fs) → ((f : File) → Contains fs f → IsPath f.path) → ((f : File) → Contains fs f → IsBelow f.path) → ByText fs
by_text [] sorted once paths below = tt
by_text (f ∷ fs) sorted once paths below = (
  λ g at.
      let there : Contains (map (λ x. x.path) fs) g.path = contains_mapped (λ x. x.path) fs g at in
      let later : Contains (f ∷ fs) g = contains_later f g fs at in
      before f.path g.path (text_same f.path g.path (paths f (contains_first f fs)) (paths g later) (below f (contains_first f fs)) (below g later))
      (λ same. once.0 (subst (Contains (map (λ x. x.path) fs)) (sym same) there)) (not_below f.path g.path (map (λ x. x.path) fs) sorted there),
  by_text fs (later_tail f.path (map (λ x. x.path) fs) sorted) once.1 (λ g at. paths g (contains_later f g fs at)) (λ g at. below g (contains_later f g fs at)),
)

texts_apart : (p q : Path) → text_order p q ≡ Less → text_order q p ≡ Less → ⊥
texts_apart p q e f =
    let turned : text_order q p ≡ Greater = part_total.antisymm (text_of_path q) (text_of_path p) ∙ ap ordering_reverse e in
    let clash : Less ≡ Greater = sym f ∙ turned in (cc)

within_tail : (f : File) (fs gs : List File) → ByText (f ∷ fs) → ((h : File) → Contains (f ∷ fs) h → Contains (f ∷ gs) h) → (h : File) → Contains fs h → Contains gs h
within_tail f fs gs order within h at = elim (contains_cases f h gs (within h (contains_later f h fs at))) [
  | inl same ↦ absurd (let less = order.0 f (subst (Contains fs) (sym same) at) in texts_apart f.path f.path less less)
  | inr later ↦ later
]

first_same : (f g : File) (fs gs : List File) → ByText (f ∷ fs) → ByText (g ∷ gs) → Contains (g ∷ gs) f → Contains (f ∷ fs) g → f ≡ g
first_same f g fs gs one other in_other in_one = elim (contains_cases g f gs in_other) [
  | inl same ↦ sym same
  | inr later ↦ elim (contains_cases f g fs in_one) [
    | inl same ↦ same
    | inr later_too ↦ absurd (texts_apart f.path g.path (one.0 g later_too) (other.0 f later))
  ]
]

-- lists with the same files in the order of the texts are the same
pub same_order : (fs gs : List File) → ByText fs → ByText gs → ((f : File) → Contains fs f → Contains gs f) → ((f : File) → Contains gs f → Contains fs f) → fs ≡ gs
same_order [] [] one other to from = refl
same_order [] (g ∷ gs) one other to from = absurd (contains_nothing g (from g (contains_first g gs)))
same_order (f ∷ fs) [] one other to from = absurd (contains_nothing f (to f (contains_first f fs)))
same_order (f ∷ fs) (g ∷ gs) one other to from =
    let first : f ≡ g = first_same f g fs gs one other (to f (contains_first f fs)) (from g (contains_first g gs)) in
    let other_too : ByText (f ∷ gs) = subst (λ h. ByText (h ∷ gs)) (sym first) other in
    let to_too : (h : File) → Contains (f ∷ fs) h → Contains (f ∷ gs) h = λ h at. subst (λ x. Contains (x ∷ gs) h) (sym first) (to h at) in
    let from_too : (h : File) → Contains (f ∷ gs) h → Contains (f ∷ fs) h = λ h at. from h (subst (λ x. Contains (x ∷ gs) h) first at) in
    let rest : fs ≡ gs = same_order fs gs one.1 other.1 (within_tail f fs gs one to_too) (within_tail f gs fs other_too from_too) in
    ap (λ x. x ∷ fs) first ∙ ap (λ l. g ∷ l) rest

-- and none stands twice
pub order_once : (fs : List File) → ByText fs → NoRepeats fs
order_once [] order = tt
order_once (f ∷ fs) order = (
  (λ at. let less = order.0 f at in texts_apart f.path f.path less less),
  order_once fs order.1,
)

path_later : (f : File) (fs : List File) → ((g : File) → Contains fs g → text_order f.path g.path ≡ Less) → Contains (map (λ x. x.path) fs) f.path → ⊥
path_later f fs less at =
    let r = mapped_from (λ x. x.path) fs f.path at in
    let own : text_order f.path f.path ≡ Less = subst (λ p. text_order f.path p ≡ Less) r.2 (less r.0 r.1) in
    texts_apart f.path f.path own own

-- nor does a path
pub paths_once : (fs : List File) → ByText fs → NoRepeats (map (λ f. f.path) fs)
paths_once [] order = tt
paths_once (f ∷ fs) order = (path_later f fs order.0, paths_once fs order.1)
