-- The files that a walk found, as they are seen from its folder and in the order of their texts.
use Rattle.std.proofs.Common.{◌≡◌, ◌<◌, ◌+◌, inl, inr, ℕ, true, false, List, [], ◌∷◌, ◌++◌, length, take, get_or, refl, ap, sym, ◌∙◌, subst}
use Rattle.std.proofs.lemmas.List.{take_more}
use Rattle.std.proofs.lemmas.List.Elements.{Contains-append_left, Contains-push, Contains-push_cases}
use Rattle.std.proofs.lemmas.List.Sorted.{Contains-permutation, IsPermutation-sym}
use Rattle.std.proofs.lemmas.Map.Keys.{IsDistinct-IsPermutation}
use Rattle.std.specs.Prelude.{Some, None, Ok}
use Rattle.std.specs.List.{AllByRecursion, Contains, IsDistinct}
use Rattle.std.specs.List.Sorted.{IsPermutation, IsSorted}
use Rattle.std.specs.Cmp.{eq_by_cmp_equiv}
use Rattle.std.specs.Ordering.{eq_by_cmp}
use Rattle.vk_spec.specs.Lists.{NoRepeats}
use Rattle.vk_spec.specs.Paths.{Path, path_cmp}
use Rattle.vk_spec.specs.States.{State}
use Rattle.vk_spec.specs.Standing.{Disk, OnFiles}
use Rattle.vk_spec.proofs.FileLemmas.{path_total, ties_same, ties_other}
use Rattle.vk_spec.proofs.ListLemmas.{contains_nothing, contains_first, contains_later, contains_cases, no_repeats_push}
use Rattle.vk_base.specs.Paths.{IsFrom}
use Rattle.vk_walk.specs.Walks.{Limits, AreFiles, AreFilesBelow, AreSeen, text_order}
use Rattle.vk_walk.specs.Walked.{IsInOrder, WalkIs}
use Rattle.vk_tree.proofs.OnFilesLemmas.{files_then}
use Rattle.vk_tree.proofs.PlaceLemmas.{cancel}
use Rattle.vk_walk.proofs.StepLemmas.{distinct}

pub none_seen : (folder : Path) → AreSeen folder [] []
none_seen folder = record { sound = λ q at. absurd (contains_nothing q at); all = λ rest at. absurd (contains_nothing (folder ++ rest) at); once = λ each. each }

-- the last of a list without repeats is new
last_new : (xs : List Path) (y : Path) → NoRepeats (xs ++ y ∷ []) → NoRepeats xs × (Contains xs y → ⊥)
last_new [] y each = (tt, contains_nothing y)
last_new (x ∷ xs) y each =
    let rest = last_new xs y each.1 in (
      ((λ at. each.0 (Contains-append_left xs (y ∷ []) x at)), rest.0),
      λ at. elim (contains_cases x y xs at) [
        | inl same ↦ each.0 (subst (Contains (xs ++ y ∷ [])) (sym same) (Contains-push xs y))
        | inr later ↦ rest.1 later
      ],
    )

tails_same : (a : List ℕ) (p q : Path) → a ∷ p ≡ a ∷ q → p ≡ q
tails_same a p q e = (cc)

one_seen : (folder path seen_path : Path) (xs seen : List Path) → IsFrom folder path (Some seen_path) → AreSeen folder xs seen → AreSeen folder (xs ++ path ∷ []) (seen ++ seen_path ∷ [])
one_seen folder path seen_path xs seen from s = record {
  sound = λ q at. elim (Contains-push_cases seen seen_path q at) [
    | inl old ↦ (let r = s.sound q old in (r.0, r.1, Contains-append_left xs (path ∷ []) (folder ++ r.0) r.2))
    | inr same ↦ (from.0, sym same ∙ from.2, subst (Contains (xs ++ path ∷ [])) from.1 (Contains-push xs path))
  ];
  all = λ rest at. elim (Contains-push_cases xs path (folder ++ rest) at) [
    | inl old ↦ Contains-append_left seen (seen_path ∷ []) ((46 ∷ []) ∷ rest) (s.all rest old)
    | inr same ↦ (let tail : from.0 ≡ rest = cancel folder from.0 rest (sym from.1 ∙ same) in
        subst (Contains (seen ++ seen_path ∷ [])) (from.2 ∙ ap (λ r. (46 ∷ []) ∷ r) tail) (Contains-push seen seen_path))
  ];
  once = λ each. (let before = last_new xs path each in
      no_repeats_push seen seen_path (s.once before.0) (λ at.
      let r = s.sound seen_path at in
      let tail : from.0 ≡ r.0 = tails_same (46 ∷ []) from.0 r.0 (sym from.2 ∙ r.1) in
      before.1 (subst (Contains xs) (sym (from.1 ∙ ap (λ t. folder ++ t) tail)) r.2)));
}

one_elsewhere : (folder path : Path) (xs seen : List Path) → IsFrom folder path None → AreSeen folder xs seen → AreSeen folder (xs ++ path ∷ []) seen
one_elsewhere folder path xs seen apart s = record {
  sound = λ q at. (let r = s.sound q at in (r.0, r.1, Contains-append_left xs (path ∷ []) (folder ++ r.0) r.2));
  all = λ rest at. elim (Contains-push_cases xs path (folder ++ rest) at) [
    | inl old ↦ s.all rest old
    | inr same ↦ absurd (apart (rest, same))
  ];
  once = λ each. s.once (last_new xs path each).0;
}

-- the next path of a list
next_path : (paths : List Path) (i : ℕ) (path : Path) → i < length paths → path ≡ get_or paths i path → take (i + 1) paths ≡ take i paths ++ path ∷ []
next_path paths i path within is = take_more paths i path within ∙ ap (λ p. take i paths ++ p ∷ []) (sym is)

pub next_seen : (folder path seen_path : Path) (paths seen : List Path) (i : ℕ) → i < length paths → path ≡ get_or paths i path → IsFrom folder path (Some seen_path)
    → AreSeen folder (take i paths) seen → AreSeen folder (take (i + 1) paths) (seen ++ seen_path ∷ [])
next_seen folder path seen_path paths seen i within is from s =
    subst (λ l. AreSeen folder l (seen ++ seen_path ∷ [])) (sym (next_path paths i path within is)) (one_seen folder path seen_path (take i paths) seen from s)

pub next_elsewhere : (folder path : Path) (paths seen : List Path) (i : ℕ) → i < length paths → path ≡ get_or paths i path → IsFrom folder path None
    → AreSeen folder (take i paths) seen → AreSeen folder (take (i + 1) paths) seen
next_elsewhere folder path paths seen i within is apart s =
    subst (λ l. AreSeen folder l seen) (sym (next_path paths i path within is)) (one_elsewhere folder path (take i paths) seen apart s)

-- ---- no repeats, in another order

each_of : (P : Path → Type 0) (ps : List Path) → ((q : Path) → Contains ps q → P q) → AllByRecursion P ps
each_of P [] all = tt
each_of P (p ∷ ps) all = (all p (contains_first p ps), each_of P ps (λ q at. all q (contains_later p q ps at)))

of_each : (P : Path → Type 0) (ps : List Path) (q : Path) → AllByRecursion P ps → Contains ps q → P q
of_each P [] q all at = absurd (contains_nothing q at)
of_each P (p ∷ ps) q all at = elim (contains_cases p q ps at) [ inl same ↦ subst P same all.0 | inr later ↦ of_each P ps q all.1 later ]

to_distinct : (ps : List Path) → NoRepeats ps → IsDistinct (eq_by_cmp path_cmp) ps
unfolding IsDistinct
to_distinct [] each = tt
to_distinct (p ∷ ps) each = (each_of (λ q. eq_by_cmp path_cmp p q ≡ false) ps (λ q at. ties_other p q (λ same. each.0 (subst (Contains ps) (sym same) at))), to_distinct ps each.1)

from_distinct : (ps : List Path) → IsDistinct (eq_by_cmp path_cmp) ps → NoRepeats ps
unfolding IsDistinct
from_distinct [] each = tt
from_distinct (p ∷ ps) each = (
  (λ at. let clash : true ≡ false = sym (ties_same p p refl) ∙ of_each (λ q. eq_by_cmp path_cmp p q ≡ false) ps p each.0 at in (cc)),
  from_distinct ps each.1,
)

still_once : (ps qs : List Path) → IsPermutation ps qs → NoRepeats ps → NoRepeats qs
still_once ps qs moved each = from_distinct qs (IsDistinct-IsPermutation (eq_by_cmp path_cmp) (eq_by_cmp_equiv path_total).symm ps qs moved (to_distinct ps each))

below_by : (d : Disk) (folder : Path) (found seen sorted : List Path) → AreSeen folder found seen → IsPermutation seen sorted → IsSorted text_order sorted → AreFiles d folder found → AreFilesBelow d folder sorted
below_by d folder found seen sorted s moved order f = record {
  order = order;
  once = still_once seen sorted moved (s.once (distinct found f.order));
  sound = λ q at. (let r = s.sound q (Contains-permutation sorted seen q (IsPermutation-sym seen sorted moved) at) in (r.0, r.1, (f.sound (folder ++ r.0) r.2).0));
  all = λ rest is. Contains-permutation seen sorted ((46 ∷ []) ∷ rest) moved (s.all rest (f.all (folder ++ rest) is (rest, refl)));
}

-- what a walk answers
pub walked_by : (most : Limits) (folder : Path) (found seen sorted : List Path) (s : State) → OnFiles (IsInOrder most folder (Ok found)) s → AreSeen folder found seen → IsPermutation seen sorted → IsSorted text_order sorted
    → OnFiles (WalkIs most folder (Ok sorted)) s
walked_by most folder found seen sorted s in_order are moved order =
    files_then (IsInOrder most folder (Ok found)) (WalkIs most folder (Ok sorted)) s (λ d h. (below_by d folder found seen sorted are moved order h.0, h.1, h.2)) in_order
